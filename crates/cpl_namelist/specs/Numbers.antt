-- The numbers that the values of a name stand for.
use Rattle.std.specs.Prelude.{◌≡◌, ℕ, ◌≤◌, List, [], ◌∷◌, ◌++◌, length, take, replicate, Bool, true, false, ◌&&◌, nat_le, ◌==◌, if◌then◌else◌, Option, Some, None, option_map, pos}
use Rattle.jiff.specs.Words.{days_in_month}
use Rattle.cpl_namelist.specs.declared.token.Kind.{Kind}
use Rattle.cpl_namelist.specs.declared.token.Kind.TheVariants.{Word, Slash, Equals, Comma}
use Rattle.cpl_namelist.specs.declared.table.Holds.{Holds}
use Rattle.cpl_namelist.specs.declared.table.Holds.TheVariants.{Moment}
use Rattle.cpl_namelist.specs.declared.table.Row.{Row}
use Rattle.cpl_namelist.specs.declared.numbers.Numbers.{Numbers}
use Rattle.cpl_namelist.specs.declared.numbers.Next.{Next}
use Rattle.cpl_namelist.specs.declared.numbers.Next.TheVariants.{End, More, Wrong}
use Rattle.cpl_namelist.specs.Tokens.{Lexeme}
use Rattle.cpl_namelist.specs.Values.{value}

-- numbers in order, without the places after them
abbrev pub listed : Numbers → List ℕ
listed numbers = take numbers.count numbers.places

-- these numbers, and then those
abbrev pub with_front : List ℕ → Option (List ℕ) → Option (List ℕ)
with_front front more = option_map (λ ns. front ++ ns) more

-- a value's numbers and those after it
abbrev pub value_and : Option (ℕ × ℕ) → Option (List ℕ) → Option (List ℕ)
value_and None more = None
value_and (Some v) more = with_front (replicate v.0 v.1) more

-- the numbers of a token among values and those after it: a name and / end the values
abbrev pub number_front : Kind → Option (ℕ × ℕ) → Option (List ℕ) → Option (List ℕ)
number_front Word v more = Some []
number_front Slash v more = Some []
number_front Equals v more = more
number_front Comma v more = more
number_front _ v more = value_and v more

-- the numbers that the values up to the next name or / stand for, each as often as its repeat says
unfoldable pub numbers : Row → List Lexeme → Option (List ℕ)
numbers row [] = Some []
numbers row (token ∷ others) = number_front token.kind (value row token.kind token.text) (numbers row others)

-- a date of year 1 to 9999 on the Gregorian calendar
abbrev pub is_date : ℕ → ℕ → ℕ → Bool
is_date year month day =
    nat_le 1 year && nat_le year 9999 && nat_le 1 month && nat_le month 12 && nat_le 1 day && nat_le day (days_in_month (pos year) month)

-- a date and a time of day
abbrev pub is_moment : List ℕ → Bool
is_moment (year ∷ month ∷ day ∷ hour ∷ minute ∷ second ∷ []) =
    is_date year month day && nat_le hour 23 && nat_le minute 59 && nat_le second 59
is_moment _ = false

-- six that are a moment, where the row holds one
abbrev pub suits_held : Holds → List ℕ → Bool
suits_held Moment ns = is_moment ns
suits_held _ ns = true

-- as many as the row holds, and a moment where it holds one
abbrev pub suits : Row → List ℕ → Bool
suits row ns = length ns == row.count && suits_held row.holds ns

-- numbers that pass a test
abbrev pub kept : (List ℕ → Bool) → Option (List ℕ) → Option (List ℕ)
kept test None = None
kept test (Some ns) = if test ns then Some ns else None

-- the numbers of the values in front, where they fit the row
unfoldable pub fitting : Row → List Lexeme → Option (List ℕ)
fitting row tokens = kept (suits row) (numbers row tokens)

-- what a step among the values says of all numbers, whatever follows
abbrev pub LeadsTo : Row → Numbers → Kind → List ℕ → Next → Type 0
LeadsTo row front kind text End = (more : Option (List ℕ)) → number_front kind (value row kind text) more ≡ Some []
LeadsTo row front kind text (More next) =
    (next.count ≤ row.count)
    × ((more : Option (List ℕ)) → with_front (listed front) (number_front kind (value row kind text) more) ≡ with_front (listed next) more)
LeadsTo row front kind text Wrong =
    (more : Option (List ℕ)) → kept (suits row) (with_front (listed front) (number_front kind (value row kind text) more)) ≡ None
