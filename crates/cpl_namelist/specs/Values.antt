-- What the values of a name stand for.
use Rattle.std.specs.Prelude.{ℕ, zero, suc, ◌+◌, ◌-◌, List, [], ◌∷◌, length, take, drop, codes, Bool, ◌&&◌, nat_le, ◌==◌, if◌then◌else◌, Option, Some, None}
use Rattle.cpl_fixed.specs.Decimals.{value_of}
use Rattle.cpl_namelist.specs.declared.token.Kind.{Kind}
use Rattle.cpl_namelist.specs.declared.token.Kind.TheVariants as kind
use Rattle.cpl_namelist.specs.declared.table.Holds.{Holds}
use Rattle.cpl_namelist.specs.declared.table.Holds.TheVariants as holds
use Rattle.cpl_namelist.specs.declared.table.Row.{Row}
use Rattle.cpl_namelist.specs.Tokens.{same_word, digits_len}

-- a number, where it is in the range
abbrev pub in_range : ℕ → ℕ → Option ℕ → Option ℕ
in_range low high None = None
in_range low high (Some n) = if nat_le low n && nat_le n high then Some n else None

-- zero has no sign
abbrev pub only_zero : ℕ → Option ℕ
only_zero zero = Some 0
only_zero (suc n) = None

-- the number that an integer stands for, where it is not negative
abbrev pub natural : List ℕ → Option ℕ
natural [] = Some 0
natural (byte ∷ digits) =
    if byte == 45 then only_zero (value_of digits)
    else (if byte == 43 then Some (value_of digits) else Some (value_of (byte ∷ digits)))

-- so many times a number, where both are there
abbrev pub times_number : Option ℕ → Option ℕ → Option (ℕ × ℕ)
times_number (Some times) (Some n) = Some (times, n)
times_number _ _ = None

-- a number that stands for itself
abbrev pub once : Option ℕ → Option (ℕ × ℕ)
once n = times_number (Some 1) n

-- a repeat r*c: r from 1 to 64
abbrev pub repeat : List ℕ → ℕ → ℕ → Option (ℕ × ℕ)
repeat text low high =
    times_number (in_range 1 64 (natural (take (digits_len text) text))) (in_range low high (natural (drop (digits_len text + 1) text)))

-- between its marks a text says gregorian
abbrev pub is_gregorian : List ℕ → Bool
is_gregorian text = same_word (take (length text - 2) (drop 1 text)) (codes "gregorian")

-- .true. counts as 1, .false. as 0
abbrev pub logical : List ℕ → ℕ
logical text = if same_word text (codes ".true.") then 1 else 0

-- an integer or a repeat
abbrev pub number_value : Row → Kind → List ℕ → Option (ℕ × ℕ)
number_value row kind.Integer text = once (in_range row.low row.high (natural text))
number_value row kind.Repeat text = repeat text row.low row.high
number_value row _ text = None

-- a text that says gregorian, which counts as 1
abbrev pub calendar_value : Row → Kind → List ℕ → Option (ℕ × ℕ)
calendar_value row kind.Text text = if is_gregorian text then once (in_range row.low row.high (Some 1)) else None
calendar_value row _ text = None

-- a logical
abbrev pub logical_value : Row → Kind → List ℕ → Option (ℕ × ℕ)
logical_value row kind.Logical text = once (in_range row.low row.high (Some (logical text)))
logical_value row _ text = None

-- by what the row holds
abbrev pub value_held : Holds → Row → Kind → List ℕ → Option (ℕ × ℕ)
value_held holds.Numbers row kind text = number_value row kind text
value_held holds.Moment row kind text = number_value row kind text
value_held holds.Calendar row kind text = calendar_value row kind text
value_held holds.Logical row kind text = logical_value row kind text

-- how often a value stands for a number, and which, where the row may hold it
abbrev pub value : Row → Kind → List ℕ → Option (ℕ × ℕ)
value row kind text = value_held row.holds row kind text
