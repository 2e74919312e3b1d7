-- What a namelist sets, and the first fault of its headings and assignments.
use Rattle.std.specs.Prelude.{ℕ, List, [], ◌∷◌, drop, take, map, replicate, Bool, true, false, Option, Some, None, option_map, unwrap_or, is_some, slice_index, slice_index_or, slice_set, Result, Ok, Err, if◌then◌else◌}
use Rattle.cpl_namelist.specs.declared.fault.NamesError.{NamesError}
use Rattle.cpl_namelist.specs.declared.fault.NamesError.TheVariants as fault
use Rattle.cpl_namelist.specs.declared.token.Kind.{Kind}
use Rattle.cpl_namelist.specs.declared.token.Kind.TheVariants as kind
use Rattle.cpl_namelist.specs.declared.group.Group.{Group}
use Rattle.cpl_namelist.specs.declared.group.Group.TheVariants.{Coupler}
use Rattle.cpl_namelist.specs.declared.table.Row.{Row}
use Rattle.cpl_namelist.specs.declared.settings.Settings.{Settings}
use Rattle.cpl_fixed.specs.Results.{◌>>=◌}
use Rattle.cpl_namelist.specs.Tokens.{Lexeme}
use Rattle.cpl_namelist.specs.Groups.{group_named, group_place}
use Rattle.cpl_namelist.specs.Table.{name_in_group, row_at}
use Rattle.cpl_namelist.specs.Numbers.{listed, fitting}

-- the open group, whether each group came so far, and the numbers of each name that was given so far
pub record Choices : Type 0 where
  pub group : Group
  pub groups : List Bool
  pub given : List (Option (List ℕ))

-- settings, without where they lie in memory
abbrev pub choices : Settings → Choices
choices settings = record { group = settings.group; groups = settings.groups; given = map (λ numbers. option_map listed numbers) settings.given }

-- before the first heading
abbrev pub nothing : Choices
nothing = record { group = Coupler; groups = replicate 6 false; given = replicate 31 None }

-- the numbers that the name at this place was given
abbrev pub given_at : Choices → ℕ → Option (List ℕ)
given_at chosen place = slice_index_or chosen.given place None

-- whether it was given any
abbrev pub is_given : Choices → ℕ → Bool
is_given chosen place = is_some (given_at chosen place)

-- the group is opened
abbrev pub opened : Choices → ℕ → Group → Result Choices NamesError
opened chosen line group =
    if slice_index_or chosen.groups (group_place group) false then Err (fault.Twice line)
    else Ok (record { group = group; groups = slice_set chosen.groups (group_place group) true; given = chosen.given })

-- a heading with the group that it names
abbrev pub opened_named : Choices → ℕ → Option Group → Result Choices NamesError
opened_named chosen line None = Err (fault.UnknownGroup line)
opened_named chosen line (Some group) = opened chosen line group

-- a heading, whose first byte is &
abbrev pub heading : Choices → Lexeme → Result Choices NamesError
heading chosen token = opened_named chosen token.line (group_named (drop 1 token.text))

-- the name at this place is given these numbers
abbrev pub set_to : Choices → ℕ → ℕ → Option (List ℕ) → Result Choices NamesError
set_to chosen line place None = Err (fault.Value line)
set_to chosen line place (Some ns) = Ok (record { group = chosen.group; groups = chosen.groups; given = slice_set chosen.given place (Some ns) })

-- an assignment with the name that it is to
abbrev pub assigned : Choices → ℕ → List Lexeme → Option ℕ → Result Choices NamesError
assigned chosen line others None = Err (fault.UnknownName line)
assigned chosen line others (Some place) =
    if is_given chosen place then Err (fault.Twice line) else set_to chosen line place (fitting (row_at place) others)

-- an assignment to the name that this token is, with the rest
abbrev pub assignment : Choices → Lexeme → List Lexeme → Result Choices NamesError
assignment chosen token others = assigned chosen token.line others (name_in_group chosen.group token.text)

-- a heading, an assignment, or a token that belongs to one
abbrev pub kind_judged : Kind → Choices → Lexeme → List Lexeme → Result Choices NamesError
kind_judged kind.Group chosen token others = heading chosen token
kind_judged kind.Word chosen token others = assignment chosen token others
kind_judged _ chosen token others = Ok chosen

-- a group token is a heading, and a word is the name of an assignment
abbrev pub token_judged : Choices → Lexeme → List Lexeme → Result Choices NamesError
token_judged chosen token others = kind_judged token.kind chosen token others

-- headings and assignments are gone through in order, and the first fault decides
unfoldable pub judged : Choices → List Lexeme → Result Choices NamesError
judged chosen [] = Ok chosen
judged chosen (token ∷ others) = token_judged chosen token others >>= λ next. judged next others

-- the default of a row
abbrev pub default_of : Row → List ℕ
default_of row = take row.count (unwrap_or row.default (replicate 12 0))

-- the numbers given, or else the default
abbrev pub numbers_at : Choices → ℕ → List ℕ
numbers_at chosen place = unwrap_or (given_at chosen place) (default_of (row_at place))

-- the number at a place among them, 0 past the last
abbrev pub number : Choices → ℕ → ℕ → ℕ
number chosen place k = slice_index (numbers_at chosen place) k
