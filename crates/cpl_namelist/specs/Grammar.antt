-- What a namelist is, by the kinds of its tokens.
use Rattle.std.specs.Prelude.{◌≡◌, ◌⊎◌, ℕ, List, [], ◌∷◌, ◌++◌, map, Bool, true, false, Result, Err}
use Rattle.cpl_namelist.specs.declared.token.Kind.{Kind}
use Rattle.cpl_namelist.specs.declared.token.Kind.TheVariants as kind
use Rattle.cpl_namelist.specs.declared.fault.NamesError.{NamesError}
use Rattle.cpl_namelist.specs.declared.fault.NamesError.TheVariants.{Syntax}
use Rattle.cpl_namelist.specs.declared.names.Names.{Names}
use Rattle.cpl_namelist.specs.Tokens.{Lexeme, tokens, last_line}

-- a value is an integer, a repeat, a text or a logical
pub data Literal : Type 0 where
  integer : Literal
  repeat : Literal
  text : Literal
  logical : Literal

-- a value, and whether a comma follows
pub record Value : Type 0 where
  pub literal : Literal
  pub comma : Bool

-- a word, =, and one or more values
pub record Assignment : Type 0 where
  pub first : Value
  pub others : List Value

-- the kind of token that it is
abbrev pub literal_kind : Literal → Kind
literal_kind integer = kind.Integer
literal_kind repeat = kind.Repeat
literal_kind text = kind.Text
literal_kind logical = kind.Logical

-- each of these spells something in front of the kinds that follow
abbrev pub comma_then : Bool → List Kind → List Kind
comma_then true tail = kind.Comma ∷ tail
comma_then false tail = tail

-- a literal, with its comma or without
abbrev pub value_then : Value → List Kind → List Kind
value_then value tail = literal_kind value.literal ∷ comma_then value.comma tail

-- one value after the other
abbrev pub values_then : List Value → List Kind → List Kind
values_then [] tail = tail
values_then (value ∷ values) tail = value_then value (values_then values tail)

-- one assignment after the other
abbrev pub assignments_then : List Assignment → List Kind → List Kind
assignments_then [] tail = tail
assignments_then (a ∷ others) tail = kind.Word ∷ kind.Equals ∷ value_then a.first (values_then a.others (assignments_then others tail))

-- a group is a group token, assignments, and /; a namelist is a list of groups
abbrev pub spelling : List (List Assignment) → List Kind
spelling [] = []
spelling (group ∷ groups) = kind.Group ∷ assignments_then group (kind.Slash ∷ spelling groups)

-- some groups are spelled so
pub record IsNamelist (kinds : List Kind) : Type 0 where
  pub groups : List (List Assignment)
  pub spelled : kinds ≡ spelling groups

-- some namelist begins so
pub record BeginsOne (kinds : List Kind) : Type 0 where
  pub tail : List Kind
  pub whole : IsNamelist (kinds ++ tail)

-- the kinds of tokens, in order
abbrev pub kinds_of : List Lexeme → List Kind
kinds_of tokens = map (λ token. token.kind) tokens

-- the tokens before this one begin a namelist, and with it they don't
pub record StopsAt (tokens : List Lexeme) (line : ℕ) : Type 0 where
  pub front : List Lexeme
  pub token : Lexeme
  pub tail : List Lexeme
  pub parts : tokens ≡ front ++ token ∷ tail
  pub before : BeginsOne (kinds_of front)
  pub wrong : ¬ BeginsOne (kinds_of (front ++ token ∷ []))
  pub there : token.line ≡ line

-- all tokens begin a namelist, but are none
pub record EndsEarly (bytes : List ℕ) (line : ℕ) : Type 0 where
  pub begins : BeginsOne (kinds_of (tokens bytes))
  pub wrong : ¬ IsNamelist (kinds_of (tokens bytes))
  pub there : line ≡ last_line bytes

-- where a text's fault is Syntax, its line is that of the first token that can't follow those before it, or the last
-- line where the text ends too early; else its tokens are a namelist
abbrev pub HasOrder : List ℕ → Result Names NamesError → Type 0
HasOrder bytes (Err (Syntax line)) = StopsAt (tokens bytes) line ⊎ EndsEarly bytes line
HasOrder bytes _ = IsNamelist (kinds_of (tokens bytes))
