-- The order in which tokens may stand.
use Rattle.std.specs.Prelude.{ℕ, List, [], ◌∷◌, Bool, true, false, Option, Some, None}
use Rattle.cpl_namelist.specs.declared.token.Kind.{Kind}
use Rattle.cpl_namelist.specs.declared.token.Kind.TheVariants.{Group, Word, Equals, Comma, Slash, Integer, Repeat, Text, Logical}
use Rattle.cpl_namelist.specs.declared.syntax.State.{State}
use Rattle.cpl_namelist.specs.declared.syntax.State.TheVariants.{Outside, Inside, Named, Assigned, Valued, Separated}
use Rattle.cpl_namelist.specs.Tokens.{Lexeme}

-- an integer, a repeat, a text or a logical
abbrev pub is_value : Kind → Bool
is_value Integer = true
is_value Repeat = true
is_value Text = true
is_value Logical = true
is_value _ = false

-- after a value, with its comma or without, or at the beginning of a group
abbrev pub in_group : Kind → Option State
in_group Word = Some Named
in_group Slash = Some Outside
in_group _ = None

-- a value, or else what another token leads to
abbrev pub value_or : Option State → Kind → Option State
value_or other Integer = Some Valued
value_or other Repeat = Some Valued
value_or other Text = Some Valued
value_or other Logical = Some Valued
value_or other _ = other

-- where a token leads
abbrev pub follow : State → Kind → Option State
follow Outside Group = Some Inside
follow Inside kind = in_group kind
follow Named Equals = Some Assigned
follow Assigned kind = value_or None kind
follow Valued Comma = Some Separated
follow Valued kind = value_or (in_group kind) kind
follow Separated kind = value_or (in_group kind) kind
follow _ _ = None

-- the end of the text
abbrev pub end_fault : ℕ → State → Option ℕ
end_fault last Outside = None
end_fault last _ = Some last

-- the fault after a token on this line, which is itself the fault where it leads nowhere
abbrev pub fault_after : ℕ → Option State → (State → Option ℕ) → Option ℕ
fault_after line None next = Some line
fault_after line (Some place) next = next place

-- the line of the first token that can't stand where it does, or the last line where the text ends too early
unfoldable pub syntax_fault : ℕ → State → List Lexeme → Option ℕ
syntax_fault last place [] = end_fault last place
syntax_fault last place (token ∷ others) = fault_after token.line (follow place token.kind) (λ next. syntax_fault last next others)
