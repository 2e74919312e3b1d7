-- The steps of the search for the first token that can't stand where it does.
use Rattle.std.proofs.Common.{◌≡◌, ℕ, List, [], ◌∷◌, Option, Some, None, ap, ◌∙◌}
use Rattle.cpl_namelist.specs.declared.syntax.State.{State}
use Rattle.cpl_namelist.specs.Tokens.{Lexeme}
use Rattle.cpl_namelist.specs.Syntax.{follow, end_fault, fault_after, syntax_fault}

pub fault_here : (last : ℕ) (place : State) (tokens : List Lexeme) (token : Lexeme) (others : List Lexeme) → tokens ≡ token ∷ others → follow place token.kind ≡ None
    → syntax_fault last place tokens ≡ Some token.line
unfolding syntax_fault
fault_here last place tokens token others e here = ap (syntax_fault last place) e ∙ ap (λ (o : Option State). fault_after token.line o (λ next. syntax_fault last next others)) here

pub fault_later : (last : ℕ) (place : State) (tokens : List Lexeme) (token : Lexeme) (others : List Lexeme) (next : State) → tokens ≡ token ∷ others → follow place token.kind ≡ Some next
    → syntax_fault last place tokens ≡ syntax_fault last next others
unfolding syntax_fault
fault_later last place tokens token others next e here = ap (syntax_fault last place) e ∙ ap (λ (o : Option State). fault_after token.line o (λ next. syntax_fault last next others)) here

pub fault_at_end : (last : ℕ) (place : State) (tokens : List Lexeme) → tokens ≡ [] → syntax_fault last place tokens ≡ end_fault last place
unfolding syntax_fault
fault_at_end last place tokens e = ap (syntax_fault last place) e
