-- The numbers so far, and those after them.
use Rattle.std.proofs.Common.{◌≡◌, ℕ, List, [], ◌∷◌, Option, Some, None, refl, sym, ap, ◌∙◌}
use Rattle.std.proofs.lemmas.List.{append-nil}
use Rattle.cpl_namelist.specs.declared.table.Row.{Row}
use Rattle.cpl_namelist.specs.Tokens.{Lexeme}
use Rattle.cpl_namelist.specs.Values.{value}
use Rattle.cpl_namelist.specs.Numbers.{with_front, number_front, numbers, kept, suits, fitting}

numbers_next : (row : Row) (tokens : List Lexeme) (token : Lexeme) (others : List Lexeme) → tokens ≡ token ∷ others → numbers row tokens ≡ number_front token.kind (value row token.kind token.text) (numbers row others)
unfolding numbers
numbers_next row tokens token others e = ap (numbers row) e

numbers_none : (row : Row) (tokens : List Lexeme) → tokens ≡ [] → numbers row tokens ≡ Some []
unfolding numbers
numbers_none row tokens e = ap (numbers row) e

with_front_nil : (more : Option (List ℕ)) → with_front [] more ≡ more
with_front_nil None = refl
with_front_nil (Some ns) = refl

-- before the first value
pub front_begins : (row : Row) (tokens : List Lexeme) → kept (suits row) (with_front [] (numbers row tokens)) ≡ fitting row tokens
unfolding fitting
front_begins row tokens = ap (kept (suits row)) (with_front_nil (numbers row tokens))

-- a token that ends the values
pub front_ends : (row : Row) (front : List ℕ) (tokens : List Lexeme) (token : Lexeme) (others : List Lexeme) → tokens ≡ token ∷ others
    → ((more : Option (List ℕ)) → number_front token.kind (value row token.kind token.text) more ≡ Some []) → kept (suits row) (Some front) ≡ kept (suits row) (with_front front (numbers row tokens))
front_ends row front tokens token others e h =
    ap (λ (ns : List ℕ). kept (suits row) (Some ns)) (sym (append-nil front)) ∙ ap (λ (more : Option (List ℕ)). kept (suits row) (with_front front more)) (sym (numbers_next row tokens token others e ∙ h (numbers row others)))

-- the end of the text
pub front_is_all : (row : Row) (front : List ℕ) (tokens : List Lexeme) → tokens ≡ [] → kept (suits row) (Some front) ≡ kept (suits row) (with_front front (numbers row tokens))
front_is_all row front tokens e =
    ap (λ (ns : List ℕ). kept (suits row) (Some ns)) (sym (append-nil front)) ∙ ap (λ (more : Option (List ℕ)). kept (suits row) (with_front front more)) (sym (numbers_none row tokens e))

-- a token that gives numbers, or none
pub front_goes : (row : Row) (front next : List ℕ) (tokens : List Lexeme) (token : Lexeme) (others : List Lexeme) → tokens ≡ token ∷ others
    → ((more : Option (List ℕ)) → with_front front (number_front token.kind (value row token.kind token.text) more) ≡ with_front next more)
    → kept (suits row) (with_front next (numbers row others)) ≡ kept (suits row) (with_front front (numbers row tokens))
front_goes row front next tokens token others e h =
    ap (kept (suits row)) (sym (ap (with_front front) (numbers_next row tokens token others e) ∙ h (numbers row others)))

-- a token that makes the values wrong
pub front_fails : (row : Row) (front : List ℕ) (tokens : List Lexeme) (token : Lexeme) (others : List Lexeme) → tokens ≡ token ∷ others
    → ((more : Option (List ℕ)) → kept (suits row) (with_front front (number_front token.kind (value row token.kind token.text) more)) ≡ None)
    → kept (suits row) (with_front front (numbers row tokens)) ≡ None
front_fails row front tokens token others e h =
    ap (λ (more : Option (List ℕ)). kept (suits row) (with_front front more)) (numbers_next row tokens token others e) ∙ h (numbers row others)
