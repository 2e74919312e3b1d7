-- Lists whose items were lent for writing.
use Rattle.std.proofs.Common.{◌≡◌, ◌∙◌, sym, ap, refl, List, [], ◌∷◌, ◌++◌, length, ℕ}
use Rattle.std.specs.Prelude.{take, drop}
use Rattle.cpl_fixed.specs.Lends.{overwritten}

-- as many items as the first of two lists has are those of the first
take_front : {X : Type 0} (xs ys : List X) → take (length xs) (xs ++ ys) ≡ xs
take_front [] [] = refl
take_front [] (y ∷ ys) = refl
take_front {X} (x ∷ xs) ys = ap (λ (l : List X). x ∷ l) (take_front xs ys)

-- as many items as there were, written over a list, are the list then
pub overwritten_is : {X : Type 0} (list items : List X) → length items ≡ length list → overwritten list items ≡ items
overwritten_is list items count =
    ap (λ (n : ℕ). take n (items ++ drop (length items) list)) (sym count) ∙ take_front items (drop (length items) list)
