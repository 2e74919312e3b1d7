-- The total of a list of amounts, one after another.
use Rattle.std.proofs.Common.{◌≡◌, ◌∙◌, ap, ℕ, ◌+◌, ◌<◌, List, [], ◌∷◌, ◌++◌, length, get_or, take, arith}
use Rattle.std.specs.Prelude.{ℤ, pos, ◌+ℤ◌}
use Rattle.std.proofs.lemmas.Int.{ints}
use Rattle.std.proofs.lemmas.List.{take_more}
use Rattle.cpl_fixed.specs.Totals.{total_of}

total_of-last : (xs : List ℤ) (x : ℤ) → total_of (xs ++ x ∷ []) ≡ total_of xs +ℤ x
total_of-last [] x = omega (arith, ints)
total_of-last (y ∷ ys) x = omega (arith, ints, total_of-last ys x)

-- one more amount
pub total_of-more : (xs : List ℤ) (i : ℕ) → i < length xs → total_of (take (i + 1) xs) ≡ total_of (take i xs) +ℤ get_or xs i (pos 0)
total_of-more xs i lt = ap total_of (take_more xs i (pos 0) lt) ∙ total_of-last (take i xs) (get_or xs i (pos 0))
