-- Sums, exact and wrapped.
use Rattle.std.proofs.Common.{◌≡◌, ℕ, zero, suc, ◌+◌, ◌<◌, List, [], ◌∷◌, length, take, get_or, ℤ, pos, arith, ap, ◌∙◌}
use Rattle.std.specs.Prelude.{◌+ℤ◌}
use Rattle.std.proofs.lemmas.Int.{ints}
use Rattle.cpl_fixed.specs.Totals.{total_of}

pub total_more : (xs : List ℤ) (i : ℕ) → i < length xs → total_of (take (i + 1) xs) ≡ total_of (take i xs) +ℤ get_or xs i (pos 0)
total_more [] i lt = absurd (omega arith)
total_more (x ∷ xs) zero lt = omega (arith, ints)
total_more (x ∷ xs) (suc i) lt =
    let rest = total_more xs i (omega arith) in
    let e : suc i + 1 ≡ suc (i + 1) = omega arith in
    ap (λ (k : ℕ). total_of (take k (x ∷ xs))) e ∙ omega (arith, ints, rest)
