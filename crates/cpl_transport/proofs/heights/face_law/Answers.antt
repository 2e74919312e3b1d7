use Rattle.std.proofs.Common.{◌≡◌, ◌∙◌, ap, arith, ℕ, pos, neg_ℤ, ◌^◌, ◌-ℤ◌, ◌+ℤ◌, ℤ}
use Rattle.std.proofs.lemmas.Int.{ints}
use Rattle.cpl_fixed.specs.Division.{trunc}
use Rattle.cpl_transport.specs.Heights.{in_face, next_face}
use Rattle.cpl_transport.proofs.Odd.{trunc_neg, in_face_neg}
use Rattle.cpl_transport.proofs.heights.face_law.Goals as goal

-- the sum of the negatives is the negative of the sum
sum_neg : (u t d : ℤ) → neg_ℤ u -ℤ neg_ℤ t +ℤ neg_ℤ d ≡ neg_ℤ (u -ℤ t +ℤ d)
sum_neg u t d = omega (arith, ints)

difference_neg : (a b : ℤ) → b -ℤ a ≡ neg_ℤ (a -ℤ b)
difference_neg a b = omega (arith, ints)

odd : (slope : ℕ) (u height other : ℤ) → next_face slope (neg_ℤ u) other height ≡ neg_ℤ (next_face slope u height other)
odd slope u height other =
    let a = trunc_neg u 16 in
    let b = ap (λ (d : ℤ). trunc d (pos (2 ^ slope))) (difference_neg height other) ∙ trunc_neg (height -ℤ other) (2 ^ slope) in
    (λ i. in_face (neg_ℤ u -ℤ a i +ℤ b i))
    ∙ ap in_face (sum_neg u (trunc u (pos 16)) (trunc (height -ℤ other) (pos (2 ^ slope))))
    ∙ in_face_neg (u -ℤ trunc u (pos 16) +ℤ trunc (height -ℤ other) (pos (2 ^ slope)))

pub returns : goal.returns
returns c = odd
