-- Division, bounds and the lesser of two slopes turn their sign with their arguments.
use Rattle.std.proofs.Common.{◌≡◌, arith, ℕ, zero, suc, ◌/◌, pos, neg_ℤ, ℤ}
use Rattle.std.proofs.Math.Nat.{zero-div}
use Rattle.std.specs.Prelude.{negsuc}
use Rattle.std.proofs.lemmas.Int.{ints, clamps}
use Rattle.cpl_fixed.specs.Division.{trunc}
use Rattle.cpl_transport.specs.Heights.{in_face}

pub trunc_neg : (x : ℤ) (d : ℕ) → trunc (neg_ℤ x) (pos d) ≡ neg_ℤ (trunc x (pos d))
trunc_neg (pos zero) d =
    let e : 0 / d ≡ 0 = zero-div d in
    omega (arith, ints, e)
trunc_neg (pos (suc n)) d = omega (arith, ints)
trunc_neg (negsuc n) d = omega (arith, ints)

pub in_face_neg : (x : ℤ) → in_face (neg_ℤ x) ≡ neg_ℤ (in_face x)
in_face_neg x = omega (arith, ints, clamps)
