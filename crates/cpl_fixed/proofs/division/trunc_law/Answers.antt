use Rattle.std.proofs.Common.{◌≡◌, ◌∙◌, ap, zero, suc, ◌/◌, arith}
use Rattle.std.specs.Prelude.{ℤ, pos, negsuc, ◌<ℤ◌, ◌-ℤ◌}
use Rattle.std.proofs.Math.Nat.{zero-div}
use Rattle.std.proofs.lemmas.Int.{ints}
use Rattle.cpl_fixed.specs.Division.{trunc}
use Rattle.cpl_fixed.proofs.division.trunc_law.Goals as goal

odd : (x d : ℤ) → pos 0 <ℤ d → trunc (pos 0 -ℤ x) d ≡ pos 0 -ℤ trunc x d
odd (pos zero) (pos d) h =
    let e : 0 / d ≡ 0 = zero-div d in
    omega (arith, ints, e)
odd (pos (suc n)) (pos d) h =
    let e : pos 0 -ℤ pos (suc n) ≡ negsuc n = omega (arith, ints) in
    ap (λ x. trunc x (pos d)) e ∙ omega (arith, ints)
odd (negsuc n) (pos d) h =
    let e : pos 0 -ℤ negsuc n ≡ pos (suc n) = omega (arith, ints) in
    ap (λ x. trunc x (pos d)) e ∙ omega (arith, ints)
odd x (negsuc d) h = absurd (omega (arith, ints, h))

pub returns : goal.returns
returns c = odd
