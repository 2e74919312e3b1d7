use Rattle.std.proofs.Common.{◌≢◌, ℕ, ◌<◌, ◌≤◌, ◌^◌, arith}
use Rattle.std.proofs.Math.Nat.{pow-le-pow_right}
use Rattle.cpl_lines.proofs.field.digits.Goals as goal

below : (count value : ℕ) → value < 10 ^ count → count ≤ 19 → count ≢ 19 → value < 10 ^ 18
below count value small few other = omega (arith, small, pow-le-pow_right {n = 10} (omega arith) {i = count} {j = 18} (omega arith))

pub overflow_mul-value : goal.overflow_mul-value
overflow_mul-value c =
    let small = below c.loop-rest.count c.loop-rest.value c.loop-rest.invariant.small c.loop-rest.invariant.few c.if-count-eq-DIGITS.false in
    omega arith

pub overflow_add-value : goal.overflow_add-value
overflow_add-value c =
    let small = below c.loop-rest.count c.loop-rest.value c.loop-rest.invariant.small c.loop-rest.invariant.few c.if-count-eq-DIGITS.false in
    omega (arith, c.from.ensures)
