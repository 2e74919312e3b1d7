use Rattle.std.proofs.Common.{◌+◌, arith, rules, get_or}
use Rattle.std.specs.Prelude.{pos}
use Rattle.std.specs.Int.RustNames.{FitsSigned}
use Rattle.std.proofs.Common.{w64}
use Rattle.std.proofs.lemmas.Int.{ints}
use Rattle.cpl_fixed.proofs.ShareLaws.{total_front, total_more}
use Rattle.cpl_fixed.proofs.sharing.total.Goals as goal

pub overflow_add-sum : goal.overflow_add-sum
overflow_add-sum c =
    let xs = c.args.weights.now in
    let i = c.loop-weight.weight-index in
    let fits : FitsSigned w64 (get_or c.args.weights.now c.loop-weight.weight-index (pos 0)) = search rules in
    let front = total_front xs (i + 1) c.requires.each in
    let more = total_more xs i c.loop-weight-test.true in
    omega (arith, ints, fits, front.0, front.1, more, c.loop-weight.invariant)

pub loop-weight-preserved : goal.loop-weight-preserved
loop-weight-preserved c =
    let xs = c.args.weights.now in
    let i = c.loop-weight.weight-index in
    let fits : FitsSigned w64 (get_or c.args.weights.now c.loop-weight.weight-index (pos 0)) = search rules in
    let front = total_front xs (i + 1) c.requires.each in
    let more = total_more xs i c.loop-weight-test.true in
    omega (arith, ints, fits, front.0, front.1, more, c.loop-weight.invariant)
