use Rattle.std.proofs.Common.{arith, rules, get_or, w64, pos}
use Rattle.std.specs.Int.RustNames.{FitsSigned}
use Rattle.std.proofs.lemmas.Int.{ints}
use Rattle.cpl_restart.proofs.Sums.{total_more}
use Rattle.cpl_restart.proofs.lawful.total.Goals as goal

pub loop-number-preserved : goal.loop-number-preserved
loop-number-preserved c =
    let xs = c.args.numbers.now in
    let i = c.loop-number.number-index in
    let fits : FitsSigned w64 (get_or c.args.numbers.now c.loop-number.number-index (pos 0)) = search rules in
    let more = total_more xs i c.loop-number-test.true in
    record {
      is = omega (arith, ints, fits, more, c.loop-number.invariant.is);
      least = omega (arith, ints, fits, c.loop-number.invariant.least);
      most = omega (arith, ints, fits, c.loop-number.invariant.most);
    }
