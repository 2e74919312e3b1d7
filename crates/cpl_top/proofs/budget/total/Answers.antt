use Rattle.std.proofs.Common.{arith}
use Rattle.std.specs.Prelude.{pos}
use Rattle.std.proofs.lemmas.Int.{ints}
use Rattle.cpl_top.proofs.Totals.{total_of-more}
use Rattle.cpl_top.proofs.budget.total.Goals as goal

pub loop-amount-preserved : goal.loop-amount-preserved
loop-amount-preserved c =
    let i = c.loop-amount.amount-index in
    let amount = c.requires i (pos 0) c.loop-amount-test.true in
    let more = total_of-more c.args.amounts.now i c.loop-amount-test.true in
    record {
      same = omega (arith, ints, more, amount.0, amount.1, c.from-total.ensures, c.loop-amount.invariant.same);
      small = omega (arith, ints, amount.0, amount.1, c.from-total.ensures, c.loop-amount.invariant.small);
    }
