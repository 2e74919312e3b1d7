use Rattle.std.proofs.Common.{arith}
use Rattle.std.specs.Prelude.{pos}
use Rattle.std.proofs.lemmas.Int.{ints}
use Rattle.cpl_fixed.proofs.ShareLaws.{total_more}
use Rattle.cpl_plan.proofs.stocks.total.Goals as goal

pub loop-amount-preserved : goal.loop-amount-preserved
loop-amount-preserved c =
    let i = c.loop-amount.amount-index in
    let amount = c.requires.each i (pos 0) c.loop-amount-test.true in
    let more = total_more c.args.amounts.now i c.loop-amount-test.true in
    let is = c.loop-amount.invariant in
    record {
      same = omega (arith, ints, more, amount.0, amount.1, is.same);
      few_low = omega (arith, ints, amount.0, amount.1, is.few_low);
      few_high = omega (arith, ints, amount.0, amount.1, is.few_high);
    }
