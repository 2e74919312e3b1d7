use Rattle.std.proofs.Common.{◌+◌, ◌*◌, arith}
use Rattle.std.specs.Prelude.{pos}
use Rattle.std.proofs.lemmas.Int.{ints}
use Rattle.cpl_plan.specs.Sums.{sum_at}
use Rattle.cpl_plan.proofs.Places.{added_more}
use Rattle.cpl_plan.proofs.stocks.add_cell.Goals as goal

pub loop-k-preserved : goal.loop-k-preserved
loop-k-preserved g c =
    let k = c.loop-k.k in
    let place = c.args.n * g.row.N + k in
    let amount = c.requires.amounts.each place (pos 0) (omega (arith, c.loop-k-test.true, c.requires.within)) in
    added_more g.row.N c.args.n k c.args.amounts.now c.args.sums.now c.loop-k.sums (sum_at c.loop-k.sums k + c.from.result) c.loop-k-test.true c.loop-k.invariant
    (omega (arith, ints, amount.0, amount.1, c.from.ensures))
