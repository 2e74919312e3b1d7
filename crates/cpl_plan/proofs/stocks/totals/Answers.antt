use Rattle.std.proofs.Common.{◌+◌, ◌*◌, arith}
use Rattle.std.specs.Prelude.{pos}
use Rattle.std.proofs.lemmas.Int.{ints}
use Rattle.std.proofs.lemmas.Nat.{mul-add-lt}
use Rattle.cpl_state.specs.States.{of_cell}
use Rattle.cpl_plan.proofs.Totals.{cells_more}
use Rattle.cpl_plan.proofs.stocks.totals.Goals as goal

pub loop-n-preserved : goal.loop-n-preserved
loop-n-preserved g c =
    let n = c.loop-n.n in
    let added = c.add_cell.ensures.sums in
    record {
      same = λ k h.
          let more = cells_more (λ n. of_cell g.row.N n k c.args.amounts.now) n in
          let one = added k h in
          let before = c.loop-n.invariant.same k h in
          omega (arith, ints, more, one, before);
      room = λ k h.
          let place = mul-add-lt n g.row.N k c.args.cells c.loop-n-test.true h in
          let amount = c.requires.amounts.each (n * g.row.N + k) (pos 0) (omega (arith, place, c.requires.length)) in
          let one = added k h in
          let before = c.loop-n.invariant.room k h in
          omega (arith, ints, amount.0, amount.1, one, before);
    }
