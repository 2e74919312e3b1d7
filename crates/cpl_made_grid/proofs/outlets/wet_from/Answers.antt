-- The first wet cell, or none.
use Rattle.std.proofs.Common.{arith}
use Rattle.cpl_made_grid.proofs.OutletLaws.{wet_word, wet_found, wet_missing}
use Rattle.cpl_made_grid.proofs.outlets.wet_from.Goals as goal

pub returns-then-areas-n-ne0-clause-value : goal.returns-then-areas-n-ne0-clause-value
returns-then-areas-n-ne0-clause-value c = wet_found c.args.areas.now c.args.start c.loop-n.n c.loop-n.auto.n c.loop-n-test.true c.loop-n.invariant (wet_word c.args.areas.now c.loop-n.n c.if-areas-n-ne0.true)

pub returns-clause-value : goal.returns-clause-value
returns-clause-value c =
    let past = c.loop-n-test.false in
    wet_missing c.args.areas.now c.args.start (λ k le lt. c.loop-n.invariant k le (omega arith))
