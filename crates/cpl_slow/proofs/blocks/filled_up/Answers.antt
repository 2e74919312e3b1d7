use Rattle.std.proofs.Common.{arith}
use Rattle.cpl_slow.proofs.Writes.{filled_is}
use Rattle.cpl_slow.proofs.blocks.filled_up.Goals as goal

pub returns : goal.returns
returns g c =
    filled_is g.row.N c.args.width c.args.n c.args.xs.now c.loop-k.block c.loop-k.invariant.count
    (λ k h. c.loop-k.invariant.done k (omega arith))
    (λ k h. c.loop-k.invariant.left k (omega arith))
