use Rattle.std.proofs.Common.{arith}
use Rattle.cpl_atmos.proofs.Carried.{inner_same, inner_amount}
use Rattle.cpl_atmos.proofs.inner.inner_flow.Goals as goal

pub flow_out-requires-clause-amount : goal.flow_out-requires-clause-amount
flow_out-requires-clause-amount c =
    let is = inner_same c.args.areas.now c.args.x.now c.requires.shape c.args.i c.args.j c.requires.cell in
    c.requires.amounts c.args.i c.args.j (omega (arith, is.east), omega (arith, is.north))

pub flow_out-requires-clause-other_amount : goal.flow_out-requires-clause-other_amount
flow_out-requires-clause-other_amount c =
    inner_amount c.args.x.now c.requires.amounts c.args.i c.args.j (inner_same c.args.areas.now c.args.x.now c.requires.shape c.args.i c.args.j c.requires.cell) c.args.side
