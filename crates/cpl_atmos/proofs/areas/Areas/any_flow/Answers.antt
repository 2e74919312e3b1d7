use Rattle.std.proofs.Common.{ap, arith}
use Rattle.cpl_field.specs.Spots.{FieldNumbers, CellAt, out_from}
use Rattle.cpl_atmos.proofs.Stored.{out_is_spot}
use Rattle.cpl_atmos.proofs.areas.Areas.any_flow.Goals as goal

pub flow_out-requires-clause-amount : goal.flow_out-requires-clause-amount
flow_out-requires-clause-amount c = c.requires.amounts (CellAt c.args.i c.args.j) (omega arith, omega arith)

pub flow_out-requires-clause-other_amount : goal.flow_out-requires-clause-other_amount
flow_out-requires-clause-other_amount c =
    let x = c.args.x.now in
    let narrow = ap (λ (f : FieldNumbers). f.width) c.self.view_is in
    let spot = out_is_spot x (omega (arith, c.self.invariant.width)) c.args.i c.args.j c.args.side (omega arith, omega arith) in
    c.requires.amounts (out_from x c.args.i c.args.j c.args.side 1) spot
