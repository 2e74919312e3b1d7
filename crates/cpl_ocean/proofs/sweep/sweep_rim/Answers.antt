use Rattle.std.proofs.Common.{arith}
use Rattle.cpl_field.proofs.Swept.{rim_all, rim_rows}
use Rattle.cpl_transport.specs.Salts.{nothing}
use Rattle.cpl_ocean.specs.Sweeps.{left_in}
use Rattle.cpl_ocean.proofs.sweep.sweep_rim.Goals as goal

pub loop-j-preserved : goal.loop-j-preserved
loop-j-preserved c =
    let basin = c.args.basin.now in
    rim_rows nothing basin.area (left_in basin c.args.slope c.args.fields.now) 2 c.loop-j.j c.args.left.now c.loop-j.left c.rim_row.new.left c.loop-j.invariant c.rim_row.ensures

pub returns : goal.returns
returns c =
    let basin = c.args.basin.now in
    let rows = c.requires.from.columns.rows in
    let all = c.loop-j-test.false in
    rim_all nothing basin.area (left_in basin c.args.slope c.args.fields.now) 2 c.loop-j.j c.args.left.now c.loop-j.left (omega arith) c.loop-j.invariant
