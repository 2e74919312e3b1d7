use Rattle.std.proofs.Common.{sym, subst, ◌<◌, arith}
use Rattle.cpl_ice.specs.declared.cell.IceCell.{IceCell}
use Rattle.cpl_state.specs.States.{ocean_cells}
use Rattle.cpl_slow.specs.Land.{gain_at}
use Rattle.cpl_slow.specs.Ice.{CanSlowCell}
use Rattle.cpl_slow.proofs.Turning.{cell_left, slowed_all, slowed_more, slowed_none}
use Rattle.cpl_slow.proofs.ice.IceLists.slow.Goals as goal

pub loop-n-init : goal.loop-n-init
loop-n-init c = slowed_none c.args.grid.now c.args.rates.now c.args.mid.now c.args.arrived.now c.args.self.now c.requires.lists

pub slow_cell-requires-clause-can : goal.slow_cell-requires-clause-can
slow_cell-requires-clause-can c =
    let n = c.loop-n.n in
    let within : n < ocean_cells c.args.grid.now = omega (arith, c.requires.can.0) in
    subst (λ (it : IceCell). CanSlowCell it (gain_at c.args.arrived.now n))
    (sym (cell_left c.args.grid.now c.args.rates.now c.args.mid.now c.args.arrived.now c.args.self.now n c.loop-n.self c.loop-n.invariant))
    (c.requires.can.1 n within)

pub loop-n-preserved : goal.loop-n-preserved
loop-n-preserved c =
    slowed_more c.args.grid.now c.args.rates.now c.args.mid.now c.args.arrived.now c.args.self.now c.loop-n.n c.loop-n.self c.loop-n.invariant
    c.slow_cell.new.self c.slow_cell.ensures

pub returns : goal.returns
returns c =
    slowed_all c.args.grid.now c.args.rates.now c.args.mid.now c.args.arrived.now c.args.self.now c.loop-n.n c.loop-n.self
    (omega (arith, c.requires.can.0)) c.requires.lists c.loop-n.invariant
