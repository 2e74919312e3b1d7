use Rattle.std.proofs.Common.{sym, subst}
use Rattle.cpl_ocean.specs.declared.zone.Zone.{Zone}
use Rattle.cpl_ocean.specs.Sweeps.{Computes, left_in}
use Rattle.cpl_ocean.specs.Zones.{IsIn}
use Rattle.cpl_ocean.proofs.sweep.sweep.Goals as goal

pub returns-in-Inner : goal.returns-in-Inner
returns-in-Inner c =
    let basin = c.args.basin.now in
    let next = left_in basin c.args.slope c.args.fields.now in
    subst (λ (zone : Zone). Computes basin.area next (IsIn zone basin.area) c.args.left.now c.sweep_inner.new.left) (sym c.in-Inner.is) c.sweep_inner.ensures

pub returns-in-Rim : goal.returns-in-Rim
returns-in-Rim c =
    let basin = c.args.basin.now in
    let next = left_in basin c.args.slope c.args.fields.now in
    subst (λ (zone : Zone). Computes basin.area next (IsIn zone basin.area) c.args.left.now c.sweep_rim.new.left) (sym c.in-Rim.is) c.sweep_rim.ensures
