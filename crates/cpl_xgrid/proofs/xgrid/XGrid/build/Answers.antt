use Rattle.std.proofs.Common.{◌∙◌, ap, List}
use Rattle.std.proofs.lemmas.Result.{err_from_is_err_and}
use Rattle.cpl_xgrid.specs.declared.parts.XRow.{XRow}
use Rattle.cpl_xgrid.specs.declared.parts.Outlet.{Outlet}
use Rattle.cpl_xgrid.specs.Rules.{xgrid_fault}
use Rattle.cpl_xgrid.proofs.Faults.{same_first}
use Rattle.cpl_xgrid.proofs.xgrid.XGrid.build.Goals as goal

pub returns-in_err-indexes-clause-fault : goal.returns-in_err-indexes-clause-fault
returns-in_err-indexes-clause-fault c =
    let same =
    ap (λ (l : List XRow). xgrid_fault c.args.air.now c.args.land.now c.args.ocean.now l c.deref-2.result.now c.deref-3.result.now) c.deref.ensures.value
    ∙ ap (λ (l : List XRow). xgrid_fault c.args.air.now c.args.land.now c.args.ocean.now c.args.land_rows.items l c.deref-3.result.now) c.deref-2.ensures.value
    ∙ ap (λ (l : List Outlet). xgrid_fault c.args.air.now c.args.land.now c.args.ocean.now c.args.land_rows.items c.args.ocean_rows.items l) c.deref-3.ensures.value in
    let p = err_from_is_err_and c.from_residual.result c.from_residual.ensures.1 in
    rw (p.1, p.2) (same_first _ _ _ same c.in_err-indexes.ensures.fault)
