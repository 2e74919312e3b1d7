use Rattle.std.proofs.lemmas.Result.{err_from_is_err_and}
use Rattle.cpl_xgrid.specs.declared.parts.Surface.TheVariants.{Land, Ocean}
use Rattle.cpl_xgrid.specs.Rules.{tiles_of}
use Rattle.cpl_xgrid.proofs.Building.{rows_other, both_air, outlet_cells, neither}
use Rattle.cpl_xgrid.proofs.Faults.{found_first, first_part, later_part}
use Rattle.cpl_xgrid.proofs.indexes.indexes_of.Goals as goal

pub sum_parent-requires-clause-cells : goal.sum_parent-requires-clause-cells
sum_parent-requires-clause-cells c =
    both_air Land Ocean (tiles_of c.args.air.now) (tiles_of c.args.land.now) (tiles_of c.args.ocean.now) c.args.land_rows.now c.args.ocean_rows.now c.in_ok-check_rows.ensures.kept c.in_ok-check_rows-2.ensures.kept

pub sum_parent-requires-2-clause-cells : goal.sum_parent-requires-2-clause-cells
sum_parent-requires-2-clause-cells c = rows_other Land (tiles_of c.args.air.now) (tiles_of c.args.land.now) c.args.land_rows.now c.in_ok-check_rows.ensures.kept

pub sum_parent-requires-3-clause-cells : goal.sum_parent-requires-3-clause-cells
sum_parent-requires-3-clause-cells c = rows_other Ocean (tiles_of c.args.air.now) (tiles_of c.args.ocean.now) c.args.ocean_rows.now c.in_ok-check_rows-2.ensures.kept

pub outlets_of-requires-clause-cells : goal.outlets_of-requires-clause-cells
outlets_of-requires-clause-cells c = outlet_cells c.args.land.now c.args.ocean.now c.args.outlets.now c.in_ok-check_outlets.ensures.kept

pub returns-clause-rules : goal.returns-clause-rules
returns-clause-rules c =
    neither _ _ c.in_ok-check_rows.ensures.kept (neither _ _ c.in_ok-check_rows-2.ensures.kept (neither _ _ c.in_ok-of_air.ensures.rules (neither _ _ c.in_ok-of_land.ensures.rules (neither _ _ c.in_ok-of_ocean.ensures.rules (neither _ _ c.in_ok-check_outlets.ensures.kept (c.in_ok-runoff.ensures.rules))))))

pub returns-in_err-check_rows-clause-fault : goal.returns-in_err-check_rows-clause-fault
returns-in_err-check_rows-clause-fault c =
    let p = err_from_is_err_and c.from_residual.result c.from_residual.ensures.1 in
    rw (p.1, p.2) (first_part _ _ _ (found_first _ _ c.in_err-check_rows.ensures.broken))

pub returns-in_err-check_rows-2-clause-fault : goal.returns-in_err-check_rows-2-clause-fault
returns-in_err-check_rows-2-clause-fault c =
    let p = err_from_is_err_and c.from_residual-in_err-check_rows-2.result c.from_residual-in_err-check_rows-2.ensures.1 in
    rw (p.1, p.2) (later_part _ _ _ c.in_ok-check_rows.ensures.kept (first_part _ _ _ (found_first _ _ c.in_err-check_rows-2.ensures.broken)))

pub returns-in_err-of_air-clause-fault : goal.returns-in_err-of_air-clause-fault
returns-in_err-of_air-clause-fault c =
    let p = err_from_is_err_and c.from_residual-in_err-of_air.result c.from_residual-in_err-of_air.ensures.1 in
    rw (p.1, p.2) (later_part _ _ _ c.in_ok-check_rows.ensures.kept (later_part _ _ _ c.in_ok-check_rows-2.ensures.kept (first_part _ _ _ (c.in_err-of_air.ensures.fault))))

pub returns-in_err-of_land-clause-fault : goal.returns-in_err-of_land-clause-fault
returns-in_err-of_land-clause-fault c =
    let p = err_from_is_err_and c.from_residual-in_err-of_land.result c.from_residual-in_err-of_land.ensures.1 in
    rw (p.1, p.2) (later_part _ _ _ c.in_ok-check_rows.ensures.kept (later_part _ _ _ c.in_ok-check_rows-2.ensures.kept (later_part _ _ _ c.in_ok-of_air.ensures.rules (first_part _ _ _ (c.in_err-of_land.ensures.fault)))))

pub returns-in_err-of_ocean-clause-fault : goal.returns-in_err-of_ocean-clause-fault
returns-in_err-of_ocean-clause-fault c =
    let p = err_from_is_err_and c.from_residual-in_err-of_ocean.result c.from_residual-in_err-of_ocean.ensures.1 in
    rw (p.1, p.2) (later_part _ _ _ c.in_ok-check_rows.ensures.kept (later_part _ _ _ c.in_ok-check_rows-2.ensures.kept (later_part _ _ _ c.in_ok-of_air.ensures.rules (later_part _ _ _ c.in_ok-of_land.ensures.rules (first_part _ _ _ (c.in_err-of_ocean.ensures.fault))))))

pub returns-in_err-check_outlets-clause-fault : goal.returns-in_err-check_outlets-clause-fault
returns-in_err-check_outlets-clause-fault c =
    let p = err_from_is_err_and c.from_residual-in_err-check_outlets.result c.from_residual-in_err-check_outlets.ensures.1 in
    rw (p.1, p.2) (later_part _ _ _ c.in_ok-check_rows.ensures.kept (later_part _ _ _ c.in_ok-check_rows-2.ensures.kept (later_part _ _ _ c.in_ok-of_air.ensures.rules (later_part _ _ _ c.in_ok-of_land.ensures.rules (later_part _ _ _ c.in_ok-of_ocean.ensures.rules (first_part _ _ _ (found_first _ _ c.in_err-check_outlets.ensures.broken)))))))

pub returns-in_err-runoff-clause-fault : goal.returns-in_err-runoff-clause-fault
returns-in_err-runoff-clause-fault c =
    let p = err_from_is_err_and c.from_residual-in_err-runoff.result c.from_residual-in_err-runoff.ensures.1 in
    rw (p.1, p.2) (later_part _ _ _ c.in_ok-check_rows.ensures.kept (later_part _ _ _ c.in_ok-check_rows-2.ensures.kept (later_part _ _ _ c.in_ok-of_air.ensures.rules (later_part _ _ _ c.in_ok-of_land.ensures.rules (later_part _ _ _ c.in_ok-of_ocean.ensures.rules (later_part _ _ _ c.in_ok-check_outlets.ensures.kept (c.in_err-runoff.ensures.fault)))))))
