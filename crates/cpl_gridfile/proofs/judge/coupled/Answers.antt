use Rattle.std.proofs.lemmas.Result.{err_from_is_err_and}
use Rattle.cpl_fixed.specs.declared.words.Component.TheVariants.{Land}
use Rattle.cpl_gridfile.specs.Rules.{mosaic_fault}
use Rattle.cpl_gridfile.specs.AirGrid.{air_fault}
use Rattle.cpl_gridfile.specs.Readers.{mesh_of, parts_of}
use Rattle.cpl_gridfile.proofs.CoupledJudging.{let_through, land_fails, ocean_fails, exchange_fails, all_kept}
use Rattle.cpl_gridfile.proofs.judge.coupled.Goals as goal

pub returns-in_err-land : goal.returns-in_err-land
returns-in_err-land c =
    let p = err_from_is_err_and c.from_residual-in_err-land.result c.from_residual-in_err-land.ensures.1 in
    rw (p.1, p.2) (land_fails (parts_of c.args.reader) c.in_ok-air.air c.in_ok-air.ensures c.in_err-land.field-0.0 c.in_err-land.ensures)

pub returns-in_err-ocean : goal.returns-in_err-ocean
returns-in_err-ocean c =
    let p = err_from_is_err_and c.from_residual-in_err-ocean.result c.from_residual-in_err-ocean.ensures.1 in
    rw (p.1, p.2)
    (ocean_fails (parts_of c.args.reader) c.in_ok-air.air c.in_ok-air.ensures c.in_ok-land.land c.in_ok-land.ensures c.in_err-ocean.field-0.0 c.in_err-ocean.ensures)

pub build-requires-clause-air : goal.build-requires-clause-air
build-requires-clause-air c = let_through (air_fault (mesh_of c.args.reader.air)) (mesh_of c.args.reader.air) c.in_ok-air.air c.in_ok-air.ensures c.requires.air

pub build-requires-clause-land : goal.build-requires-clause-land
build-requires-clause-land c = let_through (mosaic_fault Land (mesh_of c.args.reader.land)) (mesh_of c.args.reader.land) c.in_ok-land.land c.in_ok-land.ensures c.requires.land

pub returns-in_err-xgrid : goal.returns-in_err-xgrid
returns-in_err-xgrid c =
    let p = err_from_is_err_and c.from_residual-in_err-xgrid.result c.from_residual-in_err-xgrid.ensures.1 in
    rw (p.1, p.2)
    (exchange_fails (parts_of c.args.reader) c.in_ok-air.air c.in_ok-air.ensures c.in_ok-land.land c.in_ok-land.ensures c.in_ok-ocean.ocean c.in_ok-ocean.ensures
    c.in_err-xgrid.field-0.0 c.in_err-xgrid.ensures.fault)

pub returns : goal.returns
returns c =
    all_kept (parts_of c.args.reader) c.in_ok-air.air c.in_ok-air.ensures c.in_ok-land.land c.in_ok-land.ensures c.in_ok-ocean.ocean c.in_ok-ocean.ensures
    c.in_ok-xgrid.xgrid c.in_ok-xgrid.ensures.rules c.in_ok-xgrid.ensures.lists
