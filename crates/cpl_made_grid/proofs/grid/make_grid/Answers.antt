-- The parts are those of the made grid, which is lawful.
use Rattle.std.proofs.Common.{◌∙◌, sym, subst, List}
use Rattle.cpl_xgrid.specs.declared.parts.XRow.{XRow}
use Rattle.cpl_xgrid.specs.Grids.{IsGrid}
use Rattle.cpl_xgrid.specs.Lists.{IsMesh, AreRows, AreOutlets, lists_of}
use Rattle.cpl_xgrid.specs.Rules.{xgrid_fault}
use Rattle.cpl_made_grid.specs.Overlaps.{land_rows}
use Rattle.cpl_made_grid.specs.Grids.{made_grid, column}
use Rattle.cpl_made_grid.proofs.RowLaws.{rows_are}
use Rattle.cpl_made_grid.proofs.GridLaws.{air_is, land_is, ocean_is, outlets_lawful, made_rules, made_lawful}
use Rattle.cpl_made_grid.proofs.grid.make_grid.Goals as goal

pub lawful_xgrid-requires-clause-air : goal.lawful_xgrid-requires-clause-air
lawful_xgrid-requires-clause-air c = subst IsMesh (sym c.in_ok-air.ensures) (air_is c.args.recipe.size c.requires)

pub lawful_xgrid-requires-clause-land : goal.lawful_xgrid-requires-clause-land
lawful_xgrid-requires-clause-land c = subst IsMesh (sym c.in_ok-land.ensures.land) (land_is c.args.recipe c.requires)

pub lawful_xgrid-requires-clause-ocean : goal.lawful_xgrid-requires-clause-ocean
lawful_xgrid-requires-clause-ocean c = subst IsMesh (sym c.in_ok-land.ensures.ocean) (ocean_is c.args.recipe c.requires)

pub lawful_xgrid-requires-clause-rows : goal.lawful_xgrid-requires-clause-rows
lawful_xgrid-requires-clause-rows c =
    subst (λ (rows : List XRow). AreRows rows c.in_ok-land.field-0.rows.ocean.items) (sym c.in_ok-land.ensures.land_rows) (subst (AreRows (land_rows c.args.recipe)) (sym c.in_ok-land.ensures.ocean_rows) (rows_are c.args.recipe c.requires))

pub lawful_xgrid-requires-clause-outlets : goal.lawful_xgrid-requires-clause-outlets
lawful_xgrid-requires-clause-outlets c = subst AreOutlets (sym c.in_ok-outlets.ensures) (outlets_lawful c.args.recipe c.requires)

pub lawful_xgrid-requires-clause-rules : goal.lawful_xgrid-requires-clause-rules
lawful_xgrid-requires-clause-rules c =
    (λ i. xgrid_fault (c.in_ok-air.ensures i) (c.in_ok-land.ensures.land i) (c.in_ok-land.ensures.ocean i) (c.in_ok-land.ensures.land_rows i) (c.in_ok-land.ensures.ocean_rows i) (c.in_ok-outlets.ensures i))
    ∙ made_rules c.args.recipe c.requires

pub returns-clause-grid : goal.returns-clause-grid
unfolding made_grid
returns-clause-grid c =
    let lists = c.in_ok-xgrid.ensures ∙ (λ i. lists_of (c.in_ok-air.ensures i) (c.in_ok-land.ensures.land i) (c.in_ok-land.ensures.ocean i) (c.in_ok-land.ensures.land_rows i) (c.in_ok-land.ensures.ocean_rows i) (c.in_ok-outlets.ensures i)) in
    λ i. record { air = c.in_ok-air.ensures i; land = c.in_ok-land.ensures.land i; ocean = c.in_ok-land.ensures.ocean i; xgrid = lists i; column = column }

pub returns-clause-lawful : goal.returns-clause-lawful
returns-clause-lawful c = subst IsGrid (sym (returns-clause-grid c)) (made_lawful c.args.recipe c.requires)
