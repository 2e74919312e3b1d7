use Rattle.cpl_gridfile.specs.AirGrid.{air_grids}
use Rattle.cpl_gridfile.specs.Reading.{air_grid_of}
use Rattle.cpl_gridfile.proofs.Laws.{returned_is_grid, returned_is_spelled, spelled_is_returned, fault_is_first_of, first_is_returned}
use Rattle.cpl_gridfile.proofs.AirLaws.{air_agrees}
use Rattle.cpl_gridfile.proofs.AirAreas.{areas_of_air}
use Rattle.cpl_gridfile.proofs.read.read_air.Goals as goal

pub returns-clause-found : goal.returns-clause-found
unfolding air_grid_of
returns-clause-found c = returned_is_grid air_grids air_agrees c.args.bytes.now c.air_grid.result c.air_grid.ensures

pub returns-clause-spelled : goal.returns-clause-spelled
unfolding air_grid_of
returns-clause-spelled c = returned_is_spelled air_grids air_agrees c.args.bytes.now c.air_grid.result c.air_grid.ensures

pub returns-clause-only : goal.returns-clause-only
unfolding air_grid_of
returns-clause-only c = spelled_is_returned air_grids air_agrees c.args.bytes.now c.air_grid.result c.air_grid.ensures

pub returns-clause-fault : goal.returns-clause-fault
unfolding air_grid_of
returns-clause-fault c = fault_is_first_of air_grids air_agrees c.args.bytes.now c.air_grid.result c.air_grid.ensures

pub returns-clause-told : goal.returns-clause-told
unfolding air_grid_of
returns-clause-told c = first_is_returned air_grids air_agrees c.args.bytes.now c.air_grid.result c.air_grid.ensures

pub returns-clause-areas : goal.returns-clause-areas
unfolding air_grid_of
returns-clause-areas c = areas_of_air c.args.bytes.now c.air_grid.result c.air_grid.ensures
