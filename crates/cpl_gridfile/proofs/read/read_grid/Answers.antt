use Rattle.cpl_gridfile.specs.CoupledGrid.{coupled_grids}
use Rattle.cpl_gridfile.specs.Reading.{coupled_grid_of}
use Rattle.cpl_gridfile.proofs.Laws.{returned_is_grid, returned_is_spelled, spelled_is_returned, fault_is_first_of, first_is_returned}
use Rattle.cpl_gridfile.proofs.CoupledLaws.{coupled_agrees}
use Rattle.cpl_gridfile.proofs.WholeGrids.{whole_areas, whole_grid}
use Rattle.cpl_gridfile.proofs.read.read_grid.Goals as goal

pub returns-clause-found : goal.returns-clause-found
unfolding coupled_grid_of
returns-clause-found c = returned_is_grid coupled_grids coupled_agrees c.args.bytes.now c.coupled_grid.result c.coupled_grid.ensures

pub returns-clause-spelled : goal.returns-clause-spelled
unfolding coupled_grid_of
returns-clause-spelled c = returned_is_spelled coupled_grids coupled_agrees c.args.bytes.now c.coupled_grid.result c.coupled_grid.ensures

pub returns-clause-only : goal.returns-clause-only
unfolding coupled_grid_of
returns-clause-only c = spelled_is_returned coupled_grids coupled_agrees c.args.bytes.now c.coupled_grid.result c.coupled_grid.ensures

pub returns-clause-fault : goal.returns-clause-fault
unfolding coupled_grid_of
returns-clause-fault c = fault_is_first_of coupled_grids coupled_agrees c.args.bytes.now c.coupled_grid.result c.coupled_grid.ensures

pub returns-clause-told : goal.returns-clause-told
unfolding coupled_grid_of
returns-clause-told c = first_is_returned coupled_grids coupled_agrees c.args.bytes.now c.coupled_grid.result c.coupled_grid.ensures

pub returns-clause-grid : goal.returns-clause-grid
unfolding coupled_grid_of
returns-clause-grid c =
    whole_grid c.coupled_grid.result (returned_is_grid coupled_grids coupled_agrees c.args.bytes.now c.coupled_grid.result c.coupled_grid.ensures)

pub returns-clause-areas : goal.returns-clause-areas
unfolding coupled_grid_of
returns-clause-areas c =
    whole_areas c.coupled_grid.result (returned_is_grid coupled_grids coupled_agrees c.args.bytes.now c.coupled_grid.result c.coupled_grid.ensures)
