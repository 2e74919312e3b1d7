use Rattle.std.proofs.Common.{sym, subst}
use Rattle.std.proofs.lemmas.Result.{err_from_is_err_and}
use Rattle.cpl_fixed.specs.Results.{Returns}
use Rattle.cpl_gridfile.specs.Faults.{is_memory}
use Rattle.cpl_gridfile.specs.CoupledGrid.{coupled_grids}
use Rattle.cpl_gridfile.specs.Reading.{coupled_grid_of}
use Rattle.cpl_gridfile.specs.Readers.{parts_of}
use Rattle.cpl_gridfile.proofs.Judging.{lines_fail, parts_judged}
use Rattle.cpl_gridfile.proofs.CoupledLaws.{coupled_agrees}
use Rattle.cpl_gridfile.proofs.Laws.{returned_is_grid}
use Rattle.cpl_gridfile.proofs.WholeGrids.{whole_areas, whole_grid}
use Rattle.cpl_gridfile.proofs.read.take_grid.Goals as goal

pub returns-in_err-reader-clause-exact : goal.returns-in_err-reader-clause-exact
unfolding coupled_grid_of
returns-in_err-reader-clause-exact c =
    let bytes = c.deref.ensures.value in
    let p = err_from_is_err_and c.from_residual.result c.from_residual.ensures.1 in
    rw (sym bytes, p.1, p.2) (lines_fail coupled_grids c.deref.result.now c.in_err-reader.field-0.0 c.in_err-reader.ensures)

pub coupled-requires : goal.coupled-requires
coupled-requires c = (coupled_agrees.within c.deref.result.now (parts_of c.in_ok-reader.reader) c.in_ok-reader.ensures).limits

pub returns-clause-exact : goal.returns-clause-exact
unfolding coupled_grid_of
returns-clause-exact c =
    let bytes = c.deref.ensures.value in
    rw (sym bytes)
    (subst (Returns is_memory c.coupled.result) (sym (parts_judged coupled_grids c.deref.result.now (parts_of c.in_ok-reader.reader) c.in_ok-reader.ensures)) c.coupled.ensures)

pub returns-clause-found : goal.returns-clause-found
unfolding coupled_grid_of
returns-clause-found c =
    returned_is_grid coupled_grids coupled_agrees c.deref.result.now c.coupled.result
    (subst (Returns is_memory c.coupled.result) (sym (parts_judged coupled_grids c.deref.result.now (parts_of c.in_ok-reader.reader) c.in_ok-reader.ensures)) c.coupled.ensures)

pub returns-clause-grid : goal.returns-clause-grid
unfolding coupled_grid_of
returns-clause-grid c =
    whole_grid c.coupled.result
    (returned_is_grid coupled_grids coupled_agrees c.deref.result.now c.coupled.result
    (subst (Returns is_memory c.coupled.result) (sym (parts_judged coupled_grids c.deref.result.now (parts_of c.in_ok-reader.reader) c.in_ok-reader.ensures)) c.coupled.ensures))

pub returns-clause-areas : goal.returns-clause-areas
unfolding coupled_grid_of
returns-clause-areas c =
    whole_areas c.coupled.result
    (returned_is_grid coupled_grids coupled_agrees c.deref.result.now c.coupled.result
    (subst (Returns is_memory c.coupled.result) (sym (parts_judged coupled_grids c.deref.result.now (parts_of c.in_ok-reader.reader) c.in_ok-reader.ensures)) c.coupled.ensures))
