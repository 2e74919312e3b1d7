use Rattle.std.proofs.Common.{sym, subst}
use Rattle.std.proofs.lemmas.Result.{err_from_is_err_and}
use Rattle.cpl_fixed.specs.Results.{Returns}
use Rattle.cpl_gridfile.specs.Faults.{is_memory}
use Rattle.cpl_gridfile.specs.CoupledGrid.{coupled_grids}
use Rattle.cpl_gridfile.specs.Reading.{coupled_grid_of}
use Rattle.cpl_gridfile.specs.Readers.{parts_of}
use Rattle.cpl_gridfile.proofs.Judging.{lines_fail, parts_judged}
use Rattle.cpl_gridfile.proofs.CoupledLaws.{coupled_agrees}
use Rattle.cpl_gridfile.proofs.read.coupled_grid.Goals as goal

pub returns-in_err-reader : goal.returns-in_err-reader
unfolding coupled_grid_of
returns-in_err-reader c =
    let p = err_from_is_err_and c.from_residual.result c.from_residual.ensures.1 in
    rw (p.1, p.2) (lines_fail coupled_grids c.args.bytes.now c.in_err-reader.field-0.0 c.in_err-reader.ensures)

pub coupled-requires : goal.coupled-requires
coupled-requires c = (coupled_agrees.within c.args.bytes.now (parts_of c.in_ok-reader.reader) c.in_ok-reader.ensures).limits

pub returns : goal.returns
unfolding coupled_grid_of
returns c =
    subst (Returns is_memory c.coupled.result) (sym (parts_judged coupled_grids c.args.bytes.now (parts_of c.in_ok-reader.reader) c.in_ok-reader.ensures)) c.coupled.ensures
