use Rattle.std.proofs.Common.{sym, subst}
use Rattle.std.proofs.lemmas.Result.{err_from_is_err_and}
use Rattle.cpl_fixed.specs.Results.{Returns}
use Rattle.cpl_gridfile.specs.Faults.{is_memory}
use Rattle.cpl_gridfile.specs.AirGrid.{air_grids}
use Rattle.cpl_gridfile.specs.Reading.{air_grid_of}
use Rattle.cpl_gridfile.specs.Readers.{parts_of}
use Rattle.cpl_gridfile.proofs.Judging.{lines_fail, parts_judged}
use Rattle.cpl_gridfile.proofs.AirLaws.{air_agrees}
use Rattle.cpl_gridfile.proofs.read.air_grid.Goals as goal

pub returns-in_err-reader : goal.returns-in_err-reader
unfolding air_grid_of
returns-in_err-reader c =
    let p = err_from_is_err_and c.from_residual.result c.from_residual.ensures.1 in
    rw (p.1, p.2) (lines_fail air_grids c.args.bytes.now c.in_err-reader.field-0.0 c.in_err-reader.ensures)

pub air-requires : goal.air-requires
air-requires c = air_agrees.within c.args.bytes.now (parts_of c.in_ok-reader.reader) c.in_ok-reader.ensures

pub returns : goal.returns
unfolding air_grid_of
returns c =
    subst (Returns is_memory c.air.result) (sym (parts_judged air_grids c.args.bytes.now (parts_of c.in_ok-reader.reader) c.in_ok-reader.ensures)) c.air.ensures
