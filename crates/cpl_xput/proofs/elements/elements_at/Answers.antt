use Rattle.std.proofs.Common.{◌≡◌, sym, ◌∙◌, ap, subst, ◌≤◌, List, length}
use Rattle.cpl_fixed.specs.declared.limits.TheConstants.{MOST_EXCHANGE_CELLS}
use Rattle.cpl_mosaic.specs.Cells.{cell_of}
use Rattle.cpl_xgrid.specs.declared.parts.XRef.{XRef}
use Rattle.cpl_xgrid.specs.Rows.{refs_of_air}
use Rattle.cpl_xgrid.specs.Rules.{tiles_of}
use Rattle.cpl_xgrid.specs.Lists.{XGridLists}
use Rattle.cpl_xgrid.proofs.Sums.{air_refs_are}
use Rattle.cpl_xput.specs.Exchanges.{elements_in}
use Rattle.cpl_xput.proofs.elements.elements_at.Goals as goal

pub elements_in-requires-clause-few : goal.elements_in-requires-clause-few
elements_in-requires-clause-few c =
    let grid = c.args.grid.now in
    subst (λ (l : List XRef). length l ≤ MOST_EXCHANGE_CELLS) (sym c.cells_of_air.ensures)
    (air_refs_are grid.xgrid.land_rows grid.xgrid.ocean_rows (cell_of grid.xgrid.air c.args.cell) c.requires.grid.rows).few

pub returns : goal.returns
returns c =
    let grid = c.args.grid.now in
    let tiles : grid.xgrid.air ≡ tiles_of grid.air = ap (λ (l : XGridLists). l.air) c.requires.grid.lists in
    c.elements_in.ensures
    ∙ ap (elements_in grid.column.categories) (c.cells_of_air.ensures ∙ ap (λ (t : List _). refs_of_air grid.xgrid.land_rows grid.xgrid.ocean_rows (cell_of t c.args.cell)) tiles)
