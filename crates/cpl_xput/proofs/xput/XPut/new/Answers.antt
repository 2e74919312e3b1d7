use Rattle.std.proofs.Common.{◌≡◌, rules, sym, ◌∙◌, ap, subst, List, map, ◌++◌}
use Rattle.cpl_mosaic.specs.declared.parts.Tile.{Tile}
use Rattle.cpl_xgrid.specs.declared.parts.XRow.{XRow}
use Rattle.cpl_xgrid.specs.Rows.{air_cell, other_cell}
use Rattle.cpl_xgrid.specs.Indexes.{AreCells}
use Rattle.cpl_xgrid.proofs.Building.{has_cells}
use Rattle.cpl_xput.specs.Exchanges.{Exchange, exchange_of}
use Rattle.cpl_xput.specs.Laws.{IsExchange}
use Rattle.cpl_xput.proofs.Laws.{is_exchange}
use Rattle.cpl_xput.proofs.xput.XPut.new.Goals as goal

pub for_pieces-requires-clause-cells : goal.for_pieces-requires-clause-cells
for_pieces-requires-clause-cells c =
    let cells : c.deref.result.now ≡ map air_cell c.args.grid.now.xgrid.land_rows ++ map air_cell c.args.grid.now.xgrid.ocean_rows =
    c.deref.ensures.value ∙ c.in_ok-of_air.ensures
    ∙ ap (λ (l : List XRow). map air_cell l ++ map air_cell c.rows-oceans.result.now) c.rows-lands.ensures
    ∙ ap (λ (l : List XRow). map air_cell c.args.grid.now.xgrid.land_rows ++ map air_cell l) c.rows-oceans.ensures in
    subst (λ (t : List Tile). AreCells t c.deref.result.now) (sym c.requires.layouts.of_air) (subst (AreCells _) (sym cells) (has_cells c.args.grid.now c.requires.grid).air)

pub for_pieces-requires-2-clause-cells : goal.for_pieces-requires-2-clause-cells
for_pieces-requires-2-clause-cells c =
    let cells : c.deref-2.result.now ≡ map other_cell c.args.grid.now.xgrid.land_rows = c.deref-2.ensures.value ∙ c.in_ok-of_land.ensures ∙ ap (map other_cell) c.rows-lands.ensures in
    subst (λ (t : List Tile). AreCells t c.deref-2.result.now) (sym c.requires.layouts.of_land) (subst (AreCells _) (sym cells) (has_cells c.args.grid.now c.requires.grid).land)

pub for_pieces-requires-3-clause-cells : goal.for_pieces-requires-3-clause-cells
for_pieces-requires-3-clause-cells c =
    let cells : c.deref-3.result.now ≡ map other_cell c.args.grid.now.xgrid.ocean_rows = c.deref-3.ensures.value ∙ c.in_ok-of_ocean.ensures ∙ ap (map other_cell) c.rows-oceans.ensures in
    subst (λ (t : List Tile). AreCells t c.deref-3.result.now) (sym c.requires.layouts.of_ocean) (subst (AreCells _) (sym cells) (has_cells c.args.grid.now c.requires.grid).ocean)

pub returns-clause-law : goal.returns-clause-law
returns-clause-law c =
    let grid = c.args.grid.now in
    let air = c.args.air.now in
    let land = c.args.land.now in
    let ocean = c.args.ocean.now in
    let made : Exchange = record {
      air = c.in_ok-for_pieces.field-0;
      land = c.in_ok-for_pieces-2.field-0;
      ocean = c.in_ok-for_pieces-3.field-0;
      elements = c.in_ok-elements_of.field-0.items;
      weights = c.in_ok-drains_of.field-0;
    } in
    let same : made ≡ exchange_of grid air land ocean = search rules in
    subst (IsExchange grid air land ocean) (sym same)
    (is_exchange grid air land ocean c.requires.grid c.requires.layouts c.for_pieces.ensures.owners c.for_pieces-2.ensures.owners c.for_pieces-3.ensures.owners)
