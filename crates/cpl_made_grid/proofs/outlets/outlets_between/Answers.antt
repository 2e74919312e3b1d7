-- One cell of the land more.
use Rattle.std.proofs.Common.{◌≡◌, ◌∙◌, sym, ap, false, arith, List, [], ◌∷◌, ◌++◌, Vec, Global, rules}
use Rattle.std.specs.Prelude.{pos}
use Rattle.cpl_mosaic.specs.declared.parts.Tile.{Tile}
use Rattle.cpl_mosaic.specs.Contacts.{cells_of}
use Rattle.cpl_mosaic.specs.Cells.{cell_of}
use Rattle.cpl_xgrid.specs.declared.parts.Outlet.{Outlet}
use Rattle.cpl_made_grid.specs.Shapes.{ocean_tiles}
use Rattle.cpl_made_grid.specs.Outlets.{is_wet, wet_near, first_under, outlet_at}
use Rattle.cpl_made_grid.proofs.Ranges.{kept_next, left_next}
use Rattle.cpl_made_grid.proofs.OutletLaws.{wet_word}
use Rattle.cpl_made_grid.proofs.Mosaics.{counts, sphere_cells, ocean_cells}
use Rattle.cpl_made_grid.proofs.outlets.outlets_between.Goals.{then-area-ne0+in_ok-push, else-area-ne0}
use Rattle.cpl_made_grid.proofs.outlets.outlets_between.Goals as goal

pub overflow_cast-cell : goal.overflow_cast-cell
overflow_cast-cell c =
    let few = (counts c.args.size c.requires.size).airs_few in
    omega arith

pub wet_near-near-requires-clause-few : goal.wet_near-near-requires-clause-few
wet_near-near-requires-clause-few c =
    let few = (counts c.args.size c.requires.size).oceans_few in
    omega arith

pub wet_near-near-requires-clause-some : goal.wet_near-near-requires-clause-some
wet_near-near-requires-clause-some c =
    let are = counts c.args.size c.requires.size in
    let some = are.some in
    let more = are.more in
    omega arith

pub cell-requires : goal.cell-requires
cell-requires c =
    let cells = ap cells_of c.requires.sphere ∙ sphere_cells c.args.size in
    omega arith

pub cell-requires-then-area-ne0 : goal.cell-requires-then-area-ne0
cell-requires-then-area-ne0 c =
    let cells = ap cells_of c.requires.ocean ∙ ocean_cells c.args.size in
    omega arith

pub loop-a-preserved : goal.loop-a-preserved
loop-a-preserved c = elim c.if-area-ne0.branch [
  | then-area-ne0+in_ok-push w ↦
      let wet = wet_word c.args.land_areas.now c.loop-a.a w.if-area-ne0.true in
      let land = w.cell.ensures ∙ ap (λ (tiles : List Tile). cell_of tiles c.loop-a.a) c.requires.sphere in
      let near = w.wet_near-near.ensures.value ∙ ap (wet_near c.args.ocean_areas.now) w.first_under.ensures in
      let ocean : w.cell-then-area-ne0.result ≡ cell_of (ocean_tiles c.args.size) (wet_near c.args.ocean_areas.now (first_under c.args.size c.loop-a.a)) =
      w.cell-then-area-ne0.ensures ∙ (λ i. cell_of (c.requires.ocean i) (near i)) in
      ap (λ (outlets : Vec Outlet Global). outlets.items) w.outlets-is ∙ w.in_ok-push.ensures.items
      ∙ (λ i. c.loop-a.invariant i ++ record { land = land i; ocean = ocean i; weight = pos 1 } ∷ [])
      ∙ sym (kept_next (outlet_at c.args.size c.args.ocean_areas.now) (is_wet c.args.land_areas.now) c.loop-a.a wet)
  | else-area-ne0 w ↦
      let dry : is_wet c.args.land_areas.now c.loop-a.a ≡ false = search rules in
      ap (λ (outlets : Vec Outlet Global). outlets.items) w.outlets-is ∙ c.loop-a.invariant
      ∙ sym (left_next (outlet_at c.args.size c.args.ocean_areas.now) (is_wet c.args.land_areas.now) c.loop-a.a dry)
]
