-- One cell of the ocean more.
use Rattle.std.proofs.Common.{◌≡◌, ◌∙◌, sym, ap, not, ℕ, ◌-◌, ◌≤◌, arith, List, ◌++◌, map, w64, to_z, of_z}
use Rattle.std.specs.List.{filter, range_with_len}
use Rattle.std.specs.Prelude.{pos}
use Rattle.std.proofs.lemmas.Int.{ints}
use Rattle.cpl_mosaic.specs.declared.parts.Tile.{Tile}
use Rattle.cpl_mosaic.specs.Contacts.{cells_of}
use Rattle.cpl_mosaic.specs.Cells.{cell_of}
use Rattle.cpl_xgrid.specs.declared.parts.XRow.{XRow}
use Rattle.cpl_made_grid.specs.declared.overlaps.Rows.{Rows}
use Rattle.cpl_made_grid.specs.Shapes.{sphere_tiles, ocean_tiles, air_count, ocean_count}
use Rattle.cpl_made_grid.specs.Shares.{end_under}
use Rattle.cpl_made_grid.specs.Overlaps.{in_common, overlap, is_land, land_row, ocean_row}
use Rattle.cpl_made_grid.specs.Outlets.{first_under}
use Rattle.cpl_made_grid.proofs.Mosaics.{counts, sphere_cells, ocean_cells}
use Rattle.cpl_made_grid.proofs.Cuts.{first_end, end_within}
use Rattle.cpl_made_grid.proofs.Ranges.{pushed, passed_over, none_yet}
use Rattle.cpl_made_grid.proofs.RowLaws.{parts_at, land_rows_is, ocean_rows_is}
use Rattle.cpl_made_grid.proofs.overlaps.push_rows.Goals.{then-is_land+in_ok-push, else-is_land+in_ok-push-2}
use Rattle.cpl_made_grid.proofs.overlaps.push_rows.Goals as goal

-- the cell of the air is one of the sphere's, and that of the ocean one of its tile's
pub cell-air-requires : goal.cell-air-requires
cell-air-requires c =
    let cells = ap cells_of c.requires.sphere ∙ sphere_cells c.args.recipe.size in
    let within = c.requires.within in
    omega arith

pub cell-other-requires : goal.cell-other-requires
cell-other-requires c =
    let cells = ap cells_of c.requires.ocean ∙ ocean_cells c.args.recipe.size in
    let inside = end_within (air_count c.args.recipe.size) (ocean_count c.args.recipe.size) c.args.a (parts_at c.args.recipe.size c.args.a c.requires.size c.requires.within) in
    omega arith

pub loop-o-init : goal.loop-o-init
loop-o-init c =
    let recipe = c.args.recipe in
    let a = c.args.a in
    record {
      land = none_yet (land_row recipe.size a) (is_land recipe a) (first_under recipe.size a) c.first_under-o.result c.args.rows.now.land.items c.first_under-o.ensures;
      ocean = none_yet (ocean_row recipe.size a) (λ o. not (is_land recipe a o)) (first_under recipe.size a) c.first_under-o.result c.args.rows.now.ocean.items c.first_under-o.ensures;
    }

pub loop-o-preserved : goal.loop-o-preserved
loop-o-preserved c =
    let recipe = c.args.recipe in
    let a = c.args.a in
    let o = c.loop-o.o in
    let first = first_under recipe.size a in
    let least : first_under c.args.recipe.size c.args.a ≤ c.loop-o.o = omega arith in
    let air : c.cell-air.result ≡ cell_of (sphere_tiles c.args.recipe.size) c.args.a = c.cell-air.ensures ∙ ap (λ (tiles : List Tile). cell_of tiles c.args.a) c.requires.sphere in
    let few : overlap c.args.recipe.size c.args.a c.loop-o.o ≤ air_count c.args.recipe.size = omega arith in
    let airs_few = (counts c.args.recipe.size c.requires.size).airs_few in
    let laps : c.in_common-area.result ≡ pos (overlap c.args.recipe.size c.args.a c.loop-o.o) =
    c.in_common-area.ensures ∙ (λ i. pos (in_common (c.air_count-airs.ensures i) (c.ocean_count-oceans.ensures i) c.args.a c.loop-o.o)) in
    let area : to_z w64 (of_z w64 c.in_common-area.result) ≡ pos (overlap c.args.recipe.size c.args.a c.loop-o.o) = omega (arith, ints, laps, few, airs_few) in
    elim c.if-is_land.branch [
      | then-is_land+in_ok-push w ↦
          let land = sym w.if-is_land.ensures in
          record {
            land = ap (λ (rows : Rows). rows.land.items) w.rows-is ∙ w.in_ok-push.ensures.items
                ∙ pushed (land_row recipe.size a) (is_land recipe a) first o c.args.rows.now.land.items c.loop-o.rows.land.items _ least land (λ i. record { air = air i; other = air i; area = area i }) c.loop-o.invariant.land;
            ocean = ap (λ (rows : Rows). rows.ocean.items) w.rows-is
                ∙ passed_over (ocean_row recipe.size a) (λ n. not (is_land recipe a n)) first o c.args.rows.now.ocean.items c.loop-o.rows.ocean.items least (ap not land) c.loop-o.invariant.ocean;
          }
      | else-is_land+in_ok-push-2 w ↦
          let water = sym w.if-is_land.ensures in
          let other : w.cell-other.result ≡ cell_of (ocean_tiles c.args.recipe.size) c.loop-o.o = w.cell-other.ensures ∙ ap (λ (tiles : List Tile). cell_of tiles c.loop-o.o) c.requires.ocean in
          record {
            land = ap (λ (rows : Rows). rows.land.items) w.rows-is
                ∙ passed_over (land_row recipe.size a) (is_land recipe a) first o c.args.rows.now.land.items c.loop-o.rows.land.items least water c.loop-o.invariant.land;
            ocean = ap (λ (rows : Rows). rows.ocean.items) w.rows-is ∙ w.in_ok-push-2.ensures.items
                ∙ pushed (ocean_row recipe.size a) (λ n. not (is_land recipe a n)) first o c.args.rows.now.ocean.items c.loop-o.rows.ocean.items _ least (ap not water) (λ i. record { air = air i; other = other i; area = area i }) c.loop-o.invariant.ocean;
          }
    ]

pub returns : goal.returns
returns c =
    let recipe = c.args.recipe in
    let a = c.args.a in
    let order = first_end (air_count c.args.recipe.size) (ocean_count c.args.recipe.size) c.args.a (parts_at c.args.recipe.size c.args.a c.requires.size c.requires.within) in
    let is : c.loop-o.o ≡ end_under (air_count c.args.recipe.size) (ocean_count c.args.recipe.size) c.args.a = omega arith in
    record {
      land = c.loop-o.invariant.land ∙ ap (λ (n : ℕ). c.args.rows.now.land.items ++ map (land_row recipe.size a) (filter (is_land recipe a) (range_with_len (first_under recipe.size a) (n - first_under recipe.size a)))) is
          ∙ ap (λ (l : List XRow). c.args.rows.now.land.items ++ l) (sym (land_rows_is recipe a c.requires.size c.requires.within));
      ocean = c.loop-o.invariant.ocean ∙ ap (λ (n : ℕ). c.args.rows.now.ocean.items ++ map (ocean_row recipe.size a) (filter (λ o. not (is_land recipe a o)) (range_with_len (first_under recipe.size a) (n - first_under recipe.size a)))) is
          ∙ ap (λ (l : List XRow). c.args.rows.now.ocean.items ++ l) (sym (ocean_rows_is recipe a c.requires.size c.requires.within));
    }
