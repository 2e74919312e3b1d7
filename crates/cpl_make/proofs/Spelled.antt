-- Made grids keep the limits and the rules of a grid's text.
use Rattle.std.proofs.Common.{◌≡◌, refl, ◌∙◌, ap, Bool, true, false, ℕ, zero, suc, ◌+◌, ◌≤◌, arith, List, Some, None}
use Rattle.std.specs.Prelude.{pos, All, replicate}
use Rattle.std.specs.List.{position, position_from}
use Rattle.std.proofs.lemmas.Iterator.Adapters.{position_from-zero}
use Rattle.std.proofs.lemmas.Int.{ints}
use Rattle.std.proofs.lemmas.Bool.{ne_eqb, cond-false}
use Rattle.std.proofs.lemmas.List.Elements.{All-from_recursion, All-weaker}
use Rattle.cpl_fixed.specs.declared.words.Component.TheVariants.{Atmos, Land, Ocean}
use Rattle.cpl_mosaic.specs.declared.parts.Side.{Side}
use Rattle.cpl_mosaic.specs.declared.parts.Side.TheVariants as side
use Rattle.cpl_mosaic.specs.declared.parts.Tile.{Tile}
use Rattle.cpl_mosaic.specs.declared.parts.CellId.{CellId}
use Rattle.cpl_mosaic.specs.Sides.{IsCellOf}
use Rattle.cpl_mosaic.specs.Contacts.{AreTiles}
use Rattle.cpl_mosaic.proofs.Edges.{tile_within}
use Rattle.cpl_xgrid.specs.declared.parts.XRow.{XRow}
use Rattle.cpl_xgrid.specs.declared.parts.Outlet.{Outlet}
use Rattle.cpl_gridfile.specs.Within.{ContactIsWithin, IsWithinLimits, CellIsWithin, RowIsWithin, OutletIsWithin, AreWithinLimits}
use Rattle.cpl_gridfile.specs.Rules.{◌then◌, at_cell, at_contact, is_zero, area_fault}
use Rattle.cpl_gridfile.specs.CoupledGrid.{IsCoupledGrid, parts_of_grid, at_xgrid, coupled_fault}
use Rattle.cpl_made_grid.specs.declared.recipe.Recipe.{Recipe}
use Rattle.cpl_made_grid.specs.Shapes.{edges_joined, sphere_tiles, sphere_contacts, ocean_tiles, ocean_contacts, air_count, ocean_count, ocean_columns, ocean_rows as rows_of_ocean}
use Rattle.cpl_made_grid.specs.Shares.{IsSized}
use Rattle.cpl_made_grid.specs.Overlaps.{land_rows, ocean_rows}
use Rattle.cpl_made_grid.specs.Outlets.{outlets}
use Rattle.cpl_made_grid.specs.Grids.{made_grid, air_mesh, land_mesh, ocean_mesh}
use Rattle.cpl_made_grid.proofs.Mosaics.{counts, sphere_sizes, sphere_rules, sphere_lawful, ocean_sizes, ocean_rules, ocean_lawful}
use Rattle.cpl_made_grid.proofs.RowLaws.{IsRow, land_rows_are, ocean_rows_are, rows_few}
use Rattle.cpl_made_grid.proofs.GridLaws.{IsOutlet, air_is, land_is, ocean_is, outlets_are, outlets_few, made_rules}

-- CONTACTS

edges_within : (sides tile : ℕ) (of : Side) (other : ℕ) (other_of : Side) (flip : Bool) → sides ≤ 1024 → tile ≤ 5 → other ≤ 5 → ContactIsWithin (edges_joined sides tile of other other_of flip)
edges_within sides tile of other other_of flip few tile_few other_few = record {
  first = record { tile = omega arith; lo = omega arith; hi = omega arith };
  second = record { tile = omega arith; lo = omega arith; hi = omega arith };
}

sphere_within : (size : ℕ) → IsSized size → All ContactIsWithin (sphere_contacts size)
unfolding sphere_contacts
sphere_within size sized =
    let most = sized.most in
    let few : size ≤ 1024 = omega arith in
    All-from_recursion ContactIsWithin (sphere_contacts size) (
      edges_within size 0 side.E 1 side.W false few (omega arith) (omega arith),
      (
        edges_within size 0 side.N 2 side.W true few (omega arith) (omega arith),
        (
          edges_within size 0 side.W 4 side.N true few (omega arith) (omega arith),
          (
            edges_within size 0 side.S 5 side.N false few (omega arith) (omega arith),
            (
              edges_within size 1 side.N 2 side.S false few (omega arith) (omega arith),
              (
                edges_within size 1 side.E 3 side.S true few (omega arith) (omega arith),
                (
                  edges_within size 1 side.S 5 side.E true few (omega arith) (omega arith),
                  (
                    edges_within size 2 side.E 3 side.W false few (omega arith) (omega arith),
                    (
                      edges_within size 2 side.N 4 side.W true few (omega arith) (omega arith),
                      (
                        edges_within size 3 side.N 4 side.S false few (omega arith) (omega arith),
                        (
                          edges_within size 3 side.E 5 side.S true few (omega arith) (omega arith),
                          (
                            edges_within size 4 side.E 5 side.W false few (omega arith) (omega arith),
                            tt,
                          ),
                        ),
                      ),
                    ),
                  ),
                ),
              ),
            ),
          ),
        ),
      ),
    )

ocean_within : (size : ℕ) → IsSized size → All ContactIsWithin (ocean_contacts size)
unfolding ocean_contacts
ocean_within size sized =
    let most = sized.most in
    All-from_recursion ContactIsWithin (ocean_contacts size) (
      edges_within (rows_of_ocean size) 0 side.W 0 side.E false (omega arith) (omega arith) (omega arith),
      (
        edges_within (ocean_columns size) 0 side.N 0 side.N true (omega arith) (omega arith) (omega arith),
        tt,
      ),
    )

-- CELLS

cell_within : (tiles : List Tile) (cell : CellId) → AreTiles tiles → IsCellOf tiles cell → CellIsWithin cell
cell_within tiles cell sizes is =
    let column = is.column in
    let row = is.row in
    let few = sizes.most in
    let below = tile_within tiles cell.tile cell.i side.S is.column in
    let tile = sizes.each cell.tile (record { nx = 0; ny = 0 }) below in
    let nx = tile.nx_most in
    let ny = tile.ny_most in
    record { tile = omega arith; i = omega arith; j = omega arith }

row_within : (size : ℕ) (other : List Tile) (row : XRow) → IsSized size → AreTiles other → IsRow size other row → RowIsWithin row
row_within size other row sized sizes is =
    let least = is.least in
    let most = is.most in
    record {
      air = cell_within (sphere_tiles size) row.air (sphere_sizes size sized) is.air;
      other = cell_within other row.other sizes is.cell;
      area = (omega (arith, ints, least), omega (arith, ints, most));
    }

outlet_within : (recipe : Recipe) (outlet : Outlet) → IsSized recipe.size → IsOutlet recipe outlet → OutletIsWithin outlet
outlet_within recipe outlet sized is =
    let weight = is.weight in
    record {
      land = cell_within (sphere_tiles recipe.size) outlet.land (sphere_sizes recipe.size sized) is.land;
      ocean = cell_within (ocean_tiles recipe.size) outlet.ocean (ocean_sizes recipe.size sized) is.ocean;
      weight = (omega (arith, ints, weight), omega (arith, ints, weight));
    }

-- MESHES

pub air_within : (size : ℕ) → IsSized size → IsWithinLimits (air_mesh size)
air_within size sized =
    let mesh = air_is size sized in
    record { tiles = sphere_sizes size sized; few = (sphere_lawful size sized).few; contacts = sphere_within size sized; count = mesh.count; areas = mesh.each }

pub land_within : (recipe : Recipe) → IsSized recipe.size → IsWithinLimits (land_mesh recipe)
land_within recipe sized =
    let mesh = land_is recipe sized in
    record { tiles = sphere_sizes recipe.size sized; few = (sphere_lawful recipe.size sized).few; contacts = sphere_within recipe.size sized; count = mesh.count; areas = mesh.each }

pub sea_within : (recipe : Recipe) → IsSized recipe.size → IsWithinLimits (ocean_mesh recipe)
sea_within recipe sized =
    let mesh = ocean_is recipe sized in
    record { tiles = ocean_sizes recipe.size sized; few = (ocean_lawful recipe.size sized).few; contacts = ocean_within recipe.size sized; count = mesh.count; areas = mesh.each }

-- RULES

none_from : (x a n : ℕ) → 1 ≤ x → position_from is_zero a (replicate n (pos x)) ≡ None
none_from x a zero some = refl
none_from x a (suc n) some =
    cond-false (is_zero (pos x)) (Some a) (position_from is_zero (a + 1) (replicate n (pos x))) (ne_eqb x 0 (λ e. omega arith)) ∙ none_from x (a + 1) n some

no_zeros : (x n : ℕ) → 1 ≤ x → position is_zero (replicate n (pos x)) ≡ None
no_zeros x n some = position_from-zero is_zero (replicate n (pos x)) ∙ none_from x 0 n some

-- ALL

pub made_within : (recipe : Recipe) → IsSized recipe.size → AreWithinLimits (parts_of_grid (made_grid recipe))
unfolding made_grid
made_within recipe sized =
    let rows = rows_few recipe sized in
    let ways = outlets_few recipe sized in
    record {
      air = air_within recipe.size sized;
      land = land_within recipe sized;
      ocean = sea_within recipe sized;
      column = record { layers_least = omega arith; layers_most = omega arith; categories_least = omega arith; categories_most = omega arith };
      land_rows = All-weaker (IsRow recipe.size (sphere_tiles recipe.size)) RowIsWithin (λ row is. row_within recipe.size (sphere_tiles recipe.size) row sized (sphere_sizes recipe.size sized) is) (land_rows recipe) (land_rows_are recipe sized);
      ocean_rows = All-weaker (IsRow recipe.size (ocean_tiles recipe.size)) RowIsWithin (λ row is. row_within recipe.size (ocean_tiles recipe.size) row sized (ocean_sizes recipe.size sized) is) (ocean_rows recipe) (ocean_rows_are recipe sized);
      few_rows = omega arith;
      outlets = All-weaker (IsOutlet recipe) OutletIsWithin (λ outlet is. outlet_within recipe outlet sized is) (outlets recipe) (outlets_are recipe sized);
      few_outlets = omega arith;
    }

pub made_keeps : (recipe : Recipe) → IsSized recipe.size → coupled_fault (parts_of_grid (made_grid recipe)) ≡ None
unfolding made_grid
made_keeps recipe sized =
    let are = counts recipe.size sized in
    let some = are.some in
    let more = are.more in
    let area : area_fault (air_mesh recipe.size) ≡ None = ap at_cell (no_zeros (ocean_count recipe.size) (air_count recipe.size) (omega arith)) in
    let sphere = sphere_rules recipe.size sized.least in
    let sea = ocean_rules recipe.size in
    let rules = made_rules recipe sized in
    λ i. (area i then at_contact Atmos (sphere i)) then (at_contact Land (sphere i) then (at_contact Ocean (sea i) then at_xgrid (rules i)))

pub made_spelled : (recipe : Recipe) → IsSized recipe.size → IsCoupledGrid (made_grid recipe)
unfolding made_grid
made_spelled recipe sized = record { limits = record { limits = made_within recipe sized; whole = refl }; rules = made_keeps recipe sized }
