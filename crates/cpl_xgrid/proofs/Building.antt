-- What lists that break no rule say of their cells.
use Rattle.std.proofs.Common.{◌≡◌, ◌≢◌, refl, sym, ◌∙◌, ap, Bool, true, false, not, ◌&&◌, cond, ℕ, ◌+◌, ◌<◌, arith, List, ◌++◌, map, length, get_or, Option, Some, None}
use Rattle.std.specs.Prelude.{if◌then◌else◌, pos, All}
use Rattle.std.specs.Bool.{Decides}
use Rattle.std.specs.List.{list_any}
use Rattle.std.specs.Ordering.{int_eq}
use Rattle.std.proofs.lemmas.Bool.{and_parts}
use Rattle.std.proofs.lemmas.Bool.Decides.{Decides-int_eq}
use Rattle.std.proofs.lemmas.Int.{ints}
use Rattle.std.proofs.lemmas.List.Elements.{All-map, All-append}
use Rattle.cpl_mosaic.specs.declared.parts.Tile.{Tile}
use Rattle.cpl_mosaic.specs.declared.mosaic.Mesh.{Mesh}
use Rattle.cpl_mosaic.specs.Sides.{IsCellOf, is_same_cell}
use Rattle.cpl_mosaic.specs.Cells.{cell_of}
use Rattle.cpl_fixed.specs.Ranges.{IsFromℤ}
use Rattle.cpl_fixed.specs.declared.limits.TheConstants.{MOST_WEIGHT}
use Rattle.cpl_xgrid.specs.declared.parts.XRow.{XRow}
use Rattle.cpl_xgrid.specs.declared.parts.Outlet.{Outlet}
use Rattle.cpl_xgrid.specs.declared.parts.Surface.{Surface}
use Rattle.cpl_xgrid.specs.declared.error.XGridError.{XGridError}
use Rattle.cpl_xgrid.specs.declared.error.XGridError.TheVariants.{BadIndex, ZeroArea, NoOutlet}
use Rattle.cpl_xgrid.specs.Rows.{is_cell, air_cell, other_cell, land_cell}
use Rattle.cpl_xgrid.specs.Rules.{or_else, first_fault, row_fault, air_fault, land_fault, ocean_fault, outlet_fault, no_outlet_fault, tiles_of}
use Rattle.cpl_xgrid.specs.Indexes.{AreCells}
use Rattle.cpl_xgrid.specs.declared.grid.Grid.{Grid}
use Rattle.cpl_xgrid.specs.declared.parts.Surface.TheVariants.{Land, Ocean}
use Rattle.cpl_xgrid.specs.Grids.{IsGrid}
use Rattle.cpl_xgrid.proofs.CellNumbers.{cell_is}
use Rattle.cpl_xgrid.proofs.Faults.{none_faulty, first_none, rest_none}

-- a test holds where its fault isn't there
passed : (b : Bool) (fault : XGridError) (other : Option XGridError) → cond (not b) (Some fault) other ≡ None → b ≡ true
passed true fault other e = refl
passed false fault other e = absurd (cc)

kept : (b : Bool) (fault : XGridError) → cond b None (Some fault) ≡ None → b ≡ true
kept true fault e = refl
kept false fault e = absurd (cc)

-- a test that fails where its fact doesn't hold, and the other way round
fails : {P : Type 0} (b : Bool) → Decides b P → not b ≡ true → P → ⊥
fails true is e p = absurd (cc)
fails false is e p = let t = is.1 p in absurd (cc)

failed : {P : Type 0} (b : Bool) → Decides b P → (P → ⊥) → b ≡ false
failed true is other = absurd (other (is.0 refl))
failed false is other = refl

-- a cell with an area passes where it has an outlet
wet : (zero any : Bool) (fault : XGridError) → zero ≡ false → cond (not zero && not any) (Some fault) None ≡ None → any ≡ true
wet true any fault e none = absurd (cc)
wet false true fault e none = refl
wet false false fault e none = absurd (cc)

-- both cells of each row
row_cells : (list : Surface) (air other : List Tile) (rows : List XRow) → first_fault (row_fault list air other) 0 rows ≡ None
    → (k : ℕ) (d : XRow) → k < length rows → (is_cell air (get_or rows k d).air && is_cell other (get_or rows k d).other) ≡ true
row_cells list air other rows none k d h =
    passed (is_cell air (get_or rows k d).air && is_cell other (get_or rows k d).other) (BadIndex list (0 + k))
    (if int_eq (get_or rows k d).area (pos 0) then Some (ZeroArea list (0 + k)) else None)
    (none_faulty (row_fault list air other) 0 rows none k d h)

rows_air : (list : Surface) (air other : List Tile) (rows : List XRow) → first_fault (row_fault list air other) 0 rows ≡ None → AreCells air (map air_cell rows)
rows_air list air other rows none =
    All-map (IsCellOf air) air_cell rows (λ k d h. cell_is air (get_or rows k d).air (and_parts (is_cell air (get_or rows k d).air) (is_cell other (get_or rows k d).other) (row_cells list air other rows none k d h)).0)

pub rows_other : (list : Surface) (air other : List Tile) (rows : List XRow) → first_fault (row_fault list air other) 0 rows ≡ None → AreCells other (map other_cell rows)
rows_other list air other rows none =
    All-map (IsCellOf other) other_cell rows (λ k d h. cell_is other (get_or rows k d).other (and_parts (is_cell air (get_or rows k d).air) (is_cell other (get_or rows k d).other) (row_cells list air other rows none k d h)).1)

pub both_air : (one other : Surface) (air land ocean : List Tile) (land_rows ocean_rows : List XRow)
    → first_fault (row_fault one air land) 0 land_rows ≡ None → first_fault (row_fault other air ocean) 0 ocean_rows ≡ None → AreCells air (map air_cell land_rows ++ map air_cell ocean_rows)
both_air one other air land ocean land_rows ocean_rows first second =
    All-append (IsCellOf air) (map air_cell land_rows) (map air_cell ocean_rows) (rows_air one air land land_rows first) (rows_air other air ocean ocean_rows second)

-- the cell of the land of each outlet
pub outlet_cells : (land ocean : Mesh) (outlets : List Outlet) → first_fault (outlet_fault land ocean) 0 outlets ≡ None → AreCells (tiles_of land) (map land_cell outlets)
outlet_cells land ocean outlets none =
    All-map (IsCellOf (tiles_of land)) land_cell outlets (λ k d h.
    let whole = kept _ _ (none_faulty (outlet_fault land ocean) 0 outlets none k d h) in
    cell_is (tiles_of land) (get_or outlets k d).land (and_parts _ _ (and_parts _ _ (and_parts _ _ whole).0).0).0)

-- no part has a fault
pub neither : (a b : Option XGridError) → a ≡ None → b ≡ None → or_else a b ≡ None
neither a b first second = ap (λ (o : Option XGridError). or_else o b) first ∙ second

-- the parts of a whole with no fault that judge rows, outlets and cells of the land
record IsClear (first second outlets last : Option XGridError) : Type 0 where
  land_rows : first ≡ None
  ocean_rows : second ≡ None
  ways : outlets ≡ None
  dry : last ≡ None

clear_parts : (a b air land ocean c d : Option XGridError) → or_else a (or_else b (or_else air (or_else land (or_else ocean (or_else c d))))) ≡ None → IsClear a b c d
clear_parts a b air land ocean c d none =
    let sums = or_else air (or_else land (or_else ocean (or_else c d))) in
    let after = rest_none a (or_else b sums) none in
    let after_rows = rest_none b sums after in
    let after_air = rest_none air (or_else land (or_else ocean (or_else c d))) after_rows in
    let after_land = rest_none land (or_else ocean (or_else c d)) after_air in
    let last = rest_none ocean (or_else c d) after_land in
    record { land_rows = first_none a (or_else b sums) none; ocean_rows = first_none b sums after; ways = first_none c d last; dry = rest_none c d last }

clear_grid : (grid : Grid) → IsGrid grid
    → IsClear (first_fault (row_fault Land (tiles_of grid.air) (tiles_of grid.land)) 0 grid.xgrid.land_rows)
    (first_fault (row_fault Ocean (tiles_of grid.air) (tiles_of grid.ocean)) 0 grid.xgrid.ocean_rows)
    (first_fault (outlet_fault grid.land grid.ocean) 0 grid.xgrid.outlets)
    (first_fault (no_outlet_fault grid.land grid.xgrid.outlets) 0 grid.land.area)
clear_grid grid is =
    clear_parts
    (first_fault (row_fault Land (tiles_of grid.air) (tiles_of grid.land)) 0 grid.xgrid.land_rows)
    (first_fault (row_fault Ocean (tiles_of grid.air) (tiles_of grid.ocean)) 0 grid.xgrid.ocean_rows)
    (air_fault grid.air grid.xgrid.land_rows grid.xgrid.ocean_rows)
    (land_fault grid.land grid.xgrid.land_rows)
    (ocean_fault grid.ocean grid.xgrid.ocean_rows)
    (first_fault (outlet_fault grid.land grid.ocean) 0 grid.xgrid.outlets)
    (first_fault (no_outlet_fault grid.land grid.xgrid.outlets) 0 grid.land.area)
    is.rules

-- the cells that a grid's exchange cells and outlets are of
pub record HasCells (grid : Grid) : Type 0 where
  pub air : AreCells (tiles_of grid.air) (map air_cell grid.xgrid.land_rows ++ map air_cell grid.xgrid.ocean_rows)
  pub land : AreCells (tiles_of grid.land) (map other_cell grid.xgrid.land_rows)
  pub ocean : AreCells (tiles_of grid.ocean) (map other_cell grid.xgrid.ocean_rows)
  pub outlets : AreCells (tiles_of grid.land) (map land_cell grid.xgrid.outlets)

pub has_cells : (grid : Grid) → IsGrid grid → HasCells grid
has_cells grid is =
    let clear = clear_grid grid is in
    record {
      air = both_air Land Ocean (tiles_of grid.air) (tiles_of grid.land) (tiles_of grid.ocean) grid.xgrid.land_rows grid.xgrid.ocean_rows clear.land_rows clear.ocean_rows;
      land = rows_other Land (tiles_of grid.air) (tiles_of grid.land) grid.xgrid.land_rows clear.land_rows;
      ocean = rows_other Ocean (tiles_of grid.air) (tiles_of grid.ocean) grid.xgrid.ocean_rows clear.ocean_rows;
      outlets = outlet_cells grid.land grid.ocean grid.xgrid.outlets clear.ways;
    }

-- each outlet of a grid has a weight
pub outlet_weights : (grid : Grid) → IsGrid grid → All (λ (outlet : Outlet). IsFromℤ 1 MOST_WEIGHT outlet.weight) grid.xgrid.outlets
outlet_weights grid is k d h =
    let weight = (get_or grid.xgrid.outlets k d).weight in
    let whole = kept _ _ (none_faulty (outlet_fault grid.land grid.ocean) 0 grid.xgrid.outlets (clear_grid grid is).ways k d h) in
    let some : weight ≢ pos 0 = fails (int_eq weight (pos 0)) (Decides-int_eq weight (pos 0)) (and_parts _ _ whole).1 in
    let range = is.outlets.each k d h in
    (omega (arith, ints, some, range.0), range.1)

-- each cell of the land with an area has an outlet
pub has_outlet : (grid : Grid) → IsGrid grid → (n : ℕ) → n < length grid.land.area → get_or grid.land.area n (pos 0) ≢ pos 0
    → list_any (λ (outlet : Outlet). is_same_cell outlet.land (cell_of (tiles_of grid.land) n)) grid.xgrid.outlets ≡ true
has_outlet grid is n within some =
    let area = get_or grid.land.area n (pos 0) in
    let same : 0 + n ≡ n = omega arith in
    let none = ap (λ (m : ℕ). no_outlet_fault grid.land grid.xgrid.outlets m area) (sym same) ∙ none_faulty (no_outlet_fault grid.land grid.xgrid.outlets) 0 grid.land.area (clear_grid grid is).dry n (pos 0) within in
    wet (int_eq area (pos 0)) (list_any (λ (outlet : Outlet). is_same_cell outlet.land (cell_of (tiles_of grid.land) n)) grid.xgrid.outlets) (NoOutlet n) (failed _ (Decides-int_eq area (pos 0)) some) none
