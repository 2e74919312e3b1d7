-- The rules of an exchange grid, and the first that is broken.
use Rattle.std.specs.Prelude.{◌≡◌, ℕ, ◌+◌, ◌+ℤ◌, ◌&&◌, not, List, [], ◌∷◌, Option, Some, None, if◌then◌else◌, ℤ, pos, slice_index_or}
use Rattle.std.specs.List.{list_any}
use Rattle.std.specs.Ordering.{int_eq}
use Rattle.cpl_mosaic.specs.declared.parts.Tile.{Tile}
use Rattle.cpl_mosaic.specs.declared.parts.CellId.{CellId}
use Rattle.cpl_mosaic.specs.declared.mosaic.Mesh.{Mesh}
use Rattle.cpl_mosaic.specs.Sides.{is_same_cell}
use Rattle.cpl_mosaic.specs.Cells.{number_of, cell_of}
use Rattle.cpl_xgrid.specs.declared.parts.XRow.{XRow}
use Rattle.cpl_xgrid.specs.declared.parts.Outlet.{Outlet as OutletValue}
use Rattle.cpl_xgrid.specs.declared.parts.Surface.{Surface}
use Rattle.cpl_xgrid.specs.declared.parts.Surface.TheVariants.{Land, Ocean}
use Rattle.cpl_xgrid.specs.declared.error.XGridError.{XGridError}
use Rattle.cpl_xgrid.specs.declared.error.XGridError.TheVariants.{BadIndex, ZeroArea, AirSum, LandSum, OceanSum, Outlet, NoOutlet, Memory}
use Rattle.cpl_xgrid.specs.Rows.{is_cell, air_cell, other_cell, area_of}

abbrev pub or_else : Option XGridError → Option XGridError → Option XGridError
or_else (Some fault) other = Some fault
or_else None other = other

-- the first fault of items that are judged by their numbers, where the first has the number n
abbrev pub first_fault : {T : Type 0} → (ℕ → T → Option XGridError) → ℕ → List T → Option XGridError
first_fault judge n [] = None
first_fault judge n (item ∷ items) = or_else (judge n item) (first_fault judge (n + 1) items)

-- the tiles of a mesh
abbrev pub tiles_of : Mesh → List Tile
tiles_of mesh = mesh.mosaic.tiles

-- the area of a cell of a mesh
abbrev pub area_at : Mesh → CellId → ℤ
area_at mesh cell = slice_index_or mesh.area (number_of (tiles_of mesh) cell) (pos 0)

-- both cells lie in their mosaics, and the area isn't 0
abbrev pub row_fault : Surface → List Tile → List Tile → ℕ → XRow → Option XGridError
row_fault list air other n row =
    if not (is_cell air row.air && is_cell other row.other) then Some (BadIndex list n)
    else (if int_eq row.area (pos 0) then Some (ZeroArea list n) else None)

-- a cell of the mesh has the area that its exchange cells sum to
abbrev pub sum_fault : (ℕ → ℤ → ℤ → XGridError) → (CellId → ℤ) → Mesh → ℕ → ℤ → Option XGridError
sum_fault fault sum mesh n area =
    if int_eq (sum (cell_of (tiles_of mesh) n)) area then None else Some (fault n (sum (cell_of (tiles_of mesh) n)) area)

-- the outlet leads from a cell of the land to a cell of the ocean with an area, and has a weight
abbrev pub outlet_fault : Mesh → Mesh → ℕ → OutletValue → Option XGridError
outlet_fault land ocean n outlet =
    if is_cell (tiles_of land) outlet.land && is_cell (tiles_of ocean) outlet.ocean
    && not (int_eq (area_at ocean outlet.ocean) (pos 0)) && not (int_eq outlet.weight (pos 0)) then None else Some (Outlet n)

-- a cell of the land with an area has an outlet
abbrev pub no_outlet_fault : Mesh → List OutletValue → ℕ → ℤ → Option XGridError
no_outlet_fault land outlets n area =
    if not (int_eq area (pos 0)) && not (list_any (λ (outlet : OutletValue). is_same_cell outlet.land (cell_of (tiles_of land) n)) outlets)
    then Some (NoOutlet n) else None

-- the sums of the air over both lists, and those of the land and of the ocean
abbrev pub air_fault : Mesh → List XRow → List XRow → Option XGridError
air_fault air land_rows ocean_rows = first_fault (sum_fault AirSum (λ cell. area_of air_cell cell land_rows +ℤ area_of air_cell cell ocean_rows) air) 0 air.area

abbrev pub land_fault : Mesh → List XRow → Option XGridError
land_fault land land_rows = first_fault (sum_fault LandSum (λ cell. area_of other_cell cell land_rows) land) 0 land.area

abbrev pub ocean_fault : Mesh → List XRow → Option XGridError
ocean_fault ocean ocean_rows = first_fault (sum_fault OceanSum (λ cell. area_of other_cell cell ocean_rows) ocean) 0 ocean.area

-- The first broken rule: rows, the land list first; the sums of the air, of the land and of the ocean; outlets; cells of the
-- land without one.
abbrev pub xgrid_fault : Mesh → Mesh → Mesh → List XRow → List XRow → List OutletValue → Option XGridError
xgrid_fault air land ocean land_rows ocean_rows outlets =
    or_else (first_fault (row_fault Land (tiles_of air) (tiles_of land)) 0 land_rows)
    (or_else (first_fault (row_fault Ocean (tiles_of air) (tiles_of ocean)) 0 ocean_rows)
    (or_else (air_fault air land_rows ocean_rows)
    (or_else (land_fault land land_rows)
    (or_else (ocean_fault ocean ocean_rows)
    (or_else (first_fault (outlet_fault land ocean) 0 outlets)
    (first_fault (no_outlet_fault land outlets) 0 land.area))))))

-- what making an exchange grid answers is the first broken rule, or that there was no memory
abbrev pub IsFirstFault : Option XGridError → XGridError → Type 0
IsFirstFault found Memory = Unit {0}
IsFirstFault found fault = found ≡ Some fault
