-- The lists that an exchange grid keeps for each cell, and its rules as they are read from them.
use Rattle.std.specs.Prelude.{◌≡◌, ℕ, ◌-◌, ◌<◌, ◌≤◌, ◌&&◌, not, nat_lt, Bool, true, false, List, [], ◌∷◌, map, length, Option, Some, None, if◌then◌else◌, ℤ, pos, slice_index_or, All}
use Rattle.std.specs.List.{range_with_len}
use Rattle.std.specs.Ordering.{int_eq}
use Rattle.cpl_fixed.specs.Totals.{total_of}
use Rattle.cpl_fixed.specs.declared.limits.TheConstants.{MOST_EXCHANGE_CELLS}
use Rattle.cpl_mosaic.specs.declared.parts.Tile.{Tile}
use Rattle.cpl_mosaic.specs.declared.parts.CellId.{CellId}
use Rattle.cpl_mosaic.specs.Sides.{IsCellOf, is_same_cell}
use Rattle.cpl_mosaic.specs.Contacts.{cells_of}
use Rattle.cpl_mosaic.specs.Cells.{cell_of}
use Rattle.cpl_xgrid.specs.declared.parts.XRow.{XRow}
use Rattle.cpl_xgrid.specs.declared.parts.XRef.{XRef}
use Rattle.cpl_xgrid.specs.declared.parts.Surface.{Surface}
use Rattle.cpl_xgrid.specs.declared.parts.Surface.TheVariants.{Land, Ocean}
use Rattle.cpl_xgrid.specs.declared.rules.Parent.{Parent}
use Rattle.cpl_xgrid.specs.declared.rules.Parent.TheVariants as parent
use Rattle.cpl_xgrid.specs.declared.error.XGridError.{XGridError}
use Rattle.cpl_xgrid.specs.declared.error.XGridError.TheVariants.{AirSum, LandSum, OceanSum, NoOutlet}
use Rattle.cpl_xgrid.specs.Groups.{numbers_from}
use Rattle.cpl_xgrid.specs.Lists.{XGridLists}
use Rattle.cpl_xgrid.specs.Rows.{refs_of_air, refs_of_other, outlets_of}

-- what each cell of a mosaic has, in whole order
abbrev pub for_cells : {T : Type 0} → List Tile → (CellId → T) → List T
for_cells tiles has = map (λ n. has (cell_of tiles n)) (range_with_len 0 (cells_of tiles))

-- each cell lies in the mosaic
abbrev pub AreCells : List Tile → List CellId → Type 0
AreCells tiles cells = All (IsCellOf tiles) cells

-- the numbers of the cells of a list, grouped by the cells of the mosaic
abbrev pub by_cell : List Tile → List CellId → List (List ℕ)
by_cell tiles cells = for_cells tiles (λ cell. numbers_from (λ c. is_same_cell c cell) 0 cells)

-- the exchange cell of a number, where the land list has the first ones and the ocean list the rest
abbrev pub ref_of : ℕ → ℕ → XRef
ref_of lands n = if nat_lt n lands then record { list = Land; row = n } else record { list = Ocean; row = n - lands }

-- one of two lists
abbrev pub list_of : List XRow → List XRow → Surface → List XRow
list_of land_rows ocean_rows Land = land_rows
list_of land_rows ocean_rows Ocean = ocean_rows

-- past the end of its list an exchange cell has no area
abbrev pub no_row : XRow
no_row = record { air = record { tile = 0; i = 0; j = 0 }; other = record { tile = 0; i = 0; j = 0 }; area = pos 0 }

-- the area of an exchange cell
abbrev pub ref_area : List XRow → List XRow → XRef → ℤ
ref_area land_rows ocean_rows ref = (slice_index_or (list_of land_rows ocean_rows ref.list) ref.row no_row).area

-- exchange cells that are in their lists
pub record AreRefs (land_rows ocean_rows : List XRow) (refs : List XRef) : Type 0 where
  pub few : length refs ≤ MOST_EXCHANGE_CELLS
  pub each : All (λ (ref : XRef). ref.row < length (list_of land_rows ocean_rows ref.list)) refs

-- the sum of the areas of exchange cells
abbrev pub refs_area : List XRow → List XRow → List XRef → ℤ
refs_area land_rows ocean_rows refs = total_of (map (ref_area land_rows ocean_rows) refs)

-- the fault of a sum, by the parent
abbrev pub sum_error : Parent → ℕ → ℤ → ℤ → XGridError
sum_error parent.Air = AirSum
sum_error parent.Land = LandSum
sum_error parent.Ocean = OceanSum

-- a sum that isn't the area
abbrev pub sum_fault : Parent → ℕ → ℤ → ℤ → Option XGridError
sum_fault of n sum area = if int_eq sum area then None else Some (sum_error of n sum area)

-- a cell whose group of exchange cells doesn't sum to its area
abbrev pub group_fault : Parent → List XRow → List XRow → List (List XRef) → ℕ → ℤ → Option XGridError
group_fault of land_rows ocean_rows groups n area = sum_fault of n (refs_area land_rows ocean_rows (slice_index_or groups n [])) area

abbrev pub is_empty : {T : Type 0} → List T → Bool
is_empty [] = true
is_empty (x ∷ xs) = false

-- a cell with an area whose group of outlets is empty
abbrev pub dry_fault : List (List ℕ) → ℕ → ℤ → Option XGridError
dry_fault groups n area = if not (int_eq area (pos 0)) && is_empty (slice_index_or groups n []) then Some (NoOutlet n) else None

-- what an exchange grid keeps beside its lists: for each cell of a parent its exchange cells, and its outlets
pub record IsKept (lists : XGridLists) (of_air of_land of_ocean : List (List XRef)) (runoff : List (List ℕ)) : Type 0 where
  pub air : of_air ≡ for_cells lists.air (refs_of_air lists.land_rows lists.ocean_rows)
  pub land : of_land ≡ for_cells lists.land (refs_of_other Land lists.land_rows)
  pub ocean : of_ocean ≡ for_cells lists.ocean (refs_of_other Ocean lists.ocean_rows)
  pub outlets : runoff ≡ for_cells lists.land (outlets_of lists.outlets)
