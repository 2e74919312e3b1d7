-- The cells that exchange cells, outlets and cells of the ocean are of lie in their mosaics, and what two pieces share stands in its group.
use Rattle.std.proofs.Common.{◌≡◌, ◌∙◌, refl, sym, subst, ℕ, zero, suc, ◌+◌, ◌-◌, ◌<◌, ◌++◌, arith, Bool, true, false, List, [], ◌∷◌, get_or, cond, Some, None}
use Rattle.std.specs.Prelude.{All, map}
use Rattle.std.specs.List.{range_with_len}
use Rattle.std.proofs.lemmas.Bool.{and_parts}
use Rattle.std.proofs.lemmas.List.Elements.{All-map}
use Rattle.std.proofs.lemmas.List.FromFn.{get_or-range_with_len, length-range_with_len}
use Rattle.cpl_fixed.specs.declared.words.Component.{Component}
use Rattle.cpl_fixed.specs.declared.words.Component.TheVariants.{Atmos, Land, Ice, Ocean}
use Rattle.cpl_mosaic.specs.declared.parts.CellId.{CellId}
use Rattle.cpl_mosaic.specs.declared.parts.Tile.{Tile}
use Rattle.cpl_mosaic.specs.Sides.{IsCellOf}
use Rattle.cpl_mosaic.specs.Contacts.{AreTiles, cells_of}
use Rattle.cpl_mosaic.specs.Cells.{cell_of}
use Rattle.cpl_mosaic.proofs.Numbers.{numbers_agree}
use Rattle.cpl_layout.specs.Layouts.{Cuts}
use Rattle.cpl_xgrid.specs.declared.grid.Grid.{Grid}
use Rattle.cpl_xgrid.specs.declared.parts.Outlet.{Outlet}
use Rattle.cpl_xgrid.specs.declared.parts.Surface.TheVariants as surface
use Rattle.cpl_xgrid.specs.declared.error.XGridError.{XGridError}
use Rattle.cpl_xgrid.specs.Grids.{IsGrid}
use Rattle.cpl_xgrid.specs.Groups.{numbers_from}
use Rattle.cpl_xgrid.specs.Indexes.{AreCells}
use Rattle.cpl_xgrid.specs.Rows.{air_cell, other_cell, land_cell}
use Rattle.cpl_xgrid.specs.Rules.{tiles_of, first_fault, row_fault, outlet_fault, no_outlet_fault, air_fault, land_fault, ocean_fault, or_else}
use Rattle.cpl_xgrid.proofs.Building.{has_cells}
use Rattle.cpl_xgrid.proofs.CellNumbers.{cell_is}
use Rattle.cpl_xgrid.proofs.Faults.{rest_none, first_none, none_faulty}
use Rattle.cpl_wires.specs.Settings.{Setting, IsSetting, layout_of, base_of}
use Rattle.cpl_wires.specs.Pairs.{is_between, sea_cells, land_rows_between, ice_rows_between, outlets_between, cells_between}
use Rattle.cpl_wires.specs.Laws.{IsOf}
use Rattle.cpl_wires.specs.Tables.{Pair, ArePairs, by_pieces, pair_number, row_pair, outlet_pair, same_pair, rows_by_pieces, outlets_by_pieces, cells_by_pieces}
use Rattle.cpl_wires.proofs.Few.{pieces_some}
use Rattle.cpl_wires.proofs.Sharing.{all_back, between}

-- LISTS

all_front : {T : Type 0} (P : T → Type 0) (xs ys : List T) → All P (xs ++ ys) → All P xs
all_front P [] ys are k d h = absurd (omega arith)
all_front P (x ∷ xs) ys are zero d h = are zero d (omega arith)
all_front P (x ∷ xs) ys are (suc k) d h = all_front P xs ys (λ j e l. are (suc j) e (omega arith)) k d (omega arith)

all_rear : {T : Type 0} (P : T → Type 0) (xs ys : List T) → All P (xs ++ ys) → All P ys
all_rear P [] ys are = are
all_rear P (x ∷ xs) ys are = all_rear P xs ys (λ j e l. are (suc j) e (omega arith))

pairs_from : {T : Type 0} (ones others : List Tile) (f g : T → CellId) (items : List T) → AreCells ones (map f items) → AreCells others (map g items) → ArePairs ones others (map (λ item. (f item, g item)) items)
pairs_from ones others f g items first second =
    All-map (λ (pair : Pair). IsCellOf ones pair.0 × IsCellOf others pair.1) (λ item. (f item, g item)) items
    (λ k d h. (all_back (IsCellOf ones) f items first k d h, all_back (IsCellOf others) g items second k d h))

-- GRIDS

pub land_pairs : (grid : Grid) → IsGrid grid → ArePairs (tiles_of grid.air) (tiles_of grid.land) (map row_pair grid.xgrid.land_rows)
land_pairs grid is =
    let cells = has_cells grid is in
    pairs_from (tiles_of grid.air) (tiles_of grid.land) air_cell other_cell grid.xgrid.land_rows (all_front (IsCellOf (tiles_of grid.air)) (map air_cell grid.xgrid.land_rows) (map air_cell grid.xgrid.ocean_rows) cells.air) cells.land

pub sea_pairs : (grid : Grid) → IsGrid grid → ArePairs (tiles_of grid.air) (tiles_of grid.ocean) (map row_pair grid.xgrid.ocean_rows)
sea_pairs grid is =
    let cells = has_cells grid is in
    pairs_from (tiles_of grid.air) (tiles_of grid.ocean) air_cell other_cell grid.xgrid.ocean_rows (all_rear (IsCellOf (tiles_of grid.air)) (map air_cell grid.xgrid.land_rows) (map air_cell grid.xgrid.ocean_rows) cells.air) cells.ocean

kept : (b : Bool) (fault : XGridError) → cond b None (Some fault) ≡ None → b ≡ true
kept true fault e = refl
kept false fault e = absurd (cc)

-- the cell of the ocean of each outlet
outlet_seas : (grid : Grid) → IsGrid grid → AreCells (tiles_of grid.ocean) (map (λ (outlet : Outlet). outlet.ocean) grid.xgrid.outlets)
outlet_seas grid is =
    let outlets = grid.xgrid.outlets in
    let land_rows = grid.xgrid.land_rows in
    let ocean_rows = grid.xgrid.ocean_rows in
    let last = first_fault (no_outlet_fault grid.land outlets) 0 grid.land.area in
    let ways = first_fault (outlet_fault grid.land grid.ocean) 0 outlets in
    let five = or_else ways last in
    let four = or_else (ocean_fault grid.ocean ocean_rows) five in
    let three = or_else (land_fault grid.land land_rows) four in
    let two = or_else (air_fault grid.air land_rows ocean_rows) three in
    let one = or_else (first_fault (row_fault surface.Ocean (tiles_of grid.air) (tiles_of grid.ocean)) 0 ocean_rows) two in
    let none = first_none ways last
    (rest_none (ocean_fault grid.ocean ocean_rows) five
    (rest_none (land_fault grid.land land_rows) four
    (rest_none (air_fault grid.air land_rows ocean_rows) three
    (rest_none (first_fault (row_fault surface.Ocean (tiles_of grid.air) (tiles_of grid.ocean)) 0 ocean_rows) two
    (rest_none (first_fault (row_fault surface.Land (tiles_of grid.air) (tiles_of grid.land)) 0 land_rows) one is.rules))))) in
    All-map (IsCellOf (tiles_of grid.ocean)) (λ (outlet : Outlet). outlet.ocean) outlets (λ k d h.
    let whole = kept _ _ (none_faulty (outlet_fault grid.land grid.ocean) 0 outlets none k d h) in
    cell_is (tiles_of grid.ocean) (get_or outlets k d).ocean (and_parts _ _ (and_parts _ _ (and_parts _ _ whole).0).0).1)

pub way_pairs : (grid : Grid) → IsGrid grid → ArePairs (tiles_of grid.land) (tiles_of grid.ocean) (map outlet_pair grid.xgrid.outlets)
way_pairs grid is =
    let cells = has_cells grid is in
    pairs_from (tiles_of grid.land) (tiles_of grid.ocean) land_cell (λ (outlet : Outlet). outlet.ocean) grid.xgrid.outlets cells.outlets (outlet_seas grid is)

-- each cell of a mosaic
cells_all : (tiles : List Tile) → AreTiles tiles → AreCells tiles (map (cell_of tiles) (range_with_len 0 (cells_of tiles)))
cells_all tiles are = All-map (IsCellOf tiles) (cell_of tiles) (range_with_len 0 (cells_of tiles)) (λ k d h.
    let long = length-range_with_len 0 (cells_of tiles) in
    let below : k < cells_of tiles = omega arith in
    let at : k ≡ get_or (range_with_len 0 (cells_of tiles)) k d = let is = get_or-range_with_len 0 (cells_of tiles) k d below in omega arith in
    subst (λ (n : ℕ). IsCellOf tiles (cell_of tiles n)) at ((numbers_agree tiles are).is_cell k below))

pub cell_pairs_are : (tiles : List Tile) → AreTiles tiles → ArePairs tiles tiles (map same_pair (map (cell_of tiles) (range_with_len 0 (cells_of tiles))))
cell_pairs_are tiles are =
    let cells = map (cell_of tiles) (range_with_len 0 (cells_of tiles)) in
    All-map (λ (pair : Pair). IsCellOf tiles pair.0 × IsCellOf tiles pair.1) same_pair cells (λ k d h. let is = cells_all tiles are k d h in (is, is))

-- THE GROUP OF TWO PIECES

module _ (setting : Setting) (is : IsSetting setting) (grid : IsGrid setting.grid) where
  below : (component : Component) (piece : ℕ) → IsOf setting 0 (Some component) piece → piece - base_of setting component < 64
  below component piece of = let few = pieces_some setting is component in omega (arith, few.1, of.0, of.1)

  back : (component : Component) (piece : ℕ) → IsOf setting 0 (Some component) piece → base_of setting component + (piece - base_of setting component) ≡ piece
  back component piece of = omega (arith, of.0)

  between_pieces : {T : Type 0} (one other : Component) (pair : T → Pair) (items : List T) (first second : ℕ) → ArePairs (layout_of setting one).tiles (layout_of setting other).tiles (map pair items)
      → IsOf setting 0 (Some one) first → IsOf setting 0 (Some other) second
      → get_or (by_pieces (layout_of setting one) (layout_of setting other) (map pair items)) (pair_number (first - base_of setting one) (second - base_of setting other)) []
      ≡ numbers_from (λ item. is_between setting (first, one, (pair item).0) (second, other, (pair item).1)) 0 items
  between_pieces one other pair items first second are a b =
      between setting one other pair items (first - base_of setting one) (second - base_of setting other) (is.layouts one) (is.layouts other) (below one first a) (below other second b) are
      ∙ (λ t. numbers_from (λ item. is_between setting (back one first a t, one, (pair item).0) (back other second b t, other, (pair item).1)) 0 items)

  pub land_rows_are : (air land : ℕ) → IsOf setting 0 (Some Atmos) air → IsOf setting 0 (Some Land) land
      → get_or (rows_by_pieces setting surface.Land) (pair_number (air - base_of setting Atmos) (land - base_of setting Land)) [] ≡ land_rows_between setting air land
  unfolding land_rows_between
  land_rows_are air land a b = between_pieces Atmos Land row_pair setting.grid.xgrid.land_rows air land (land_pairs setting.grid grid) a b

  pub ice_rows_are : (air ice : ℕ) → IsOf setting 0 (Some Atmos) air → IsOf setting 0 (Some Ice) ice
      → get_or (rows_by_pieces setting surface.Ocean) (pair_number (air - base_of setting Atmos) (ice - base_of setting Ice)) [] ≡ ice_rows_between setting air ice
  unfolding ice_rows_between
  ice_rows_are air ice a b = between_pieces Atmos Ice row_pair setting.grid.xgrid.ocean_rows air ice (sea_pairs setting.grid grid) a b

  pub outlets_are : (land ice : ℕ) → IsOf setting 0 (Some Land) land → IsOf setting 0 (Some Ice) ice
      → get_or (outlets_by_pieces setting) (pair_number (land - base_of setting Land) (ice - base_of setting Ice)) [] ≡ outlets_between setting land ice
  unfolding outlets_between
  outlets_are land ice a b = between_pieces Land Ice outlet_pair setting.grid.xgrid.outlets land ice (way_pairs setting.grid grid) a b

  pub cells_are : (ice ocean : ℕ) → IsOf setting 0 (Some Ice) ice → IsOf setting 0 (Some Ocean) ocean
      → get_or (cells_by_pieces setting) (pair_number (ice - base_of setting Ice) (ocean - base_of setting Ocean)) [] ≡ cells_between setting ice ocean
  unfolding cells_between
  cells_are ice ocean a b = between_pieces Ice Ocean same_pair (sea_cells setting) ice ocean (cell_pairs_are (tiles_of setting.grid.ocean) (is.layouts Ocean).sizes) a b

-- the groups of equal layouts and pairs
pub same_groups : (a b c d : Cuts) (xs ys : List Pair) → a ≡ c → b ≡ d → xs ≡ ys → by_pieces a b xs ≡ by_pieces c d ys
same_groups a b c d xs ys one other pairs = λ t. by_pieces (one t) (other t) (pairs t)

pub same_pairs : (a b c d : Cuts) (xs ys : List Pair) → a ≡ c → b ≡ d → xs ≡ ys → ArePairs c.tiles d.tiles ys → ArePairs a.tiles b.tiles xs
same_pairs a b c d xs ys one other pairs are =
    subst (λ (l : List Pair). ArePairs a.tiles b.tiles l) (sym pairs)
    (subst (λ (l : Cuts). ArePairs l.tiles b.tiles ys) (sym one) (subst (λ (l : Cuts). ArePairs c.tiles l.tiles ys) (sym other) are))
