-- Items of a piece, grouped by its cells.
use Rattle.std.proofs.Common.{◌≡◌, ◌∙◌, refl, sym, ap, subst, ℕ, suc, ◌-◌, ◌*◌, ◌<◌, ◌≤◌, ◌&&◌, arith, Bool, true, false, List, [], ◌∷◌, length, get_or, map, eqb}
use Rattle.std.specs.Prelude.{All}
use Rattle.std.proofs.lemmas.Bool.{eq-eqb, eqb-true, and_from, and_parts}
use Rattle.std.proofs.lemmas.Simd.{map-map}
use Rattle.std.proofs.lemmas.List.{get_or-map, length-map, get_or_default}
use Rattle.std.proofs.lemmas.List.Elements.{All-map}
use Rattle.std.proofs.lemmas.List.FromFn.{length-map-range_with_len}
use Rattle.cpl_mosaic.specs.declared.parts.CellId.{CellId}
use Rattle.cpl_mosaic.specs.Sides.{IsCellOf, is_same_cell}
use Rattle.cpl_mosaic.specs.Cells.{cell_of, number_of}
use Rattle.cpl_mosaic.proofs.Numbers.{numbers_agree as cell_numbers_agree}
use Rattle.cpl_layout.specs.Layouts.{Cuts, IsLayout}
use Rattle.cpl_layout.specs.Pieces.{pieces_of, piece_of, owner_of}
use Rattle.cpl_layout.specs.Own.{own_cells, own_place, place_number, IsOwnAt}
use Rattle.cpl_layout.proofs.OwnCells.{own_count, own_cells_agree}
use Rattle.cpl_xgrid.specs.Groups.{by_key, places_of}
use Rattle.cpl_xgrid.proofs.CellNumbers.{same_cell, own_cell}
use Rattle.cpl_xgrid.proofs.CellRefs.{numbers_map}
use Rattle.cpl_fixed.specs.declared.limits.TheConstants.{MOST_EXCHANGE_CELLS}
use Rattle.cpl_xgrid.specs.declared.grid.Grid.{Grid}
use Rattle.cpl_xgrid.specs.Grids.{IsGrid}
use Rattle.cpl_wires.specs.declared.parts.Purpose.{Purpose}
use Rattle.cpl_wires.specs.declared.parts.Purpose.TheVariants.{AirHalo, LandToAir, IceToAir, AirToLand, AirToIce, LandToIce, IceToOcean, OceanToIce, OceanHalo, Sums}
use Rattle.cpl_wires.specs.Tables.{row_pair, outlet_pair}
use Rattle.cpl_wires.proofs.Numbers.{numbers_few}
use Rattle.cpl_wires.specs.Settings.{Setting, IsSetting, layout_of, base_of, component_of, cells_of_piece}
use Rattle.cpl_wires.proofs.Grouped.{group_is}
use Rattle.cpl_rows.specs.declared.place.RowPlace.{RowPlace}
use Rattle.cpl_rows.specs.declared.ends.End.TheVariants.{To}
use Rattle.cpl_rows.specs.Rows.{AreRowPlaces, IsPlaceIn, TakesRows, item_at, items_taken, items_of_cell, own_of, own_at}
use Rattle.cpl_rows.specs.Found.{AreAt}
use Rattle.cpl_rows.specs.Ends.{ends_of, end_of, cells_by, cell_by, no_cell, own_items, place_by, row_back}
use Rattle.cpl_rows.proofs.Listed.{passes_at, picked, both, numbers_agree}
use Rattle.cpl_rows.proofs.Ended.{cells_count}
use Rattle.cpl_rows.proofs.Linked.{IsTaker, tiles_at}
use Rattle.cpl_rows.proofs.Owned.{number_below, cells_inside, owned}

-- LISTS

same_map : (f g : ℕ → ℕ) (xs : List ℕ) → All (λ x. f x ≡ g x) xs → map f xs ≡ map g xs
same_map f g [] each = refl
same_map f g (x ∷ xs) each =
    let first : f x ≡ g x = each 0 x (omega arith) in
    let rest = same_map f g xs (λ k d l. each (suc k) d (omega arith)) in λ t. first t ∷ rest t

same_tests : (a b : Bool) → (a ≡ true → b ≡ true) → (b ≡ true → a ≡ true) → a ≡ b
same_tests true true f g = refl
same_tests true false f g = sym (f refl)
same_tests false true f g = g refl
same_tests false false f g = refl

-- CELLS

-- a cell of a piece stands in it
pub stands_own : (layout : Cuts) (p : ℕ) (cell : CellId) → IsLayout layout → IsCellOf layout.tiles cell → owner_of layout cell ≡ p
    → IsOwnAt layout p (place_number (piece_of layout p) cell) (number_of layout.tiles cell)
stands_own layout p cell is inside owner =
    let numbers = cell_numbers_agree layout.tiles is.sizes in
    let n = number_of layout.tiles cell in
    let it = (own_cells_agree layout is).each n (numbers.below cell inside) in
    let here : IsOwnAt layout (owner_of layout cell) (own_place layout cell) n = subst (λ (c : CellId). IsOwnAt layout (owner_of layout c) (own_place layout c) n) (numbers.cell_number cell inside) it in
    subst (λ (o : ℕ). IsOwnAt layout o (place_number (piece_of layout o) cell) n) owner here

-- it stands at a place exactly if it is the cell there
place_test : (layout : Cuts) (p q : ℕ) (cell : CellId) → IsLayout layout → p < pieces_of layout → q < length (own_cells layout p) → IsCellOf layout.tiles cell
    → (eqb (owner_of layout cell) p && eqb (place_number (piece_of layout p) cell) q) ≡ is_same_cell cell (cell_of layout.tiles (get_or (own_cells layout p) q 0))
place_test layout p q cell is known within inside =
    let numbers = cell_numbers_agree layout.tiles is.sizes in
    let n = get_or (own_cells layout p) q 0 in
    let only = (own_cells_agree layout is).only p q n (record { piece = known; within = within; is = refl }) in
    same_tests _ _
    (λ both.
    let parts = and_parts _ _ both in
    let owner = eqb-true _ _ parts.0 in
    let place = eqb-true _ _ parts.1 in
    let it = stands_own layout p cell is inside owner in
    let number : number_of layout.tiles cell ≡ n = sym it.is ∙ ap (λ (k : ℕ). get_or (own_cells layout p) k 0) place in
    let back : cell ≡ cell_of layout.tiles n = sym (numbers.cell_number cell inside) ∙ ap (cell_of layout.tiles) number in
    ap (is_same_cell cell) (sym back) ∙ own_cell cell)
    (λ same.
    let cell_is = same_cell cell (cell_of layout.tiles n) same in
    let owner : owner_of layout cell ≡ p = ap (owner_of layout) cell_is ∙ sym only.1 in
    let place : place_number (piece_of layout p) cell ≡ q =
    (λ t. place_number (piece_of layout (only.1 t)) (cell_is t)) ∙ sym only.2 in
    and_from _ _ (eq-eqb _ _ owner) (eq-eqb _ _ place))

-- there are no more than exchange cells
ends_few : (grid : Grid) → IsGrid grid → (purpose : Purpose) → TakesRows purpose → length (ends_of grid purpose) ≤ MOST_EXCHANGE_CELLS
ends_few grid is LandToAir rows = let long = length-map grid.xgrid.land_rows row_back in let few = is.rows.few in omega arith
ends_few grid is IceToAir rows = let long = length-map grid.xgrid.ocean_rows row_back in let few = is.rows.few in omega arith
ends_few grid is AirToLand rows = let long = length-map grid.xgrid.land_rows row_pair in let few = is.rows.few in omega arith
ends_few grid is AirToIce rows = let long = length-map grid.xgrid.ocean_rows row_pair in let few = is.rows.few in omega arith
ends_few grid is LandToIce rows = let long = length-map grid.xgrid.outlets outlet_pair in let few = is.outlets.few in omega arith
ends_few grid is AirHalo rows = elim rows [ ]
ends_few grid is IceToOcean rows = elim rows [ ]
ends_few grid is OceanToIce rows = elim rows [ ]
ends_few grid is OceanHalo rows = elim rows [ ]
ends_few grid is Sums rows = elim rows [ ]

pub items_few : (setting : Setting) → IsGrid setting.grid → (purpose : Purpose) (piece : ℕ) → TakesRows purpose → length (own_items setting piece purpose) ≤ MOST_EXCHANGE_CELLS
items_few setting is purpose piece rows =
    let component = component_of setting piece in
    let few = numbers_few (λ (cell : CellId). eqb (owner_of (layout_of setting component) cell) (piece - base_of setting component)) 0 (cells_by setting.grid purpose To) in
    let long = cells_count setting.grid purpose To in
    let most = ends_few setting.grid is purpose rows in omega arith

module _ (setting : Setting) (is : IsSetting setting) (purpose : Purpose) (piece : ℕ) (taker : IsTaker setting purpose piece) where
  abbrev layout : Cuts
  layout = layout_of setting (component_of setting piece)

  abbrev number : ℕ
  number = piece - base_of setting (component_of setting piece)

  abbrev pub own_count_of : ℕ
  own_count_of = (cells_of_piece setting piece).nx * (cells_of_piece setting piece).ny

  abbrev pub own_keys : List ℕ
  own_keys = map (place_by setting.grid purpose To (cells_of_piece setting piece)) (own_items setting piece purpose)

  pub count_is : length (own_of setting piece) ≡ own_count_of
  count_is = own_count layout number

  pub keys_long : length own_keys ≡ length (own_items setting piece purpose)
  keys_long = length-map (own_items setting piece purpose) (place_by setting.grid purpose To (cells_of_piece setting piece))

  -- each key is the place of a cell
  pub keys_below : All (λ key. key < own_count_of) own_keys
  keys_below = All-map (λ key. key < own_count_of) (place_by setting.grid purpose To (cells_of_piece setting piece)) (own_items setting piece purpose) (λ k d l.
      let own = owned setting is purpose piece taker k d l in
      let item = get_or (own_items setting piece purpose) k d in
      let within = own.within in
      let long = cells_count setting.grid purpose To in
      let inside = cells_inside setting is purpose piece taker item no_cell (omega arith) in
      let it = stands_own layout number (cell_by setting.grid purpose To item) (is.layouts (component_of setting piece)) inside own.owner in
      let count = count_is in
      let below = it.within in omega arith)

  -- a group has the items of its cell
  pub group_items : (q : ℕ) → q < length (own_of setting piece)
      → map (λ m. get_or (own_items setting piece purpose) m 0) (get_or (by_key own_count_of own_keys) q []) ≡ items_of_cell setting.grid purpose (own_at setting piece q)
  group_items q l =
      let items = own_items setting piece purpose in
      let cells = cells_by setting.grid purpose To in
      let place = place_by setting.grid purpose To (cells_of_piece setting piece) in
      let test = λ (cell : CellId). eqb (owner_of layout cell) number in
      let at = λ (cell : CellId). eqb (place_number (piece_of layout number) cell) q in
      let count = count_is in
      let own = cell_of (tiles_at setting (component_of setting piece)) (own_at setting piece q) in
      ap (map (λ m. get_or items m 0)) (group_is own_count_of own_keys q (omega arith) ∙ numbers_map (λ key. eqb key q) place 0 items)
      ∙ picked (λ item. eqb (place item) q) items 0
      ∙ both test at cells no_cell
      ∙ numbers_agree (λ cell. test cell && at cell) (λ cell. is_same_cell cell own) 0 cells
      (λ k d h. place_test layout number q (get_or cells k d) (is.layouts (component_of setting piece)) (number_below setting piece taker.of) l (cells_inside setting is purpose piece taker k d h))
      ∙ numbers_map (λ cell. is_same_cell cell own) (end_of To) 0 (ends_of setting.grid purpose)
      ∙ taker.items (own_at setting piece q)

  -- each number in a group is below the count of items
  group_below : (q : ℕ) → q < length (own_of setting piece) → All (λ m. m < length (own_items setting piece purpose)) (get_or (by_key own_count_of own_keys) q [])
  group_below q l k d h =
      let count = count_is in
      let group = group_is own_count_of own_keys q (omega arith) in
      let long = keys_long in
      let size = ap (λ (xs : List ℕ). length xs) group in
      let it = passes_at (λ key. eqb key q) own_keys 0 k (omega arith) in
      let same = get_or_default (get_or (by_key own_count_of own_keys) q []) k d 0 h ∙ ap (λ (xs : List ℕ). get_or xs k 0) group in
      omega (arith, it.0)

  module _ (places : List RowPlace) (other : RowPlace) (at : AreAt (items_taken setting piece purpose) (own_items setting piece purpose) places) where
    abbrev pub row_lists : List (List RowPlace)
    row_lists = map (map (λ n. get_or places n other)) (by_key own_count_of own_keys)

    groups_long : length (by_key own_count_of own_keys) ≡ own_count_of
    groups_long = length-map-range_with_len (λ key. places_of key own_keys) 0 own_count_of

    rows_long : length row_lists ≡ length (own_of setting piece)
    rows_long = length-map (by_key own_count_of own_keys) (map (λ n. get_or places n other)) ∙ groups_long ∙ sym count_is

    row_is : (q : ℕ) → q < length row_lists → get_or row_lists q [] ≡ map (λ n. get_or places n other) (get_or (by_key own_count_of own_keys) q [])
    row_is q l =
        let long = length-map (by_key own_count_of own_keys) (map (λ n. get_or places n other)) in
        get_or-map (map (λ n. get_or places n other)) (by_key own_count_of own_keys) q [] [] (omega arith)

    pub row_places_are : AreRowPlaces setting piece purpose row_lists
    row_places_are = record {
      size = rows_long;
      places = λ q t it l h.
          let long = rows_long in
          let group = get_or (by_key own_count_of own_keys) q [] in
          let row = row_is q l in
          let size = ap (λ (xs : List RowPlace). length xs) row in
          let same = length-map group (λ n. get_or places n other) in
          let below = group_below q (omega arith) t 0 (omega arith) in
          let found = (at.each (get_or group t 0) other below).place in
          let read : get_or places (get_or group t 0) other ≡ get_or (get_or row_lists q []) t it =
          sym (get_or-map (λ n. get_or places n other) group t 0 it (omega arith)) ∙ ap (λ (xs : List RowPlace). get_or xs t it) (sym row) in
          subst (IsPlaceIn (items_taken setting piece purpose)) read found;
      items = λ q l.
          let long = rows_long in
          let group = get_or (by_key own_count_of own_keys) q [] in
          ap (map (item_at (items_taken setting piece purpose))) (row_is q l)
          ∙ map-map (item_at (items_taken setting piece purpose)) (λ n. get_or places n other) group
          ∙ same_map (λ n. item_at (items_taken setting piece purpose) (get_or places n other)) (λ m. get_or (own_items setting piece purpose) m 0) group
          (λ k d h. (at.each (get_or group k d) other (group_below q (omega arith) k d h)).is)
          ∙ group_items q (omega arith);
    }
