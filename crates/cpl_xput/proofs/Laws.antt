-- Places lie in their pieces, and weights of outlets can be divided over.
use Rattle.std.proofs.Common.{◌≡◌, ◌≢◌, refl, sym, ◌∙◌, subst, Bool, true, false, ◌||◌, cond, eqb, ℕ, ◌-◌, ◌*◌, ◌<◌, ◌≤◌, arith, List, [], ◌∷◌, ◌++◌, map, length, get_or}
use Rattle.std.specs.Prelude.{All, ℤ, pos, ◌≤ℤ◌}
use Rattle.std.specs.List.{filter, list_any}
use Rattle.std.proofs.lemmas.Bool.{eqb-true}
use Rattle.std.proofs.lemmas.Int.{ints}
use Rattle.std.proofs.lemmas.Nat.{mul-add-lt}
use Rattle.std.proofs.lemmas.List.{length-map}
use Rattle.std.proofs.lemmas.List.Elements.{All-map, All-tail, All-filter, filter_passes}
use Rattle.std.proofs.lemmas.List.FromFn.{length-map-range_with_len, get_or-map-range_with_len}
use Rattle.std.proofs.lemmas.List.Sums.{length-filter, count_by-le-length}
use Rattle.cpl_fixed.specs.Ranges.{IsFromℤ}
use Rattle.cpl_fixed.specs.Totals.{total_of}
use Rattle.cpl_fixed.specs.declared.limits.TheConstants.{MOST_WEIGHT, MOST_OUTLETS}
use Rattle.cpl_mosaic.specs.declared.parts.CellId.{CellId}
use Rattle.cpl_mosaic.specs.declared.parts.Tile.{Tile}
use Rattle.cpl_mosaic.specs.Sides.{IsCellOf, is_same_cell}
use Rattle.cpl_mosaic.specs.Contacts.{cells_of}
use Rattle.cpl_mosaic.specs.Cells.{cell_of}
use Rattle.cpl_layout.specs.declared.piece.Piece.{Piece}
use Rattle.cpl_layout.specs.Layouts.{Cuts}
use Rattle.cpl_layout.specs.Pieces.{pieces_of, piece_of, owner_of}
use Rattle.cpl_layout.specs.Owners.{Holds, OwnersAgree}
use Rattle.cpl_xgrid.specs.declared.grid.Grid.{Grid}
use Rattle.cpl_xgrid.specs.declared.parts.Outlet.{Outlet}
use Rattle.cpl_xgrid.specs.Grids.{IsGrid}
use Rattle.cpl_xgrid.specs.Rows.{air_cell, other_cell, land_cell}
use Rattle.cpl_xgrid.specs.Rules.{tiles_of}
use Rattle.cpl_xgrid.specs.Indexes.{AreCells}
use Rattle.cpl_xgrid.proofs.Building.{has_cells, outlet_weights, has_outlet}
use Rattle.cpl_xgrid.proofs.CellNumbers.{for_cells_count, for_cells_read}
use Rattle.cpl_xput.specs.Places.{place_in, place_of, places_in, for_pieces}
use Rattle.cpl_xput.specs.Sums.{ArePlaces}
use Rattle.cpl_xput.specs.Exchanges.{AreLayouts, weight, weights_of, elements_of, exchange_of}
use Rattle.cpl_xput.specs.Laws.{size_of, LieInPieces, CanDrain, IsExchange}

-- PLACES

-- a cell that a piece holds has its place there
held : (piece : Piece) (cell : CellId) → Holds piece cell → place_in piece cell < size_of piece
held piece cell holds =
    let west = holds.west in
    let east = holds.east in
    let south = holds.south in
    let north = holds.north in
    let place = mul-add-lt (cell.j - piece.j0) piece.nx (cell.i - piece.i0) piece.ny (omega arith) (omega arith) in
    place

-- the places of the cells of a piece lie in it
lie_in : (layout : Cuts) (cells : List CellId) (p : ℕ) → OwnersAgree layout → AreCells layout.tiles cells → ArePlaces (size_of (piece_of layout p)) (places_in layout cells p)
lie_in layout cells p agree are =
    let mine = λ (cell : CellId). eqb (owner_of layout cell) p in
    All-map (λ place. place < size_of (piece_of layout p)) (place_of layout) (filter mine cells) (λ k d h.
    let cell = get_or (filter mine cells) k d in
    let is = All-filter mine (IsCellOf layout.tiles) cells are k d h in
    let same : owner_of layout cell ≡ p = eqb-true _ _ (filter_passes mine cells k d h) in
    subst (λ (q : ℕ). place_in (piece_of layout (owner_of layout cell)) cell < size_of (piece_of layout q)) same (held _ cell (agree.holds cell is)))

pub lie_in_pieces : (layout : Cuts) (cells : List CellId) → OwnersAgree layout → AreCells layout.tiles cells → LieInPieces layout (for_pieces layout cells)
lie_in_pieces layout cells agree are = record {
  count = length-map-range_with_len (places_in layout cells) 0 (pieces_of layout);
  each = λ p within.
      subst (ArePlaces (size_of (piece_of layout p))) (sym (get_or-map-range_with_len (places_in layout cells) 0 (pieces_of layout) p p [] within (omega arith))) (lie_in layout cells p agree are);
}

-- WEIGHTS

-- weights sum to as many as they are, and to no more than as many of the greatest
record IsWeight (count : ℕ) (sum : ℤ) : Type 0 where
  least : pos count ≤ℤ sum
  most : sum ≤ℤ pos (MOST_WEIGHT * count)

total_weights : (xs : List ℤ) → All (IsFromℤ 1 MOST_WEIGHT) xs → IsWeight (length xs) (total_of xs)
total_weights [] are = record { least = omega (arith, ints); most = omega (arith, ints) }
total_weights (x ∷ xs) are =
    let first = are 0 x (omega arith) in
    let rest = total_weights xs (All-tail (IsFromℤ 1 MOST_WEIGHT) x xs are) in
    record { least = omega (arith, ints, first.0, rest.least); most = omega (arith, ints, first.1, rest.most) }

-- a list that isn't empty has an item
some_item : {T : Type 0} (xs : List T) → xs ≢ [] → 1 ≤ length xs
some_item [] some = absurd (some refl)
some_item (x ∷ xs) some = omega arith

can_drain : (outlets : List Outlet) (cell : CellId) → length outlets ≤ MOST_OUTLETS → All (λ (outlet : Outlet). IsFromℤ 1 MOST_WEIGHT outlet.weight) outlets
    → weights_of outlets cell ≢ [] → CanDrain (weights_of outlets cell)
can_drain outlets cell few weights some =
    let mine = λ (outlet : Outlet). is_same_cell (land_cell outlet) cell in
    let each : All (IsFromℤ 1 MOST_WEIGHT) (weights_of outlets cell) =
    All-map (IsFromℤ 1 MOST_WEIGHT) weight (filter mine outlets) (All-filter mine (λ (outlet : Outlet). IsFromℤ 1 MOST_WEIGHT outlet.weight) outlets weights) in
    let sum = total_weights (weights_of outlets cell) each in
    let many = some_item (weights_of outlets cell) some in
    let count : length (weights_of outlets cell) ≤ MOST_OUTLETS =
    let long = length-map (filter mine outlets) weight in
    let kept = length-filter mine outlets in
    let fewer = count_by-le-length mine outlets in
    omega arith in
    record {
      each = λ k d h. let range = each k d h in omega (arith, ints, range.0);
      some = omega (arith, ints, sum.least, many);
      most = omega (arith, ints, sum.most, count);
    }

-- an item that passes a test is among those that pass
passing : {S T : Type 0} (f : S → T) (b any : Bool) (item : S) (items : List S) → (any ≡ true → map f items ≢ []) → (b || any) ≡ true → map f (cond b (item ∷ items) items) ≢ []
passing f true any item items rest e none = absurd (cc)
passing f false any item items rest e none = rest e none

some_pass : {S T : Type 0} (passes : S → Bool) (f : S → T) (items : List S) → list_any passes items ≡ true → map f (filter passes items) ≢ []
some_pass passes f [] any = absurd (cc)
some_pass passes f (item ∷ items) any =
    passing f (passes item) (list_any passes items) item (filter passes items) (some_pass passes f items) any

-- THE LAW

pub is_exchange : (grid : Grid) (air land ocean : Cuts) → IsGrid grid → AreLayouts grid air land ocean → OwnersAgree air → OwnersAgree land → OwnersAgree ocean
    → IsExchange grid air land ocean (exchange_of grid air land ocean)
is_exchange grid air land ocean is are air_agree land_agree ocean_agree =
    let cells = has_cells grid is in
    let tiles = tiles_of grid.land in
    let weights = weights_of grid.xgrid.outlets in
    let read = λ (n : ℕ) (h : n < cells_of tiles). for_cells_read tiles weights n [] h in
    record {
      of_air = lie_in_pieces air (map air_cell grid.xgrid.land_rows ++ map air_cell grid.xgrid.ocean_rows) air_agree (subst (λ (t : List Tile). AreCells t (map air_cell grid.xgrid.land_rows ++ map air_cell grid.xgrid.ocean_rows)) (sym are.of_air) cells.air);
      of_land = lie_in_pieces land (map other_cell grid.xgrid.land_rows) land_agree (subst (λ (t : List Tile). AreCells t (map other_cell grid.xgrid.land_rows)) (sym are.of_land) cells.land);
      of_ocean = lie_in_pieces ocean (map other_cell grid.xgrid.ocean_rows) ocean_agree (subst (λ (t : List Tile). AreCells t (map other_cell grid.xgrid.ocean_rows)) (sym are.of_ocean) cells.ocean);
      elements = for_cells_count (tiles_of grid.air) (elements_of grid);
      weights = for_cells_count tiles weights;
      drains = λ n h some.
          subst CanDrain (sym (read n h))
          (can_drain grid.xgrid.outlets (cell_of tiles n) is.outlets.few (outlet_weights grid is) (λ none. some (read n h ∙ none)));
      outlets = λ n h some none.
          let count = is.land.count in
          some_pass (λ (outlet : Outlet). is_same_cell (land_cell outlet) (cell_of tiles n)) weight grid.xgrid.outlets (has_outlet grid is n (omega arith) some) (sym (read n h) ∙ none);
    }
