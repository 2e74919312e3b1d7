-- The items of a table by the numbers that a test finds.
use Rattle.std.proofs.Common.{◌≡◌, refl, sym, ◌∙◌, ap, Bool, cond, eqb, ℕ, ◌+◌, ◌<◌, arith, List, [], ◌∷◌, ◌++◌, map, length, get_or}
use Rattle.std.specs.Prelude.{pos}
use Rattle.std.specs.List.{filter, range_with_len}
use Rattle.std.proofs.lemmas.Simd.{map-map}
use Rattle.std.proofs.lemmas.List.{append_assoc, get_or_at, length_push, map-append, length-map}
use Rattle.std.proofs.lemmas.List.Elements.{All-map}
use Rattle.cpl_mosaic.specs.declared.parts.CellId.{CellId}
use Rattle.cpl_mosaic.specs.declared.parts.Tile.{Tile}
use Rattle.cpl_mosaic.specs.Sides.{is_same_cell}
use Rattle.cpl_layout.specs.Layouts.{Cuts}
use Rattle.cpl_layout.specs.Pieces.{pieces_of, owner_of}
use Rattle.cpl_layout.specs.Owners.{OwnersAgree}
use Rattle.cpl_xgrid.specs.declared.parts.Outlet.{Outlet}
use Rattle.cpl_xgrid.specs.Groups.{AreKeys, numbers_from, places_of, by_key}
use Rattle.cpl_xgrid.specs.Rows.{land_cell}
use Rattle.cpl_xgrid.specs.Indexes.{AreCells, for_cells, by_cell}
use Rattle.cpl_xgrid.proofs.Offsets.{same_range}
use Rattle.cpl_xgrid.proofs.CellNumbers.{for_cells_same, for_cells_map}
use Rattle.cpl_xgrid.proofs.CellRefs.{map_cond, numbers_map}
use Rattle.cpl_xput.specs.Places.{place_of, places_in, for_pieces}
use Rattle.cpl_xput.specs.Exchanges.{weight, weights_of}

-- what a table of all items has at the numbers of those that pass
picked : {S T : Type 0} (passes : S → Bool) (f : S → T) (d : T) (front items : List S) (n : ℕ) → length front ≡ n
    → map (λ m. get_or (map f (front ++ items)) m d) (numbers_from passes n items) ≡ map f (filter passes items)
picked passes f d front [] n e = refl
picked passes f d front (item ∷ items) n e =
    let at = λ (m : ℕ). get_or (map f (front ++ (item ∷ items))) m d in
    let longer : length (front ++ item ∷ []) ≡ n + 1 = let h = length_push front item in omega arith in
    let whole : (front ++ item ∷ []) ++ items ≡ front ++ (item ∷ items) = append_assoc front (item ∷ []) items in
    let rest : map at (numbers_from passes (n + 1) items) ≡ map f (filter passes items) =
    ap (λ (l : List _). map (λ m. get_or (map f l) m d) (numbers_from passes (n + 1) items)) (sym whole) ∙ picked passes f d (front ++ item ∷ []) items (n + 1) longer in
    let own : at n ≡ f item = ap (λ (l : List _). get_or l n d) (map-append f front (item ∷ items)) ∙ get_or_at (map f front) (f item) (map f items) d n (length-map front f ∙ e) in
    map_cond at (passes item) n (numbers_from passes (n + 1) items)
    ∙ ap (λ (x : _). cond (passes item) (x ∷ map at (numbers_from passes (n + 1) items)) (map at (numbers_from passes (n + 1) items))) own
    ∙ ap (λ (l : List _). cond (passes item) (f item ∷ l) l) rest
    ∙ sym (map_cond f (passes item) item (filter passes items))

-- the places of the cells of each piece
pub pieces_are : (layout : Cuts) (cells : List CellId)
    → map (map (λ n. get_or (map (place_of layout) cells) n 0)) (by_key (pieces_of layout) (map (owner_of layout) cells)) ≡ for_pieces layout cells
pieces_are layout cells =
    let pick = λ (n : ℕ). get_or (map (place_of layout) cells) n 0 in
    map-map (map pick) (λ key. places_of key (map (owner_of layout) cells)) (range_with_len 0 (pieces_of layout))
    ∙ same_range (λ key. map pick (places_of key (map (owner_of layout) cells))) (places_in layout cells) (pieces_of layout) (λ key h.
    ap (map pick) (numbers_map (λ k. eqb k key) (owner_of layout) 0 cells) ∙ picked (λ (cell : CellId). eqb (owner_of layout cell) key) (place_of layout) 0 [] cells 0 refl)

pub owners_are : (layout : Cuts) (cells : List CellId) → OwnersAgree layout → AreCells layout.tiles cells → AreKeys (pieces_of layout) (map (owner_of layout) cells)
owners_are layout cells agree are = All-map (λ key. key < pieces_of layout) (owner_of layout) cells (λ k d h. agree.below _ (are k d h))

-- the weights of the outlets of each cell of the land
pub weights_are : (tiles : List Tile) (outlets : List Outlet)
    → map (map (λ n. get_or (map weight outlets) n (pos 0))) (by_cell tiles (map land_cell outlets)) ≡ for_cells tiles (weights_of outlets)
weights_are tiles outlets =
    let pick = λ (n : ℕ). get_or (map weight outlets) n (pos 0) in
    for_cells_map tiles (λ cell. numbers_from (λ c. is_same_cell c cell) 0 (map land_cell outlets)) (map pick)
    ∙ for_cells_same tiles _ (weights_of outlets) (λ cell.
    ap (map pick) (numbers_map (λ c. is_same_cell c cell) land_cell 0 outlets)
    ∙ picked (λ (outlet : Outlet). is_same_cell (land_cell outlet) cell) weight (pos 0) [] outlets 0 refl)
