-- Each item is counted once by the groups of its keys, and so each exchange cell by the cells.
use Rattle.std.proofs.Common.{◌≡◌, ◌∙◌, refl, sym, ap, cond, eqb, ℕ, ◌+◌, ◌<◌, arith, List, [], ◌∷◌, map, length}
use Rattle.std.specs.Prelude.{ℤ, pos, ◌+ℤ◌}
use Rattle.std.specs.List.{range_with_len}
use Rattle.std.proofs.lemmas.Simd.{map-map}
use Rattle.std.proofs.lemmas.List.{map-append, length-map}
use Rattle.std.proofs.lemmas.List.Elements.{All-tail}
use Rattle.cpl_mosaic.specs.declared.parts.Tile.{Tile}
use Rattle.cpl_mosaic.specs.declared.parts.CellId.{CellId}
use Rattle.cpl_mosaic.specs.Sides.{is_same_cell}
use Rattle.cpl_mosaic.specs.Contacts.{cells_of}
use Rattle.cpl_mosaic.specs.Cells.{number_of, cell_of, NumbersAgree}
use Rattle.cpl_state.specs.Diffusion.{total_of}
use Rattle.cpl_diffusion.proofs.Sums.{sum_to, sum_to-same, sum_to-add, sum_to-none}
use Rattle.cpl_xgrid.specs.declared.grid.Grid.{Grid}
use Rattle.cpl_xgrid.specs.declared.parts.XRow.{XRow}
use Rattle.cpl_xgrid.specs.declared.parts.XRef.{XRef}
use Rattle.cpl_xgrid.specs.declared.parts.Surface.{Surface}
use Rattle.cpl_xgrid.specs.declared.parts.Surface.TheVariants.{Land, Ocean}
use Rattle.cpl_xgrid.specs.Groups.{AreKeys, numbers_from, places_of}
use Rattle.cpl_xgrid.specs.Rows.{air_cell, other_cell, numbers_of, refs_to, refs_of_air}
use Rattle.cpl_xgrid.specs.Indexes.{AreCells, for_cells}
use Rattle.cpl_xgrid.proofs.CellRefs.{numbers_map}
use Rattle.cpl_xgrid.proofs.CellNumbers.{by_key_is, keys_are, for_cells_map}
use Rattle.cpl_laws.specs.Once.{IsNumbered, CountedOnce, over_cells, over_list}
use Rattle.cpl_laws.proofs.Sums.{total_range, sum_to-pick, total_append, total_add}
use Rattle.cpl_laws.proofs.Groups.{total_cond}
use Rattle.cpl_laws.proofs.Rows.{air_cells_are, other_cells_are}

-- the groups of keys count each item once
counted_from : (count : ℕ) (g : ℕ → ℤ) (m : ℕ) (keys : List ℕ) → AreKeys count keys
    → sum_to (λ key. total_of (map g (numbers_from (λ k. eqb k key) m keys))) count ≡ total_of (map g (range_with_len m (length keys)))
counted_from count g m [] are = sum_to-none (λ key. pos 0) count (λ i l. refl)
counted_from count g m (k ∷ keys) are =
    let rest = λ (key : ℕ). numbers_from (λ k. eqb k key) (m + 1) keys in
    let each = sum_to-same (λ key. total_of (map g (cond (eqb k key) (m ∷ rest key) (rest key)))) (λ key. cond (eqb k key) (g m) (pos 0) +ℤ total_of (map g (rest key))) count (λ key l. total_cond g (eqb k key) m (rest key)) in
    let split = sum_to-add (λ key. cond (eqb k key) (g m) (pos 0)) (λ key. total_of (map g (rest key))) count in
    let own = sum_to-pick k count (g m) (are 0 0 (omega arith)) in
    let others = counted_from count g (m + 1) keys (All-tail (λ key. key < count) k keys are) in
    each ∙ split ∙ ap (λ (z : ℤ). z +ℤ sum_to (λ key. total_of (map g (rest key))) count) own ∙ ap (λ (z : ℤ). g m +ℤ z) others

-- the cells of a mosaic count each item of theirs once
pub counted : {T : Type 0} (tiles : List Tile) (key : T → CellId) (items : List T) (g : ℕ → ℤ) → NumbersAgree tiles → AreCells tiles (map key items)
    → total_of (for_cells tiles (λ cell. total_of (map g (numbers_of key cell items)))) ≡ total_of (map g (range_with_len 0 (length items)))
counted tiles key items g agree are =
    let cells = map key items in
    let keys = map (number_of tiles) cells in
    let sums = map (λ (ns : List ℕ). total_of (map g ns)) in
    let by_itself : for_cells tiles (λ cell. total_of (map g (numbers_of key cell items))) ≡ for_cells tiles (λ cell. total_of (map g (numbers_from (λ c. is_same_cell c cell) 0 cells))) =
    ap (λ (F : CellId → ℤ). for_cells tiles F) (λ i cell. total_of (map g (sym (numbers_map (λ c. is_same_cell c cell) key 0 items) i))) in
    let grouped = sym (for_cells_map tiles (λ cell. numbers_from (λ c. is_same_cell c cell) 0 cells) (λ ns. total_of (map g ns))) in
    let keyed = ap (λ (ls : List (List ℕ)). total_of (sums ls)) (sym (by_key_is tiles cells agree are)) in
    let each = ap total_of (map-map (λ (ns : List ℕ). total_of (map g ns)) (λ key. places_of key keys) (range_with_len 0 (cells_of tiles))) in
    let once = counted_from (cells_of tiles) g 0 keys (keys_are tiles cells agree are) in
    let long : length keys ≡ length items = length-map cells (number_of tiles) ∙ length-map items key in
    ap total_of by_itself ∙ ap total_of grouped ∙ keyed ∙ each
    ∙ total_range (λ key. total_of (map g (places_of key keys))) (cells_of tiles)
    ∙ once
    ∙ ap (λ (n : ℕ). total_of (map g (range_with_len 0 n))) long

-- the same of exchange cells by what each has
pub refs_total : (f : XRef → ℤ) (list : Surface) (ns : List ℕ) → total_of (map f (refs_to list ns)) ≡ total_of (map (λ n. f (record { list = list; row = n })) ns)
refs_total f list ns = ap total_of (map-map f (λ n. record { list = list; row = n }) ns)

pub list_counted : (tiles : List Tile) (key : XRow → CellId) (list : Surface) (rows : List XRow) (f : XRef → ℤ) → NumbersAgree tiles → AreCells tiles (map key rows)
    → over_cells tiles (λ cell. refs_to list (numbers_of key cell rows)) f ≡ over_list list rows f
list_counted tiles key list rows f agree are =
    let g = λ (n : ℕ). f (record { list = list; row = n }) in
    ap (λ (F : CellId → ℤ). total_of (for_cells tiles F)) (λ i cell. refs_total f list (numbers_of key cell rows) i)
    ∙ counted tiles key rows g agree are

air_counted : (tiles : List Tile) (land_rows ocean_rows : List XRow) (f : XRef → ℤ) → NumbersAgree tiles → AreCells tiles (map air_cell land_rows) → AreCells tiles (map air_cell ocean_rows)
    → over_cells tiles (refs_of_air land_rows ocean_rows) f ≡ over_list Land land_rows f +ℤ over_list Ocean ocean_rows f
air_counted tiles land_rows ocean_rows f agree land ocean =
    let a = λ (cell : CellId). refs_to Land (numbers_of air_cell cell land_rows) in
    let b = λ (cell : CellId). refs_to Ocean (numbers_of air_cell cell ocean_rows) in
    let each = λ (cell : CellId). ap total_of (map-append f (a cell) (b cell)) ∙ total_append (map f (a cell)) (map f (b cell)) in
    ap (λ (F : CellId → ℤ). total_of (for_cells tiles F)) (λ i cell. each cell i)
    ∙ total_add (λ n. total_of (map f (a (cell_of tiles n)))) (λ n. total_of (map f (b (cell_of tiles n)))) (range_with_len 0 (cells_of tiles))
    ∙ (λ i. list_counted tiles air_cell Land land_rows f agree land i +ℤ list_counted tiles air_cell Ocean ocean_rows f agree ocean i)

pub counted_once : (grid : Grid) → IsNumbered grid → CountedOnce grid
counted_once grid is = record {
  air = λ f. air_counted grid.air.mosaic.tiles grid.xgrid.land_rows grid.xgrid.ocean_rows f is.air (air_cells_are grid is.rules Land) (air_cells_are grid is.rules Ocean);
  land = λ f. list_counted grid.land.mosaic.tiles other_cell Land grid.xgrid.land_rows f is.land (other_cells_are grid is.rules Land);
  ocean = λ f. list_counted grid.ocean.mosaic.tiles other_cell Ocean grid.xgrid.ocean_rows f is.ocean (other_cells_are grid is.rules Ocean);
}
