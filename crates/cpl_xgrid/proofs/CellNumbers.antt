-- Cells of a mosaic by their numbers.
use Rattle.std.proofs.Common.{◌≡◌, refl, sym, ◌∙◌, ap, Bool, true, false, eqb, cond, ℕ, ◌+◌, ◌<◌, arith, List, [], ◌∷◌, map, length, get_or, inl, inr}
use Rattle.std.specs.List.{range_with_len}
use Rattle.std.proofs.lemmas.Bool.{and_parts, and_from, cases_eq, cases_Bool, eq-eqb, ne_eqb, ltb-true}
use Rattle.std.proofs.lemmas.Simd.{map-map}
use Rattle.std.proofs.lemmas.List.Elements.{All-map, All-tail}
use Rattle.std.proofs.lemmas.List.FromFn.{length-map-range_with_len, get_or-map-range_with_len}
use Rattle.cpl_mosaic.specs.declared.parts.Side.TheVariants.{W}
use Rattle.cpl_mosaic.specs.declared.parts.CellId.{CellId}
use Rattle.cpl_mosaic.specs.declared.parts.Tile.{Tile}
use Rattle.cpl_mosaic.specs.Sides.{IsCellOf, is_same_cell}
use Rattle.cpl_mosaic.specs.Contacts.{cells_of}
use Rattle.cpl_mosaic.specs.Cells.{number_of, cell_of, NumbersAgree}
use Rattle.cpl_mosaic.proofs.Edges.{same_side, own_side}
use Rattle.cpl_xgrid.specs.Groups.{AreKeys, numbers_from, by_key}
use Rattle.cpl_xgrid.specs.Rows.{is_cell}
use Rattle.cpl_xgrid.specs.Indexes.{AreCells, for_cells, by_cell}
use Rattle.cpl_xgrid.proofs.Offsets.{same_range}

-- the test of cells decides equality
pub same_cell : (a b : CellId) → is_same_cell a b ≡ true → a ≡ b
same_cell a b e = ap (λ (s : CellId × _). s.0) (same_side (a, W) (b, W) (and_from _ _ e refl))

pub own_cell : (a : CellId) → is_same_cell a a ≡ true
own_cell a = (and_parts _ _ (own_side (a, W))).0

-- a cell that the test finds is one of the mosaic
pub cell_is : (tiles : List Tile) (cell : CellId) → is_cell tiles cell ≡ true → IsCellOf tiles cell
cell_is tiles cell e = let parts = and_parts _ _ e in record { column = ltb-true _ _ parts.0; row = ltb-true _ _ parts.1 }

-- a test is false where it doesn't hold
not_same : (a b : CellId) → (a ≡ b → ⊥) → is_same_cell a b ≡ false
not_same a b other = elim (cases_Bool (is_same_cell a b)) [ inl same ↦ absurd (other (same_cell a b same)) | inr e ↦ e ]

-- a cell has this number where it is this cell
pub test_agrees : (tiles : List Tile) (cell : CellId) (k : ℕ) → NumbersAgree tiles → IsCellOf tiles cell → k < cells_of tiles → eqb (number_of tiles cell) k ≡ is_same_cell cell (cell_of tiles k)
test_agrees tiles cell k agree is within = elim (cases_eq (number_of tiles cell) k) [
  | inl same ↦
      let back : cell ≡ cell_of tiles k = sym (agree.cell_number cell is) ∙ ap (cell_of tiles) same in
      eq-eqb _ _ same ∙ sym (ap (is_same_cell cell) (sym back) ∙ own_cell cell)
  | inr other ↦
      ne_eqb _ _ other ∙ sym (not_same cell (cell_of tiles k) (λ e. other (ap (number_of tiles) e ∙ agree.number_cell k within)))
]

numbers_agree_from : (tiles : List Tile) (k n : ℕ) (cells : List CellId) → NumbersAgree tiles → AreCells tiles cells → k < cells_of tiles
    → numbers_from (λ x. eqb x k) n (map (number_of tiles) cells) ≡ numbers_from (λ c. is_same_cell c (cell_of tiles k)) n cells
numbers_agree_from tiles k n [] agree are within = refl
numbers_agree_from tiles k n (cell ∷ cells) agree are within =
    let rest = numbers_agree_from tiles k (n + 1) cells agree (All-tail (IsCellOf tiles) cell cells are) within in
    let first = test_agrees tiles cell k agree (are 0 cell (omega arith)) within in
    ap (λ (b : Bool). cond b (n ∷ numbers_from (λ x. eqb x k) (n + 1) (map (number_of tiles) cells)) (numbers_from (λ x. eqb x k) (n + 1) (map (number_of tiles) cells))) first
    ∙ ap (λ (l : List ℕ). cond (is_same_cell cell (cell_of tiles k)) (n ∷ l) l) rest

-- grouped by their numbers, cells are grouped by themselves
pub by_key_is : (tiles : List Tile) (cells : List CellId) → NumbersAgree tiles → AreCells tiles cells → by_key (cells_of tiles) (map (number_of tiles) cells) ≡ by_cell tiles cells
by_key_is tiles cells agree are =
    same_range (λ key. numbers_from (λ x. eqb x key) 0 (map (number_of tiles) cells)) (λ k. numbers_from (λ c. is_same_cell c (cell_of tiles k)) 0 cells) (cells_of tiles)
    (λ k within. numbers_agree_from tiles k 0 cells agree are within)

pub keys_are : (tiles : List Tile) (cells : List CellId) → NumbersAgree tiles → AreCells tiles cells → AreKeys (cells_of tiles) (map (number_of tiles) cells)
keys_are tiles cells agree are = All-map (λ key. key < cells_of tiles) (number_of tiles) cells (λ k d h. agree.below _ (are k d h))

-- what each cell has
pub for_cells_count : {T : Type 0} (tiles : List Tile) (has : CellId → T) → length (for_cells tiles has) ≡ cells_of tiles
for_cells_count tiles has = length-map-range_with_len (λ n. has (cell_of tiles n)) 0 (cells_of tiles)

pub for_cells_read : {T : Type 0} (tiles : List Tile) (has : CellId → T) (n : ℕ) (d : T) → n < cells_of tiles → get_or (for_cells tiles has) n d ≡ has (cell_of tiles n)
for_cells_read tiles has n d within = get_or-map-range_with_len (λ n. has (cell_of tiles n)) 0 (cells_of tiles) n n d within (omega arith)

pub for_cells_same : {T : Type 0} (tiles : List Tile) (has other : CellId → T) → ((cell : CellId) → has cell ≡ other cell) → for_cells tiles has ≡ for_cells tiles other
for_cells_same tiles has other each = same_range (λ n. has (cell_of tiles n)) (λ n. other (cell_of tiles n)) (cells_of tiles) (λ k h. each (cell_of tiles k))

pub for_cells_map : {S T : Type 0} (tiles : List Tile) (has : CellId → S) (f : S → T) → map f (for_cells tiles has) ≡ for_cells tiles (λ cell. f (has cell))
for_cells_map tiles has f = map-map f (λ n. has (cell_of tiles n)) (range_with_len 0 (cells_of tiles))
