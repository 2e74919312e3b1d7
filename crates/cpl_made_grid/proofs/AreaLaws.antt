-- Sums of exchange cells by the cells of a mosaic: their range, and one exchange cell more.
use Rattle.std.proofs.Common.{◌≡◌, refl, sym, ◌∙◌, ap, subst, Bool, true, false, cond, eqb, ℕ, ◌+◌, ◌*◌, ◌<◌, ◌≤◌, arith, List, [], ◌∷◌, ◌++◌, map, length, get_or, take, inl, inr}
use Rattle.std.proofs.Math.ListN.{set}
use Rattle.std.specs.Prelude.{ℤ, pos, ◌+ℤ◌, ◌≤ℤ◌, All, replicate}
use Rattle.std.proofs.lemmas.Int.{ints}
use Rattle.std.proofs.lemmas.Bool.{cases_eq, eq-eqb, ne_eqb}
use Rattle.std.proofs.lemmas.List.{take_more, length-map, length-take, get_or-map, length-set, get_or-set_other, get_or-set_same, length-replicate, get_or-replicate}
use Rattle.std.proofs.lemmas.List.Elements.{All-tail, All-take}
use Rattle.std.proofs.lemmas.List.FromFn.{fill_by_all, get_or-map-range_with_len, length-map-range_with_len}
use Rattle.cpl_fixed.specs.declared.limits.TheConstants.{MOST_AREA, MOST_EXCHANGE_CELLS}
use Rattle.cpl_mosaic.specs.declared.parts.Tile.{Tile}
use Rattle.cpl_mosaic.specs.declared.parts.CellId.{CellId}
use Rattle.cpl_mosaic.specs.Sides.{IsCellOf, is_same_cell}
use Rattle.cpl_mosaic.specs.Contacts.{cells_of}
use Rattle.cpl_mosaic.specs.Cells.{NumbersAgree, cell_of, number_of}
use Rattle.cpl_xgrid.specs.declared.parts.XRow.{XRow}
use Rattle.cpl_xgrid.specs.Lists.{IsArea}
use Rattle.cpl_xgrid.specs.Rows.{area_of, other_cell}
use Rattle.cpl_xgrid.specs.Indexes.{AreCells}
use Rattle.cpl_xgrid.proofs.CellNumbers.{test_agrees}
use Rattle.cpl_made_grid.specs.Areas.{sums_of}
use Rattle.cpl_made_grid.proofs.RowLaws.{area_append, area_cons}

abbrev pub HasArea : XRow → Type 0
HasArea row = IsArea row.area

-- a sum of areas
pub record IsSumOf (count : ℕ) (sum : ℤ) : Type 0 where
  pub least : pos 0 ≤ℤ sum
  pub most : sum ≤ℤ pos (MOST_AREA * count)

cond_range : (b : Bool) (x : ℤ) → IsArea x → IsArea (cond b x (pos 0))
cond_range true x is = is
cond_range false x is = (omega (arith, ints), omega (arith, ints))

pub area_range : (cell : XRow → CellId) (own : CellId) (rows : List XRow) → All HasArea rows → IsSumOf (length rows) (area_of cell own rows)
area_range cell own [] are = record { least = omega (arith, ints); most = omega (arith, ints) }
area_range cell own (row ∷ rows) are =
    let first = cond_range (is_same_cell (cell row) own) row.area (are 0 row (omega arith)) in
    let rest = area_range cell own rows (All-tail HasArea row rows are) in
    let sum = area_cons cell own row rows (is_same_cell (cell row) own) refl in
    record { least = omega (arith, ints, sum, first.0, rest.least); most = omega (arith, ints, sum, first.1, rest.most) }

-- so few that each sum keeps within 64 bits
pub area_small : (cell : XRow → CellId) (own : CellId) (rows : List XRow) → All HasArea rows → length rows ≤ MOST_EXCHANGE_CELLS → (pos 0 ≤ℤ area_of cell own rows) × (area_of cell own rows ≤ℤ pos (MOST_AREA * MOST_EXCHANGE_CELLS))
area_small cell own rows are few =
    let sum = area_range cell own rows are in
    (sum.least, omega (arith, ints, sum.most, few))

-- how many sums there are, and the n-th
pub sums_count : (tiles : List Tile) (rows : List XRow) → length (sums_of tiles rows) ≡ cells_of tiles
sums_count tiles rows = length-map-range_with_len (λ n. area_of other_cell (cell_of tiles n) rows) 0 (cells_of tiles)

pub sums_at : (tiles : List Tile) (rows : List XRow) (n : ℕ) (d : ℤ) → n < cells_of tiles → get_or (sums_of tiles rows) n d ≡ area_of other_cell (cell_of tiles n) rows
sums_at tiles rows n d below = get_or-map-range_with_len (λ n. area_of other_cell (cell_of tiles n) rows) 0 (cells_of tiles) n n d below (omega arith)

module _ (tiles : List Tile) (rows : List XRow) (k : ℕ) (row : XRow) (agree : NumbersAgree tiles) (k_in : k < length rows) (is : row ≡ get_or rows k row) (cell : IsCellOf tiles row.other) where
  abbrev place : ℕ
  place = number_of tiles row.other

  abbrev before : List ℤ
  before = sums_of tiles (take k rows)

  -- the sum of a cell, with one exchange cell more
  sum_more : (n : ℕ) → n < cells_of tiles → area_of other_cell (cell_of tiles n) (take (k + 1) rows) ≡ area_of other_cell (cell_of tiles n) (take k rows) +ℤ cond (eqb place n) row.area (pos 0)
  sum_more n below =
      let test : is_same_cell row.other (cell_of tiles n) ≡ eqb place n = sym (test_agrees tiles row.other n agree cell below) in
      let split = ap (area_of other_cell (cell_of tiles n)) (take_more rows k row k_in ∙ ap (λ (r : XRow). take k rows ++ r ∷ []) (sym is)) ∙ area_append other_cell (cell_of tiles n) (take k rows) (row ∷ []) in
      let last = area_cons other_cell (cell_of tiles n) row [] (eqb place n) test in
      omega (arith, ints, split, last)

  at : (n : ℕ) → n < cells_of tiles → get_or (set before place (get_or before place (pos 0) +ℤ row.area)) n (pos 0) ≡ area_of other_cell (cell_of tiles n) (take (k + 1) rows)
  at n below =
      let long = sums_count tiles (take k rows) in
      let in_place = agree.below row.other cell in
      let more = sum_more n below in
      elim (cases_eq n place) [
        | inl same ↦
            let here : get_or (set before place (get_or before place (pos 0) +ℤ row.area)) n (pos 0) ≡ get_or before place (pos 0) +ℤ row.area = ap (λ (m : ℕ). get_or (set before place (get_or before place (pos 0) +ℤ row.area)) m (pos 0)) same ∙ get_or-set_same before place (get_or before place (pos 0) +ℤ row.area) (pos 0) (omega arith) in
            let was : get_or before place (pos 0) ≡ area_of other_cell (cell_of tiles n) (take k rows) = ap (λ (m : ℕ). get_or before m (pos 0)) (sym same) ∙ sums_at tiles (take k rows) n (pos 0) below in
            let own : cond (eqb place n) row.area (pos 0) ≡ row.area = ap (λ (b : Bool). cond b row.area (pos 0)) (eq-eqb place n (sym same)) in
            omega (arith, ints, here, was, own, more)
        | inr other ↦
            let here : get_or (set before place (get_or before place (pos 0) +ℤ row.area)) n (pos 0) ≡ get_or before n (pos 0) = get_or-set_other before place n (get_or before place (pos 0) +ℤ row.area) (pos 0) other in
            let was = sums_at tiles (take k rows) n (pos 0) below in
            let own : cond (eqb place n) row.area (pos 0) ≡ pos 0 = ap (λ (b : Bool). cond b row.area (pos 0)) (ne_eqb place n (λ e. other (sym e))) in
            omega (arith, ints, here, was, own, more)
      ]

  -- the sums, with one exchange cell more
  pub sums_more : set before place (get_or before place (pos 0) +ℤ row.area) ≡ sums_of tiles (take (k + 1) rows)
  sums_more =
      let count = sums_count tiles (take k rows) in
      let long : length (set before place (get_or before place (pos 0) +ℤ row.area)) ≡ cells_of tiles = length-set before place (get_or before place (pos 0) +ℤ row.area) ∙ count in
      fill_by_all (λ n. area_of other_cell (cell_of tiles n) (take (k + 1) rows)) (set before place (get_or before place (pos 0) +ℤ row.area)) (cells_of tiles) (pos 0) long at

-- no exchange cells sum to nothing
pub sums_none : (tiles : List Tile) (rows : List XRow) → replicate (cells_of tiles) (pos 0) ≡ sums_of tiles (take 0 rows)
sums_none tiles rows = fill_by_all (λ n. pos 0) (replicate (cells_of tiles) (pos 0)) (cells_of tiles) (pos 0) (length-replicate (cells_of tiles) (pos 0)) (λ n below. get_or-replicate (cells_of tiles) n (pos 0) (pos 0) below)

-- WHAT THE CODE TAKES

-- the cell of an exchange cell of a list
pub cell_at : (tiles : List Tile) (rows : List XRow) (k : ℕ) (d : XRow) → AreCells tiles (map other_cell rows) → k < length rows → IsCellOf tiles (get_or rows k d).other
cell_at tiles rows k d cells below =
    let count = length-map rows other_cell in
    subst (IsCellOf tiles) (get_or-map other_cell rows k d d.other below) (cells k d.other (omega arith))

-- the sums so far are small
pub sum_small : (tiles : List Tile) (rows : List XRow) (k : ℕ) (sums : List ℤ) (n : ℕ) → sums ≡ sums_of tiles (take k rows) → All HasArea rows → length rows ≤ MOST_EXCHANGE_CELLS → n < cells_of tiles
    → (pos 0 ≤ℤ get_or sums n (pos 0)) × (get_or sums n (pos 0) ≤ℤ pos (MOST_AREA * MOST_EXCHANGE_CELLS))
sum_small tiles rows k sums n is are few below =
    let count = length-take k rows in
    let small = area_small other_cell (cell_of tiles n) (take k rows) (All-take HasArea k rows are) (omega arith) in
    let same : get_or sums n (pos 0) ≡ area_of other_cell (cell_of tiles n) (take k rows) = ap (λ (l : List ℤ). get_or l n (pos 0)) is ∙ sums_at tiles (take k rows) n (pos 0) below in
    let least = small.0 in
    let most = small.1 in
    (omega (arith, ints, same, least), omega (arith, ints, same, most))
