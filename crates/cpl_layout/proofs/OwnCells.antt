-- The cells of each piece: how many, where each stands, that each stands once, and sums over them.
use Rattle.std.proofs.Common.{◌≡◌, refl, sym, ◌∙◌, ap, Bool, cond, eqb, ℕ, zero, suc, ◌+◌, ◌-◌, ◌*◌, ◌/◌, ◌%◌, ◌<◌, ◌≤◌, arith, List, ◌++◌, map, length, get_or}
use Rattle.std.specs.Prelude.{ℤ, pos}
use Rattle.std.specs.List.{range_with_len, flat_map}
use Rattle.std.proofs.lemmas.Bool.{eq-eqb, ne_eqb}
use Rattle.std.proofs.lemmas.List.{length-append, get_or_append_left, get_or-append-add}
use Rattle.std.proofs.lemmas.Nat.{div-add-mod', div_below, mod_below, mul-add-lt}
use Rattle.std.proofs.lemmas.List.FromFn.{length-map-range_with_len, get_or-map-range_with_len}
use Rattle.cpl_fixed.specs.Totals.{total_of}
use Rattle.cpl_mosaic.specs.Sides.{IsCellOf}
use Rattle.cpl_mosaic.specs.Contacts.{cells_of}
use Rattle.cpl_mosaic.specs.Cells.{number_of, cell_of, NumbersAgree}
use Rattle.cpl_mosaic.proofs.Numbers.{numbers_agree}
use Rattle.cpl_layout.specs.declared.piece.Piece.{Piece}
use Rattle.cpl_layout.specs.Layouts.{Cuts, IsLayout}
use Rattle.cpl_layout.specs.Pieces.{pieces_of, piece_of, owner_of}
use Rattle.cpl_layout.specs.Owners.{Holds, OwnersAgree, cell_in}
use Rattle.cpl_layout.specs.Own.{number_in, row_cells, own_cells, place_number, own_place, IsOwnAt, OwnCellsAgree}
use Rattle.cpl_layout.proofs.Numbered.{owners_agree}
use Rattle.cpl_layout.proofs.Sums.{sum_to, sum_to-same, sum_to-none, sum_to-only, sum_to-swap, total_is, total_range, total_flat}

-- LISTS OF ONE LENGTH, JOINED

flat_count : (g : ℕ → List ℕ) (width from count : ℕ) → ((j : ℕ) → length (g j) ≡ width) → length (flat_map g (range_with_len from count)) ≡ count * width
flat_count g width from zero wide = omega arith
flat_count g width from (suc count) wide =
    let all = length-append (g from) (flat_map g (range_with_len (from + 1) count)) in
    let rest = flat_count g width (from + 1) count wide in
    let own = wide from in
    let more : suc count * width ≡ count * width + width = omega arith in
    omega arith

flat_at : (g : ℕ → List ℕ) (width from count j i : ℕ) → ((k : ℕ) → length (g k) ≡ width) → j < count → i < width → get_or (flat_map g (range_with_len from count)) (j * width + i) 0 ≡ get_or (g (from + j)) i 0
flat_at g width from zero j i wide below within = absurd (omega arith)
flat_at g width from (suc count) zero i wide below within =
    let own = wide from in
    let rest = flat_map g (range_with_len (from + 1) count) in
    let first : 0 * width + i ≡ i = omega arith in
    let same : from ≡ from + 0 = omega arith in
    ap (λ (q : ℕ). get_or (g from ++ rest) q 0) first
    ∙ get_or_append_left (g from) rest 0 i (omega arith)
    ∙ ap (λ (k : ℕ). get_or (g k) i 0) same
flat_at g width from (suc count) (suc j) i wide below within =
    let own = wide from in
    let rest = flat_map g (range_with_len (from + 1) count) in
    let later : suc j * width + i ≡ length (g from) + (j * width + i) = omega arith in
    let same : from + 1 + j ≡ from + suc j = omega arith in
    ap (λ (q : ℕ). get_or (g from ++ rest) q 0) later
    ∙ get_or-append-add (g from) rest (j * width + i) 0
    ∙ flat_at g width (from + 1) count j i wide (omega arith) within
    ∙ ap (λ (k : ℕ). get_or (g k) i 0) same

-- WHERE CELLS STAND

row_count : (layout : Cuts) (piece : Piece) (j : ℕ) → length (row_cells layout piece j) ≡ piece.nx
row_count layout piece j = length-map-range_with_len (λ i. number_in layout piece i j) 0 piece.nx

pub own_count : (layout : Cuts) (p : ℕ) → length (own_cells layout p) ≡ (piece_of layout p).nx * (piece_of layout p).ny
unfolding own_cells
own_count layout p =
    let piece = piece_of layout p in
    let all = flat_count (row_cells layout piece) piece.nx 0 piece.ny (row_count layout piece) in
    omega arith

-- the cell in column i and row j of a piece
pub own_at : (layout : Cuts) (p i j : ℕ) → i < (piece_of layout p).nx → j < (piece_of layout p).ny → get_or (own_cells layout p) (j * (piece_of layout p).nx + i) 0 ≡ number_in layout (piece_of layout p) i j
unfolding own_cells
own_at layout p i j column row =
    let piece = piece_of layout p in
    flat_at (row_cells layout piece) piece.nx 0 piece.ny j i (row_count layout piece) row column
    ∙ ap (λ (k : ℕ). get_or (row_cells layout piece k) i 0) (let e : 0 + j ≡ j = omega arith in e)
    ∙ get_or-map-range_with_len (λ k. number_in layout piece k j) 0 piece.nx i i 0 column (omega arith)

-- the row and the column of a place
record Spot (piece : Piece) (q : ℕ) : Type 0 where
  column : q % piece.nx < piece.nx
  row : q / piece.nx < piece.ny
  back : q / piece.nx * piece.nx + q % piece.nx ≡ q

wide : (a b q : ℕ) → q < a * b → 1 ≤ a
wide zero b q below = absurd (omega arith)
wide (suc a) b q below = omega arith

spot : (layout : Cuts) (p q : ℕ) → q < length (own_cells layout p) → Spot (piece_of layout p) q
spot layout p q within =
    let piece = piece_of layout p in
    let count = own_count layout p in
    let below : q < piece.nx * piece.ny = omega arith in
    let some = wide piece.nx piece.ny q below in
    let turned : q < piece.ny * piece.nx = omega arith in
    record { column = mod_below q piece.nx some; row = div_below q piece.nx piece.ny some turned; back = div-add-mod' q piece.nx }

own_place_at : (layout : Cuts) (p q : ℕ) → q < length (own_cells layout p) → get_or (own_cells layout p) q 0 ≡ number_in layout (piece_of layout p) (q % (piece_of layout p).nx) (q / (piece_of layout p).nx)
own_place_at layout p q within =
    let at = spot layout p q within in
    ap (λ (k : ℕ). get_or (own_cells layout p) k 0) (sym at.back)
    ∙ own_at layout p (q % (piece_of layout p).nx) (q / (piece_of layout p).nx) at.column at.row

-- each cell stands in its owner
each_stands : (layout : Cuts) (n : ℕ) → NumbersAgree layout.tiles → OwnersAgree layout → n < cells_of layout.tiles → IsOwnAt layout (owner_of layout (cell_of layout.tiles n)) (own_place layout (cell_of layout.tiles n)) n
each_stands layout n numbers owners below =
    let cell = cell_of layout.tiles n in
    let is = numbers.is_cell n below in
    let p = owner_of layout cell in
    let piece = piece_of layout (owner_of layout cell) in
    let holds = owners.holds cell is in
    let west = holds.west in
    let east = holds.east in
    let south = holds.south in
    let north = holds.north in
    let column : cell.i - piece.i0 < piece.nx = omega arith in
    let row : cell.j - piece.j0 < piece.ny = omega arith in
    let place = mul-add-lt (cell.j - piece.j0) piece.nx (cell.i - piece.i0) piece.ny row column in
    let count = own_count layout p in
    let i : piece.i0 + (cell.i - piece.i0) ≡ cell.i = omega arith in
    let j : piece.j0 + (cell.j - piece.j0) ≡ cell.j = omega arith in
    let tile = holds.tile in
    let same : cell_in piece (cell.i - piece.i0, cell.j - piece.j0) ≡ cell = λ s. record { tile = sym tile s; i = i s; j = j s } in
    record {
      piece = owners.below cell is;
      within = omega arith;
      is = own_at layout p (cell.i - piece.i0) (cell.j - piece.j0) column row ∙ ap (number_of layout.tiles) same ∙ numbers.number_cell n below;
    }

-- what stands at a place of a piece
record Own (layout : Cuts) (p q n : ℕ) : Type 0 where
  below : n < cells_of layout.tiles
  owner : p ≡ owner_of layout (cell_of layout.tiles n)
  place : q ≡ own_place layout (cell_of layout.tiles n)

-- nothing else stands in a piece
only_stands : (layout : Cuts) (p q n : ℕ) → NumbersAgree layout.tiles → OwnersAgree layout → IsOwnAt layout p q n → Own layout p q n
only_stands layout p q n numbers owners stands =
    let piece = piece_of layout p in
    let at = spot layout p q stands.within in
    let column = at.column in
    let row = at.row in
    let cell = cell_in piece (q % piece.nx, q / piece.nx) in
    let inside = owners.inside p stands.piece in
    let east = inside.east in
    let north = inside.north in
    let is : IsCellOf layout.tiles cell = record { column = omega arith; row = omega arith } in
    let number : number_of layout.tiles cell ≡ n = sym (own_place_at layout p q stands.within) ∙ stands.is in
    let back : cell_of layout.tiles n ≡ cell = ap (cell_of layout.tiles) (sym number) ∙ numbers.cell_number cell is in
    let holds : Holds piece cell = record { tile = refl; west = omega arith; east = omega arith; south = omega arith; north = omega arith } in
    let owner = owners.only p cell stands.piece holds in
    let j : piece.j0 + q / piece.nx - piece.j0 ≡ q / piece.nx = omega arith in
    let i : piece.i0 + q % piece.nx - piece.i0 ≡ q % piece.nx = omega arith in
    let place : place_number piece cell ≡ q = (λ s. j s * piece.nx + i s) ∙ at.back in
    let below = numbers.below cell is in
    record {
      below = omega arith;
      owner = owner ∙ ap (owner_of layout) (sym back);
      place = sym place ∙ ap (λ (o : ℕ). place_number (piece_of layout o) cell) owner ∙ ap (own_place layout) (sym back);
    }

-- SUMS

-- what cell n has, where place q of piece p is its own
abbrev seen : Cuts → (ℕ → ℤ) → ℕ → ℕ → ℕ → ℤ
seen layout f n p q = cond (eqb (get_or (own_cells layout p) q 0) n) (f n) (pos 0)

seen_own : (layout : Cuts) (f : ℕ → ℤ) (n p q : ℕ) → get_or (own_cells layout p) q 0 ≡ n → seen layout f n p q ≡ f n
seen_own layout f n p q is = ap (λ (b : Bool). cond b (f n) (pos 0)) (eq-eqb (get_or (own_cells layout p) q 0) n is)

seen_not : (layout : Cuts) (f : ℕ → ℤ) (n p q : ℕ) → (get_or (own_cells layout p) q 0 ≡ n → ⊥) → seen layout f n p q ≡ pos 0
seen_not layout f n p q other = ap (λ (b : Bool). cond b (f n) (pos 0)) (ne_eqb (get_or (own_cells layout p) q 0) n other)

-- the sum over a piece's own cells, by places
own_sum : (layout : Cuts) (f : ℕ → ℤ) (p : ℕ) → total_of (map f (own_cells layout p)) ≡ sum_to (λ q. f (get_or (own_cells layout p) q 0)) (length (own_cells layout p))
own_sum layout f p = total_is f (own_cells layout p) 0

-- all cells seen from a place: its own alone
seen_from_place : (layout : Cuts) (f : ℕ → ℤ) (p q : ℕ) → get_or (own_cells layout p) q 0 < cells_of layout.tiles → sum_to (λ n. seen layout f n p q) (cells_of layout.tiles) ≡ f (get_or (own_cells layout p) q 0)
seen_from_place layout f p q below =
    sum_to-only (λ n. seen layout f n p q) (cells_of layout.tiles) (get_or (own_cells layout p) q 0) below (λ n l other. seen_not layout f n p q (λ e. other (sym e)))
    ∙ seen_own layout f (get_or (own_cells layout p) q 0) p q refl

-- all places seen from a cell: its own alone
seen_from_cell : (layout : Cuts) (f : ℕ → ℤ) (n : ℕ) → NumbersAgree layout.tiles → OwnersAgree layout → n < cells_of layout.tiles
    → sum_to (λ p. sum_to (seen layout f n p) (length (own_cells layout p))) (pieces_of layout) ≡ f n
seen_from_cell layout f n numbers owners below =
    let p = owner_of layout (cell_of layout.tiles n) in
    let q = own_place layout (cell_of layout.tiles n) in
    let stands = each_stands layout n numbers owners below in
    let only : (r k : ℕ) → r < pieces_of layout → k < length (own_cells layout r) → get_or (own_cells layout r) k 0 ≡ n → Own layout r k n =
    λ r k l m e. only_stands layout r k n numbers owners (record { piece = l; within = m; is = e }) in
    sum_to-only (λ r. sum_to (seen layout f n r) (length (own_cells layout r))) (pieces_of layout) p stands.piece
    (λ r l other. sum_to-none (seen layout f n r) (length (own_cells layout r)) (λ k m. seen_not layout f n r k (λ e. other (only r k l m e).owner)))
    ∙ sum_to-only (seen layout f n p) (length (own_cells layout p)) q stands.within
    (λ k m other. seen_not layout f n p k (λ e. other (only p k stands.piece m e).place))
    ∙ seen_own layout f n p q stands.is

-- the sums over the pieces, each by all cells
pub own_sums : (layout : Cuts) (f : ℕ → ℤ) → NumbersAgree layout.tiles → OwnersAgree layout
    → total_of (map f (range_with_len 0 (cells_of layout.tiles))) ≡ total_of (map (λ p. total_of (map f (own_cells layout p))) (range_with_len 0 (pieces_of layout)))
own_sums layout f numbers owners =
    let cells = cells_of layout.tiles in
    let pieces = pieces_of layout in
    let count = λ (p : ℕ). length (own_cells layout p) in
    let by_cell = sum_to-same f (λ n. sum_to (λ p. sum_to (seen layout f n p) (count p)) pieces) cells (λ n l. sym (seen_from_cell layout f n numbers owners l)) in
    let turned = sum_to-swap (λ n p. sum_to (seen layout f n p) (count p)) cells pieces in
    let by_piece = sum_to-same (λ p. sum_to (λ n. sum_to (seen layout f n p) (count p)) cells) (λ p. total_of (map f (own_cells layout p))) pieces (λ p l.
    sum_to-swap (λ n q. seen layout f n p q) cells (count p)
    ∙ sum_to-same (λ q. sum_to (λ n. seen layout f n p q) cells) (λ q. f (get_or (own_cells layout p) q 0)) (count p) (λ q m. seen_from_place layout f p q (only_stands layout p q (get_or (own_cells layout p) q 0) numbers owners (record { piece = l; within = m; is = refl })).below)
    ∙ sym (own_sum layout f p)) in
    total_range f cells ∙ by_cell ∙ turned ∙ by_piece ∙ sym (total_range (λ p. total_of (map f (own_cells layout p))) pieces)

-- the sum over a piece's own cells, row by row
own_rows : (layout : Cuts) (p : ℕ) (f : ℕ → ℤ) → total_of (map f (own_cells layout p)) ≡ total_of (map (λ j. total_of (map f (row_cells layout (piece_of layout p) j))) (range_with_len 0 (piece_of layout p).ny))
unfolding own_cells
own_rows layout p f = total_flat f (row_cells layout (piece_of layout p)) (range_with_len 0 (piece_of layout p).ny)

pub own_cells_agree : (layout : Cuts) → IsLayout layout → OwnCellsAgree layout
own_cells_agree layout is =
    let numbers = numbers_agree layout.tiles is.sizes in
    let owners = owners_agree layout is in
    record {
      count = λ p. own_count layout p;
      place = λ p q within. own_place_at layout p q within;
      each = λ n below. each_stands layout n numbers owners below;
      only = λ p q n stands. let own = only_stands layout p q n numbers owners stands in (own.below, own.owner, own.place);
      sums = λ f. own_sums layout f numbers owners;
      rows = λ p f. own_rows layout p f;
    }
