-- The cells of a piece as loops over its rows and columns go through them.
use Rattle.std.proofs.Common.{◌≡◌, ◌∙◌, sym, ap, ℕ, zero, suc, ◌+◌, arith, List, [], ◌∷◌, ◌++◌, map}
use Rattle.std.specs.List.{range_with_len, flat_map}
use Rattle.std.proofs.lemmas.List.{append_assoc, append-nil}
use Rattle.std.proofs.lemmas.List.Concat.{flat_map-append}
use Rattle.std.proofs.lemmas.List.FromFn.{map-range_with_len_more}
use Rattle.cpl_layout.specs.declared.piece.Piece.{Piece}
use Rattle.cpl_layout.specs.Layouts.{Cuts}
use Rattle.cpl_layout.specs.Pieces.{piece_of}
use Rattle.cpl_layout.specs.Own.{number_in, row_cells, own_cells}

-- the cells of the rows before row j
abbrev pub rows_before : Cuts → Piece → ℕ → List ℕ
rows_before layout piece j = flat_map (row_cells layout piece) (range_with_len 0 j)

-- the cells before column i of row j
abbrev pub cells_before : Cuts → Piece → (i j : ℕ) → List ℕ
cells_before layout piece i j = rows_before layout piece j ++ map (λ k. number_in layout piece k j) (range_with_len 0 i)

range_more : (from k : ℕ) → range_with_len from (suc k) ≡ range_with_len from k ++ (from + k) ∷ []
range_more from zero = ap (λ (n : ℕ). n ∷ []) (let e : from ≡ from + 0 = omega arith in e)
range_more from (suc k) =
    let next : from + 1 + k ≡ from + suc k = omega arith in
    ap (λ (ns : List ℕ). from ∷ ns) (range_more (from + 1) k ∙ ap (λ (n : ℕ). range_with_len (from + 1) k ++ n ∷ []) next)

-- a row begins
pub row_begins : (layout : Cuts) (piece : Piece) (j : ℕ) → cells_before layout piece 0 j ≡ rows_before layout piece j
row_begins layout piece j = append-nil (rows_before layout piece j)

-- a cell more
pub cell_more : (layout : Cuts) (piece : Piece) (i j : ℕ) → cells_before layout piece (i + 1) j ≡ cells_before layout piece i j ++ number_in layout piece i j ∷ []
cell_more layout piece i j =
    ap (λ (cells : List ℕ). rows_before layout piece j ++ cells) (map-range_with_len_more (λ k. number_in layout piece k j) 0 i i (omega arith))
    ∙ sym (append_assoc (rows_before layout piece j) (map (λ k. number_in layout piece k j) (range_with_len 0 i)) (number_in layout piece i j ∷ []))

-- a row is done
pub row_done : (layout : Cuts) (piece : Piece) (j : ℕ) → cells_before layout piece piece.nx j ≡ rows_before layout piece (j + 1)
row_done layout piece j =
    let next : suc j ≡ j + 1 = omega arith in
    let here : 0 + j ≡ j = omega arith in
    ap (λ (cells : List ℕ). rows_before layout piece j ++ cells) (sym (append-nil (row_cells layout piece j)))
    ∙ sym (flat_map-append (row_cells layout piece) (range_with_len 0 j) (j ∷ []))
    ∙ ap (flat_map (row_cells layout piece)) (ap (λ (n : ℕ). range_with_len 0 j ++ n ∷ []) (sym here) ∙ sym (range_more 0 j) ∙ ap (range_with_len 0) next)

-- all rows are done
pub rows_done : (layout : Cuts) (p : ℕ) → rows_before layout (piece_of layout p) (piece_of layout p).ny ≡ own_cells layout p
unfolding own_cells
rows_done layout p = λ s. own_cells layout p
