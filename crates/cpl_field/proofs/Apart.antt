-- Where spots stand: no two of them in one place.
use Rattle.std.proofs.Common.{◌≡◌, ◌∙◌, refl, sym, ap, subst, ℕ, ◌+◌, ◌*◌, ◌<◌, ◌≤◌, arith, ◌⊎◌, inl, inr, List, length, slice_set, get_or, get_or-set_same, get_or-set_other}
use Rattle.std.specs.Prelude.{ℤ, pos}
use Rattle.std.proofs.lemmas.List.{get_or_read}
use Rattle.std.proofs.lemmas.Bool.{cases_order}
use Rattle.std.proofs.lemmas.Nat.{mul-add-lt, same_from_place, row_fits, row_fits_turned}
use Rattle.cpl_mosaic.specs.declared.parts.Side.{Side}
use Rattle.cpl_mosaic.specs.declared.parts.Side.TheVariants.{W, E, S, N}
use Rattle.cpl_field.specs.Spots.{FieldNumbers, Spot, CellAt, HoleAt, IsSpot, IsShape, IsField, Sets, SetsRow, columns_of, rows_of, column_of, row_of, stored, number_at}

pub column_below : (f : FieldNumbers) → IsShape f.nx f.ny f.width → (spot : Spot) → IsSpot f spot → column_of f spot < columns_of f
column_below f shape (CellAt i j) is = omega arith
column_below f shape (HoleAt W k d) is = omega arith
column_below f shape (HoleAt E k d) is = omega arith
column_below f shape (HoleAt S k d) is = omega arith
column_below f shape (HoleAt N k d) is = omega arith

pub row_below : (f : FieldNumbers) → IsShape f.nx f.ny f.width → (spot : Spot) → IsSpot f spot → row_of f spot < rows_of f
row_below f shape (CellAt i j) is = omega arith
row_below f shape (HoleAt W k d) is = omega arith
row_below f shape (HoleAt E k d) is = omega arith
row_below f shape (HoleAt S k d) is = omega arith
row_below f shape (HoleAt N k d) is = omega arith

-- the place of a spot in the list
abbrev pub index_of : FieldNumbers → Spot → ℕ
index_of f spot = row_of f spot * columns_of f + column_of f spot

pub index_below : (f : FieldNumbers) → IsField f → (spot : Spot) → IsSpot f spot → index_of f spot < length f.numbers
index_below f is spot on =
    let lt = mul-add-lt (row_of f spot) (columns_of f) (column_of f spot) (rows_of f) (row_below f is.shape spot on) (column_below f is.shape spot on) in
    let count = is.count in
    omega arith

two_cells : (i j k l : ℕ) → i ≡ k → j ≡ l → CellAt i j ≡ CellAt k l
two_cells i j k l e f = λ t. CellAt (e t) (f t)

-- a column and a row belong to one spot at most
pub same_spot : (f : FieldNumbers) → (p q : Spot) → IsSpot f p → IsSpot f q → row_of f p ≡ row_of f q → column_of f p ≡ column_of f q → p ≡ q
same_spot f (CellAt i j) (CellAt k l) on off row column = two_cells i j k l (omega arith) (omega arith)
same_spot f (CellAt i j) (HoleAt W k d) on off row column = absurd (omega arith)
same_spot f (CellAt i j) (HoleAt E k d) on off row column = absurd (omega arith)
same_spot f (CellAt i j) (HoleAt S k d) on off row column = absurd (omega arith)
same_spot f (CellAt i j) (HoleAt N k d) on off row column = absurd (omega arith)
same_spot f (HoleAt W k d) (CellAt i j) on off row column = absurd (omega arith)
same_spot f (HoleAt E k d) (CellAt i j) on off row column = absurd (omega arith)
same_spot f (HoleAt S k d) (CellAt i j) on off row column = absurd (omega arith)
same_spot f (HoleAt N k d) (CellAt i j) on off row column = absurd (omega arith)
same_spot f (HoleAt W k d) (HoleAt W l e) on off row column = let a : k ≡ l = omega arith in let b : d ≡ e = omega arith in λ t. HoleAt W (a t) (b t)
same_spot f (HoleAt W k d) (HoleAt E l e) on off row column = absurd (omega arith)
same_spot f (HoleAt W k d) (HoleAt S l e) on off row column = absurd (omega arith)
same_spot f (HoleAt W k d) (HoleAt N l e) on off row column = absurd (omega arith)
same_spot f (HoleAt E k d) (HoleAt W l e) on off row column = absurd (omega arith)
same_spot f (HoleAt E k d) (HoleAt E l e) on off row column = let a : k ≡ l = omega arith in let b : d ≡ e = omega arith in λ t. HoleAt E (a t) (b t)
same_spot f (HoleAt E k d) (HoleAt S l e) on off row column = absurd (omega arith)
same_spot f (HoleAt E k d) (HoleAt N l e) on off row column = absurd (omega arith)
same_spot f (HoleAt S k d) (HoleAt W l e) on off row column = absurd (omega arith)
same_spot f (HoleAt S k d) (HoleAt E l e) on off row column = absurd (omega arith)
same_spot f (HoleAt S k d) (HoleAt S l e) on off row column = let a : k ≡ l = omega arith in let b : d ≡ e = omega arith in λ t. HoleAt S (a t) (b t)
same_spot f (HoleAt S k d) (HoleAt N l e) on off row column = absurd (omega arith)
same_spot f (HoleAt N k d) (HoleAt W l e) on off row column = absurd (omega arith)
same_spot f (HoleAt N k d) (HoleAt E l e) on off row column = absurd (omega arith)
same_spot f (HoleAt N k d) (HoleAt S l e) on off row column = absurd (omega arith)
same_spot f (HoleAt N k d) (HoleAt N l e) on off row column = let a : k ≡ l = omega arith in let b : d ≡ e = omega arith in λ t. HoleAt N (a t) (b t)

-- spots of one place are one
pub same_index : (f : FieldNumbers) → IsField f → (p q : Spot) → IsSpot f p → IsSpot f q → index_of f p ≡ index_of f q → p ≡ q
same_index f is p q on off e =
    let same = same_from_place (row_of f p) (column_of f p) (row_of f q) (column_of f q) (columns_of f) (column_below f is.shape p on) (column_below f is.shape q off) e in
    same_spot f p q on off same.0 same.1

-- the field with another list of numbers
abbrev pub with_numbers : FieldNumbers → List ℤ → FieldNumbers
with_numbers f numbers = record { nx = f.nx; ny = f.ny; width = f.width; numbers = numbers }

-- the same, where one field has two names
pub index_below_by : (f g : FieldNumbers) → IsField f → f ≡ g → (spot : Spot) → IsSpot g spot → (n : ℕ) → n ≡ index_of f spot → n < length f.numbers
index_below_by f g is same spot on n e =
    let below = index_below f is spot (subst (λ (h : FieldNumbers). IsSpot h spot) (sym same) on) in
    omega arith

-- a write to a spot's place changes no other spot
pub sets_at : (f : FieldNumbers) → IsField f → (spot : Spot) → IsSpot f spot → (x : ℤ) → (n : ℕ) → n ≡ index_of f spot → Sets f (with_numbers f (slice_set f.numbers n x)) spot x
sets_at f is spot on x n e = record {
  shape = record { nx = refl; ny = refl; width = refl };
  there = let P : ℕ → Type 0 = λ m. get_or (slice_set f.numbers n x) m (pos 0) ≡ x in subst P e (get_or-set_same f.numbers n x (pos 0) (let below = index_below f is spot on in omega arith));
  others = λ other off apart. get_or-set_other f.numbers n (index_of f other) x (pos 0) (λ same. apart (same_index f is other spot off on (same ∙ e)));
}

-- the same, where one field and one number have two names
pub sets_by : (f g : FieldNumbers) → IsField f → f ≡ g → (spot : Spot) → IsSpot g spot → (x y : ℤ) → y ≡ x → (n : ℕ) → n ≡ index_of f spot → Sets g (with_numbers f (slice_set f.numbers n y)) spot x
sets_by f g is same spot on x y is_x n e =
    let on_f = subst (λ (h : FieldNumbers). IsSpot h spot) (sym same) on in
    let Q : ℤ → Type 0 = λ z. Sets f (with_numbers f (slice_set f.numbers n y)) spot z in
    subst (λ (h : FieldNumbers). Sets h (with_numbers f (slice_set f.numbers n y)) spot x) same (subst Q is_x (sets_at f is spot on_f y n e))

-- what a spot's place holds
pub read_by : (f g : FieldNumbers) → IsField f → f ≡ g → (spot : Spot) → IsSpot g spot → (n : ℕ) → n ≡ index_of f spot → (x y : ℤ) → x ≡ get_or f.numbers n x → y ≡ x → y ≡ number_at g spot
read_by f g is same spot on n e x y read is_x =
    is_x
    ∙ get_or_read f.numbers n x (index_below_by f g is same spot on n e) read (pos 0)
    ∙ ap (λ m. get_or f.numbers m (pos 0)) e
    ∙ ap (λ (h : FieldNumbers). number_at h spot) same

-- a row of the list lies within it
pub row_within : (f g : FieldNumbers) → IsField f → f ≡ g → (row : ℕ) → row < rows_of g → (n : ℕ) → n ≡ row * columns_of f + 0 → n + columns_of f ≤ length f.numbers
row_within f g is same row below n e =
    let r = ap rows_of same in
    let fits = row_fits_turned row (columns_of f) (columns_of f) (rows_of f) (omega arith) (omega arith) in
    let count = is.count in
    omega arith

-- what a row holds
pub row_reads : (f g : FieldNumbers) → f ≡ g → (part : List ℤ) (row n : ℕ) → n ≡ row * columns_of f + 0 → ((k : ℕ) → k < columns_of f → get_or part k (pos 0) ≡ get_or f.numbers (n + k) (pos 0)) → (column : ℕ) → column < columns_of g → get_or part column (pos 0) ≡ stored g row column
row_reads f g same part row n e read column below =
    let columns = ap columns_of same in
    read column (omega arith)
    ∙ ap (λ m. get_or f.numbers m (pos 0)) (omega arith)
    ∙ ap (λ (h : FieldNumbers). stored h row column) same

-- a hole in the row of cells lies beside them
hole_aside : (f : FieldNumbers) → IsShape f.nx f.ny f.width → (side : Side) (k depth j : ℕ) → j < f.ny → IsSpot f (HoleAt side k depth) → row_of f (HoleAt side k depth) ≡ f.width + j → (column_of f (HoleAt side k depth) < f.width) ⊎ (f.width + f.nx ≤ column_of f (HoleAt side k depth))
hole_aside f shape W k d j l on in_row = inl (omega arith)
hole_aside f shape E k d j l on in_row = inr (omega arith)
hole_aside f shape S k d j l on in_row = absurd (omega arith)
hole_aside f shape N k d j l on in_row = absurd (omega arith)

-- what stands outside a run of places in one row keeps its number
elsewhere : (f : FieldNumbers) (new numbers : List ℤ) (j n : ℕ) → length numbers ≡ f.nx → n ≡ (f.width + j) * columns_of f + f.width
    → ((m : ℕ) → m < n → get_or new m (pos 0) ≡ get_or f.numbers m (pos 0))
    → ((m : ℕ) → n + length numbers ≤ m → get_or new m (pos 0) ≡ get_or f.numbers m (pos 0))
    → (column row : ℕ) → column < columns_of f → (row ≡ f.width + j → (column < f.width) ⊎ (f.width + f.nx ≤ column)) → get_or new (row * columns_of f + column) (pos 0) ≡ get_or f.numbers (row * columns_of f + column) (pos 0)
elsewhere f new numbers j n wide e before after column row below aside = elim (cases_order row (f.width + j)) [
  | inr (inl less) ↦ before (row * columns_of f + column) (let fits = row_fits row (columns_of f) (f.width + j) (columns_of f) less (omega arith) in omega arith)
  | inl same ↦
      let by : row * columns_of f ≡ (f.width + j) * columns_of f = ap (λ m. m * columns_of f) same in
      elim (aside same) [
        | inl left ↦ before (row * columns_of f + column) (omega arith)
        | inr right ↦ after (row * columns_of f + column) (omega arith)
      ]
  | inr (inr more) ↦ after (row * columns_of f + column) (let fits = row_fits (f.width + j) (columns_of f) row (columns_of f) more (omega arith) in omega arith)
]

-- numbers put into a row are those of its cells
pub sets_row_by : (f g : FieldNumbers) → IsField f → f ≡ g → (new numbers : List ℤ) (j n : ℕ) → j < g.ny → length numbers ≡ g.nx → n ≡ (f.width + j) * columns_of f + f.width
    → ((i : ℕ) → i < length numbers → get_or new (n + i) (pos 0) ≡ get_or numbers i (pos 0))
    → ((m : ℕ) → m < n → get_or new m (pos 0) ≡ get_or f.numbers m (pos 0))
    → ((m : ℕ) → n + length numbers ≤ m → get_or new m (pos 0) ≡ get_or f.numbers m (pos 0))
    → SetsRow g (with_numbers f new) j numbers
sets_row_by f g is same new numbers j n row count e there before after =
    let P : FieldNumbers → Type 0 = λ h. SetsRow h (with_numbers f new) j numbers in
    let wide : length numbers ≡ f.nx = count ∙ sym (ap (λ (h : FieldNumbers). h.nx) same) in
    subst P same (record {
      shape = record { nx = refl; ny = refl; width = refl };
      there = λ i l. ap (λ m. get_or new m (pos 0)) (omega arith) ∙ there i (omega arith);
      cells = λ i k l below apart. elsewhere f new numbers j n wide e before after (f.width + i) (f.width + k) (omega arith) (λ in_row. absurd (apart (omega arith)));
      holes = λ side k depth on. elsewhere f new numbers j n wide e before after (column_of f (HoleAt side k depth)) (row_of f (HoleAt side k depth)) (column_below f is.shape (HoleAt side k depth) on)
          (λ in_row. hole_aside f is.shape side k depth j (subst (λ m. j < m) (sym (ap (λ (h : FieldNumbers). h.ny) same)) row) on in_row);
    })
