-- Items of tables, and the areas of elements.
use Rattle.std.proofs.Common.{◌≡◌, ◌∙◌, sym, ap, subst, ℕ, ◌+◌, ◌*◌, ◌<◌, ◌≤◌, ◌≢◌, arith, add-one, to_z, of_z, w64, List, length, map, inl, inr, get_or, get_or-set_same, get_or-set_other, slice_set}
use Rattle.std.specs.Prelude.{ℤ, pos, ◌+ℤ◌, ◌≤ℤ◌}
use Rattle.std.specs.List.{range_with_len}
use Rattle.std.proofs.lemmas.Int.{ints}
use Rattle.std.proofs.lemmas.Bool.{cases_eq}
use Rattle.std.proofs.lemmas.Nat.{mul-add-lt}
use Rattle.std.proofs.lemmas.List.Edits.{fill_by_more}
use Rattle.cpl_fixed.specs.Totals.{total_of}
use Rattle.cpl_diffusion.proofs.Sums.{sum_to}
use Rattle.cpl_laws.proofs.Sums.{total_range}
use Rattle.cpl_fast.specs.declared.flows.Tables.{Tables}
use Rattle.cpl_fast.specs.Flows.{IsInCell, area_in, before_in, link_at}

-- the total over one number more
pub total_more : (f : ℕ → ℤ) (n : ℕ) → total_of (map f (range_with_len 0 (n + 1))) ≡ total_of (map f (range_with_len 0 n)) +ℤ f n
total_more f n =
    total_range f (n + 1) ∙ ap (sum_to f) (add-one n) ∙ sym (ap (λ (z : ℤ). z +ℤ f n) (total_range f n))

pub before_none : (tables : Tables) (row : ℕ) → before_in tables row 0 ≡ (link_at tables.links.items row).before
before_none tables row = omega (arith, ints)

pub before_more : (tables : Tables) (row k : ℕ) → before_in tables row (k + 1) ≡ before_in tables row k +ℤ area_in tables row k
before_more tables row k = let e = total_more (area_in tables row) k in omega (arith, ints, e)

-- the area of a cell of the air, as it was passed
pub area_passed : (area : ℤ) (tables : Tables) (row k : ℕ) → IsInCell area tables row k → to_z w64 (of_z w64 area) ≡ area
area_passed area tables row k can = let least = can.range.0 in let most = can.range.1 in omega (arith, ints, least, most)

pub cell_passed : (area : ℤ) (tables : Tables) (row k : ℕ) → IsInCell area tables row k → IsInCell (to_z w64 (of_z w64 area)) tables row k
cell_passed area tables row k can = subst (λ (a : ℤ). IsInCell a tables row k) (sym (area_passed area tables row k can)) can

-- the areas before a row's first element, as they were read from its link and passed
pub before_first : (area x : ℤ) (tables : Tables) (row : ℕ) → IsInCell area tables row 0 → x ≡ (link_at tables.links.items row).before
    → (pos 0 ≤ℤ to_z w64 (of_z w64 x)) × (to_z w64 (of_z w64 x) ≤ℤ to_z w64 (of_z w64 area))
before_first area x tables row can e =
    let none = before_none tables row in
    let most = can.range.1 in let least = can.least in let before = can.before in let within = can.within in
    (omega (arith, ints), omega (arith, ints))

-- one place more of a row is written, and the places before the row stay
pub row_more : {X : Type 0} (f : ℕ → X) (xs : List X) (first k : ℕ) (d v : X) → first + k < length xs → ((j : ℕ) → j < k → get_or xs (first + j) d ≡ f j) → v ≡ f k
    → (j : ℕ) → j < k + 1 → get_or (slice_set xs (first + k) v) (first + j) d ≡ f j
row_more f xs first k d v within done own j below = elim (cases_eq j k) [
  | inl e ↦ ap (λ n. get_or (slice_set xs (first + k) v) (first + n) d) e ∙ get_or-set_same xs (first + k) v d within ∙ own ∙ sym (ap f e)
  | inr ne ↦
      let other : first + j ≢ first + k = omega (arith, ne) in
      get_or-set_other xs (first + k) (first + j) v d other ∙ done j (omega (arith, ne))
]

-- one place more of a row is as it should be, where nothing is written
pub row_passed : {X : Type 0} (f : ℕ → X) (xs : List X) (first k : ℕ) (d : X) → ((j : ℕ) → j < k → get_or xs (first + j) d ≡ f j) → get_or xs (first + k) d ≡ f k
    → (j : ℕ) → j < k + 1 → get_or xs (first + j) d ≡ f j
row_passed f xs first k d done own j below = elim (cases_eq j k) [
  | inl e ↦ ap (λ n. get_or xs (first + n) d) e ∙ own ∙ sym (ap f e)
  | inr ne ↦ done j (omega (arith, ne))
]

-- the places ahead of one that is written stay
pub ahead_stay : {X : Type 0} (xs ys : List X) (place : ℕ) (d v : X) → ((n : ℕ) → place ≤ n → get_or xs n d ≡ get_or ys n d)
    → (n : ℕ) → place + 1 ≤ n → get_or (slice_set xs place v) n d ≡ get_or ys n d
ahead_stay xs ys place d v same n above =
    let other : n ≢ place = omega arith in
    get_or-set_other xs place n v d other ∙ same n (omega arith)

pub others_stay : {X : Type 0} (xs ys : List X) (first k : ℕ) (d v : X) → ((n : ℕ) → n < first → get_or xs n d ≡ get_or ys n d)
    → (n : ℕ) → n < first → get_or (slice_set xs (first + k) v) n d ≡ get_or ys n d
others_stay xs ys first k d v same n below =
    let other : n ≢ first + k = omega arith in
    get_or-set_other xs (first + k) n v d other ∙ same n below

-- a place of a row stands within the rows
pub place_within : (rows width row k : ℕ) → row < rows → k < width → row * width + k < rows * width
place_within rows width row k r l = let e = mul-add-lt row width k rows r l in omega (arith, e)

-- the places of a row stand before those of the next
pub place_before : (width row k next : ℕ) → row < next → k < width → row * width + k < next * width
place_before width row k next r l = place_within next width row k r l

-- the places of one row more are as they should be, and those before it stay
pub rows_more : {X : Type 0} (f : ℕ → ℕ → X) (now next : List X) (width row : ℕ) (d : X)
    → ((r k : ℕ) → r < row → k < width → get_or now (r * width + k) d ≡ f r k)
    → ((k : ℕ) → k < width → get_or next (row * width + k) d ≡ f row k)
    → ((n : ℕ) → n < row * width → get_or next n d ≡ get_or now n d)
    → (r k : ℕ) → r < row + 1 → k < width → get_or next (r * width + k) d ≡ f r k
rows_more f now next width row d done here stay r k below l = elim (cases_eq r row) [
  | inl e ↦ subst (λ n. get_or next (n * width + k) d ≡ f n k) (sym e) (here k l)
  | inr ne ↦
      let before : r < row = omega (arith, ne) in
      stay (r * width + k) (place_before width r k row before l) ∙ done r k before l
]

-- once f n is written at n, all places up to n are done
pub written : {X : Type 0} (f : ℕ → X) (xs : List X) (n : ℕ) (d v : X) → n < length xs → ((k : ℕ) → k < n → get_or xs k d ≡ f k) → v ≡ f n
    → (k : ℕ) → k < n + 1 → get_or (slice_set xs n v) k d ≡ f k
written f xs n d v l done e k below = ap (λ w. get_or (slice_set xs n w) k d) e ∙ fill_by_more f xs n d l done k below
