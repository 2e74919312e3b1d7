-- Tables that are stored part by part: entries stand within them, each at a place of its own.
use Rattle.std.proofs.Common.{◌≡◌, ◌≢◌, ◌∙◌, sym, ap, subst, ℕ, ◌+◌, ◌*◌, ◌<◌, ◌≤◌, arith, List, length, inl, inr, get_or, get_or-set_same, get_or-set_other, slice_set}
use Rattle.std.proofs.lemmas.Bool.{cases_eq, cases_lt}
use Rattle.std.proofs.lemmas.Nat.{mul-add-lt}
use Rattle.cpl_fast.specs.Places.{place_in}

-- an entry stands in its table
pub entry_within : (count width n k : ℕ) → n < count → k < width → place_in count n k < count * width
entry_within count width n k l h = mul-add-lt k count n width h l

-- the entries of a part stand before those of the next
pub parts_apart : (count n m j k : ℕ) → n < count → j < k → place_in count n j < place_in count m k
parts_apart count n m j k l h = let e = mul-add-lt j count n k h l in omega (arith, e)

-- each entry stands at a place of its own
pub places_differ : (count n m j k : ℕ) → n < count → m < count → place_in count n j ≡ place_in count m k → (n ≡ m) × (j ≡ k)
places_differ count n m j k l h e = elim (cases_lt j k) [
  | inl less ↦ absurd (let p = parts_apart count n m j k l less in omega (arith, p, e))
  | inr most ↦ elim (cases_lt k j) [
    | inl less ↦ absurd (let p = parts_apart count m n k j h less in omega (arith, p, e))
    | inr least ↦
        let same : j ≡ k = omega (arith, most, least) in
        let product = ap (λ (i : ℕ). i * count) same in
        (omega (arith, e, product), same)
  ]
]

-- one entry more of an item is as it should be
pub entry_more_by : {X : Type 0} (P : ℕ → X → Type 0) (xs : List X) (count n k : ℕ) (d : X) → ((j : ℕ) → j < k → P j (get_or xs (place_in count n j) d)) → P k (get_or xs (place_in count n k) d)
    → (j : ℕ) → j < k + 1 → P j (get_or xs (place_in count n j) d)
entry_more_by P xs count n k d done own j below = elim (cases_eq j k) [
  | inl e ↦ subst (λ i. P i (get_or xs (place_in count n i) d)) (sym e) own
  | inr ne ↦ done j (omega (arith, ne))
]

-- one entry more of an item is written
pub entry_set_by : {X : Type 0} (P : ℕ → X → Type 0) (xs : List X) (count n k : ℕ) (d v : X) → n < count → place_in count n k < length xs → ((j : ℕ) → j < k → P j (get_or xs (place_in count n j) d)) → P k v
    → (j : ℕ) → j < k + 1 → P j (get_or (slice_set xs (place_in count n k) v) (place_in count n j) d)
entry_set_by P xs count n k d v l within done own =
    entry_more_by P (slice_set xs (place_in count n k) v) count n k d
    (λ j below. (
    let apart = parts_apart count n n j k l below in
    let other : place_in count n j ≢ place_in count n k = omega (arith, apart) in
    subst (P j) (sym (get_or-set_other xs (place_in count n k) (place_in count n j) v d other)) (done j below)))
    (subst (P k) (sym (get_or-set_same xs (place_in count n k) v d within)) own)

-- those behind it stay
pub ahead_stays : {X : Type 0} (xs ys : List X) (count n k : ℕ) (d v : X) → n < count → ((j : ℕ) → k ≤ j → get_or xs (place_in count n j) d ≡ get_or ys (place_in count n j) d)
    → (j : ℕ) → k + 1 ≤ j → get_or (slice_set xs (place_in count n k) v) (place_in count n j) d ≡ get_or ys (place_in count n j) d
ahead_stays xs ys count n k d v l same j above =
    let apart = parts_apart count n n k j l (omega arith) in
    let other : place_in count n j ≢ place_in count n k = omega (arith, apart) in
    get_or-set_other xs (place_in count n k) (place_in count n j) v d other ∙ same j (omega arith)

-- and so do those of other items
pub others_stand : {X : Type 0} (xs ys : List X) (count n k : ℕ) (d v : X) → n < count → ((m j : ℕ) → m < count → m ≢ n → get_or xs (place_in count m j) d ≡ get_or ys (place_in count m j) d)
    → (m j : ℕ) → m < count → m ≢ n → get_or (slice_set xs (place_in count n k) v) (place_in count m j) d ≡ get_or ys (place_in count m j) d
others_stand xs ys count n k d v l same m j h ne =
    get_or-set_other xs (place_in count n k) (place_in count m j) v d (λ e. ne (places_differ count m n j k h l e).0) ∙ same m j h ne

-- the entries of one item more are as they should be, where those of other items stand
pub items_more_by : {X : Type 0} (P : ℕ → ℕ → X → Type 0) (now next : List X) (count width n : ℕ) (d : X) → n < count
    → ((m k : ℕ) → m < n → k < width → P m k (get_or now (place_in count m k) d))
    → ((k : ℕ) → k < width → P n k (get_or next (place_in count n k) d))
    → ((m k : ℕ) → m < count → m ≢ n → get_or next (place_in count m k) d ≡ get_or now (place_in count m k) d)
    → (m k : ℕ) → m < n + 1 → k < width → P m k (get_or next (place_in count m k) d)
items_more_by P now next count width n d l done here stay m k below h = elim (cases_eq m n) [
  | inl e ↦ subst (λ i. P i k (get_or next (place_in count i k) d)) (sym e) (here k h)
  | inr ne ↦
      let before : m < n = omega (arith, ne) in
      subst (P m k) (sym (stay m k (omega (arith, before, l)) ne)) (done m k before h)
]
