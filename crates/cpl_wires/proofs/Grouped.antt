-- Items in groups by numbers: a group has the numbers of the items that pass a test where an item's number is the group's exactly if it
-- passes.
use Rattle.std.proofs.Common.{◌≡◌, ◌∙◌, refl, sym, ℕ, suc, ◌+◌, ◌*◌, ◌<◌, ◌&&◌, arith, inl, inr, Bool, List, [], ◌∷◌, get_or, eqb}
use Rattle.std.specs.Prelude.{All, map}
use Rattle.std.proofs.lemmas.Bool.{cases_eq, eq-eqb, ne_eqb, and_left, and_right, and_from}
use Rattle.std.proofs.lemmas.List.FromFn.{get_or-map-range_with_len}
use Rattle.cpl_xgrid.specs.Groups.{numbers_from, by_key, places_of}

-- the same numbers pass, where an item passes as what stands for it does
pub numbers_same : {S T : Type 0} (p : T → Bool) (q : S → Bool) (f : T → S) (n : ℕ) (items : List T)
    → All (λ item. p item ≡ q (f item)) items → numbers_from p n items ≡ numbers_from q n (map f items)
numbers_same p q f n [] each = refl
numbers_same p q f n (item ∷ items) each =
    let first : p item ≡ q (f item) = each 0 item (omega arith) in
    let rest = numbers_same p q f (n + 1) items (λ k d h. each (suc k) d (omega arith)) in cc

-- a pair of numbers, the second below a width, as one
pub pair_eq : (a b x y : ℕ) → b < 64 → y < 64 → (eqb a x && eqb b y) ≡ eqb (a * 64 + b) (x * 64 + y)
pair_eq a b x y l h = elim (cases_eq a x) [
  | inl same ↦ elim (cases_eq b y) [
    | inl other ↦ and_from (eqb a x) (eqb b y) (eq-eqb a x same) (eq-eqb b y other) ∙ sym (eq-eqb (a * 64 + b) (x * 64 + y) (omega arith))
    | inr other ↦ and_right (eqb a x) (eqb b y) (ne_eqb b y other) ∙ sym (ne_eqb (a * 64 + b) (x * 64 + y) (λ e. other (omega arith)))
  ]
  | inr other ↦ and_left (eqb a x) (eqb b y) (ne_eqb a x other) ∙ sym (ne_eqb (a * 64 + b) (x * 64 + y) (λ e. other (omega arith)))
]

pub end_eq : (a b x y : ℕ) → b < 16 → y < 16 → (eqb b y && eqb a x) ≡ eqb (a * 16 + b) (x * 16 + y)
end_eq a b x y l h = elim (cases_eq a x) [
  | inl same ↦ elim (cases_eq b y) [
    | inl other ↦ and_from (eqb b y) (eqb a x) (eq-eqb b y other) (eq-eqb a x same) ∙ sym (eq-eqb (a * 16 + b) (x * 16 + y) (omega arith))
    | inr other ↦ and_left (eqb b y) (eqb a x) (ne_eqb b y other) ∙ sym (ne_eqb (a * 16 + b) (x * 16 + y) (λ e. other (omega arith)))
  ]
  | inr other ↦ and_right (eqb b y) (eqb a x) (ne_eqb a x other) ∙ sym (ne_eqb (a * 16 + b) (x * 16 + y) (λ e. other (omega arith)))
]

-- a number counted from another
pub shifted_eq : (base a x : ℕ) → eqb (base + a) (base + x) ≡ eqb a x
shifted_eq base a x = elim (cases_eq a x) [
  | inl same ↦ eq-eqb (base + a) (base + x) (omega arith) ∙ sym (eq-eqb a x same)
  | inr other ↦ ne_eqb (base + a) (base + x) (λ e. other (omega arith)) ∙ sym (ne_eqb a x other)
]

-- the group of a key
pub group_is : (count : ℕ) (keys : List ℕ) (key : ℕ) → key < count → get_or (by_key count keys) key [] ≡ places_of key keys
group_is count keys key l = get_or-map-range_with_len (λ k. places_of k keys) 0 count key key [] l (omega arith)

-- it has the numbers of the items that pass a test, where an item's key is this one exactly if it passes
pub group_of : {T : Type 0} (count : ℕ) (key_of : T → ℕ) (test : T → Bool) (items : List T) (key : ℕ) → key < count
    → All (λ item. test item ≡ eqb (key_of item) key) items → get_or (by_key count (map key_of items)) key [] ≡ numbers_from test 0 items
group_of count key_of test items key l each = group_is count (map key_of items) key l ∙ sym (numbers_same test (λ k. eqb k key) key_of 0 items each)
