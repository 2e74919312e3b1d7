-- The strips made of a filled table: which pair of pieces each is of, and which taker each item is for.
use Rattle.std.proofs.Common.{◌≡◌, refl, sym, ◌∙◌, ap, subst, eqb, ℕ, ◌+◌, ◌*◌, ◌<◌, ◌≤◌, arith, List, [], ◌∷◌, length, get_or, Option, Some, None, inl, inr, ◌⊎◌}
use Rattle.std.specs.Prelude.{◌/◌, ◌%◌}
use Rattle.std.proofs.lemmas.Bool.{cond-true, cond-false, eqb-true, eq-eqb, cases_Bool, cases_order}
use Rattle.std.proofs.lemmas.Nat.{div-add-mod', div_below, mod_below, mul-add-lt, mul-le}
use Rattle.cpl_layout.specs.Layouts.{Cuts, IsLayout}
use Rattle.cpl_layout.specs.Pieces.{pieces_of}
use Rattle.cpl_strip.specs.Tables.{picks, given, gifts, IsFilled, if_some, made_at}
use Rattle.cpl_strip.proofs.Picks.{source, comes_from, source_order, picked}
use Rattle.cpl_strip.proofs.Filled.{filled_all}

-- a pair of pieces by its number
pub record IsPair (pieces n : ℕ) : Type 0 where
  pub from : n / pieces < pieces
  pub to : n % pieces < pieces
  pub number : n / pieces * pieces + n % pieces ≡ n

pub is_pair : (pieces n : ℕ) → 1 ≤ pieces → n < pieces * pieces → IsPair pieces n
is_pair pieces n some below = record {
  from = div_below n pieces pieces some below;
  to = mod_below n pieces some;
  number = div-add-mod' n pieces;
}

later : (a b w r q : ℕ) → a < b → r < w → b * w + q ≤ a * w + r → ⊥
later a b w r q order rest le =
    let more = mul-add-lt a w r b order rest in
    omega arith

-- pairs with greater numbers come later: by from, then to
pub pairs_order : (pieces m n : ℕ) → 1 ≤ pieces → m < n → (m / pieces < n / pieces) ⊎ ((m / pieces ≡ n / pieces) × (m % pieces < n % pieces))
pairs_order pieces m n some order =
    let first = div-add-mod' m pieces in
    let second = div-add-mod' n pieces in
    let first_rest = mod_below m pieces some in
    elim (cases_order (m / pieces) (n / pieces)) [
      | inl same ↦ let rows : m / pieces * pieces ≡ n / pieces * pieces = ap (λ k. k * pieces) same in inr (same, omega arith)
      | inr (inl before) ↦ inl before
      | inr (inr after) ↦ absurd (later (n / pieces) (m / pieces) pieces (n % pieces) (m % pieces) after (mod_below n pieces some) (omega arith))
    ]

-- pairs are one where both pieces are
pub same_pair : (pieces m n : ℕ) → m / pieces ≡ n / pieces → m % pieces ≡ n % pieces → m ≡ n
same_pair pieces m n from to = sym (div-add-mod' m pieces) ∙ (λ s. from s * pieces + to s) ∙ div-add-mod' n pieces

-- what is given by a piece is taken from it
given_from : {T : Type 0} (from : ℕ) (taken : Option (ℕ × T)) (x : T) → given from taken ≡ Some x → taken ≡ Some (from, x)
given_from from None x some = absurd (cc)
given_from from (Some (f, y)) x some = elim (cases_Bool (eqb f from)) [
  | inl own ↦
      let same : y ≡ x = let first = cond-true (eqb f from) (Some y) None own in cc in
      let from_is = eqb-true f from own in
      λ s. Some (from_is s, same s)
  | inr other ↦ absurd (let none = cond-false (eqb f from) (Some y) None other in cc)
]

taken_is : {T : Type 0} (from : ℕ) (taken : Option (ℕ × T)) (x : T) → taken ≡ Some (from, x) → given from taken ≡ Some x
taken_is from taken x some = ap (given from) some ∙ cond-true (eqb from from) (Some x) None (eq-eqb from from refl)

-- The items of a pair in the table: the taker of each, in order.
pub record Given {T : Type 0} (taken : ℕ → ℕ → Option (ℕ × T)) (counts : ℕ → ℕ) (pieces : ℕ) (table : List (List T)) : Type 0 where
  pub which : ℕ → ℕ → ℕ
  pub is : (n k : ℕ) (d : T) → n < pieces * pieces → k < length (get_or table n []) → (which n k < counts (n % pieces)) × (taken (n % pieces) (which n k) ≡ Some (n / pieces, get_or (get_or table n []) k d))
  pub order : (n k l : ℕ) → n < pieces * pieces → k < l → l < length (get_or table n []) → which n k < which n l
  pub found : (n m : ℕ) (x : T) → n < pieces * pieces → m < counts (n % pieces) → taken (n % pieces) m ≡ Some (n / pieces, x) → (k : ℕ) × (k < length (get_or table n [])) × (which n k ≡ m)

-- what a pair's list holds
pub holds : {T : Type 0} (taken : ℕ → ℕ → Option (ℕ × T)) (counts : ℕ → ℕ) (pieces : ℕ) (table : List (List T)) (n : ℕ) → 1 ≤ pieces → IsFilled taken counts pieces pieces 0 table → n < pieces * pieces → get_or table n [] ≡ gifts taken (n / pieces) (n % pieces) (counts (n % pieces))
holds taken counts pieces table n some is below =
    let pair = is_pair pieces n some below in
    ap (λ k. get_or table k []) (sym pair.number) ∙ filled_all taken counts pieces (n / pieces) (n % pieces) table is pair.from pair.to

pub given_items : {T : Type 0} (taken : ℕ → ℕ → Option (ℕ × T)) (counts : ℕ → ℕ) (pieces : ℕ) (table : List (List T)) → 1 ≤ pieces → IsFilled taken counts pieces pieces 0 table → Given taken counts pieces table
given_items {T = T} taken counts pieces table some is = record {
  which = λ n k. source (λ m. given (n / pieces) (taken (n % pieces) m)) (counts (n % pieces)) k;
  is = λ n k d below within.
      let list = holds taken counts pieces table n some is below in
      let inside = subst (λ (l : List T). k < length l) list within in
      let from = comes_from (λ m. given (n / pieces) (taken (n % pieces) m)) (counts (n % pieces)) k inside in
      (from.below, given_from (n / pieces) _ _ (from.is d) ∙ ap (λ l. Some (n / pieces, get_or l k d)) (sym list));
  order = λ n k l below order within.
      source_order (λ m. given (n / pieces) (taken (n % pieces) m)) (counts (n % pieces)) k l order (subst (λ (xs : List T). l < length xs) (holds taken counts pieces table n some is below) within);
  found = λ n m x below count taken_m.
      let at = picked (λ m. given (n / pieces) (taken (n % pieces) m)) (counts (n % pieces)) m x count (taken_is (n / pieces) (taken (n % pieces) m) x taken_m) in
      (at.0, subst (λ (xs : List T). at.0 < length xs) (sym (holds taken counts pieces table n some is below)) at.1, at.2);
}

-- The strips made of a table: the pair of each, in order.
pub record Bundled {T R : Type 0} (made : ℕ → ℕ → List T → R) (pieces : ℕ) (table : List (List T)) (strips : List R) : Type 0 where
  pub pair : ℕ → ℕ
  pub below : (n : ℕ) → n < length strips → pair n < pieces * pieces
  pub is : (n : ℕ) (d : R) → n < length strips → get_or strips n d ≡ made (pair n / pieces) (pair n % pieces) (get_or table (pair n) [])
  pub some : (n : ℕ) → n < length strips → 1 ≤ length (get_or table (pair n) [])
  pub order : (m n : ℕ) → m < n → n < length strips → pair m < pair n
  pub found : (p : ℕ) → p < pieces * pieces → 1 ≤ length (get_or table p []) → (n : ℕ) × (n < length strips) × (pair n ≡ p)

made_some : {T R : Type 0} (made : List T → R) (xs : List T) (r : R) → if_some made xs ≡ Some r → (1 ≤ length xs) × (r ≡ made xs)
made_some made [] r some = absurd (cc)
made_some made (x ∷ xs) r some = (omega arith, cc)

some_made : {T R : Type 0} (made : List T → R) (xs : List T) → 1 ≤ length xs → if_some made xs ≡ Some (made xs)
some_made made [] some = absurd (omega arith)
some_made made (x ∷ xs) some = refl

pub bundled : {T R : Type 0} (made : ℕ → ℕ → List T → R) (pieces : ℕ) (table : List (List T)) (d : R) → Bundled made pieces table (picks (made_at made pieces table) (pieces * pieces))
bundled made pieces table e = record {
  pair = λ n. source (made_at made pieces table) (pieces * pieces) n;
  below = λ n within. (comes_from (made_at made pieces table) (pieces * pieces) n within).below;
  is = λ n d within. (made_some (made (source (made_at made pieces table) (pieces * pieces) n / pieces) (source (made_at made pieces table) (pieces * pieces) n % pieces)) _ _ ((comes_from (made_at made pieces table) (pieces * pieces) n within).is d)).1;
  some = λ n within. (made_some (made (source (made_at made pieces table) (pieces * pieces) n / pieces) (source (made_at made pieces table) (pieces * pieces) n % pieces)) _ _ ((comes_from (made_at made pieces table) (pieces * pieces) n within).is e)).0;
  order = λ m n order within. source_order (made_at made pieces table) (pieces * pieces) m n order within;
  found = λ p below some. picked (made_at made pieces table) (pieces * pieces) p (made (p / pieces) (p % pieces) (get_or table p [])) below (some_made (made (p / pieces) (p % pieces)) (get_or table p []) some);
}

-- what is taken, in its parts
pub some_same : {X : Type 0} {x y : X} → Some x ≡ Some y → x ≡ y
some_same e = cc

pub first_same : {T : Type 0} {p q : ℕ × T} → Some p ≡ Some q → p.0 ≡ q.0
first_same {T = T} e = ap (λ (q : ℕ × T). q.0) (some_same e)

pub second_same : {T : Type 0} {p q : ℕ × T} → Some p ≡ Some q → p.1 ≡ q.1
second_same {T = T} e = ap (λ (q : ℕ × T). q.1) (some_same e)

-- where numbers rise with places, places with one number are one
pub same_by_order : (number : ℕ → ℕ) (i j size : ℕ) → ((k l : ℕ) → k < l → l < size → number k < number l) → i < size → j < size → number i ≡ number j → i ≡ j
same_by_order number i j size rises first second same = elim (cases_order i j) [
  | inl is ↦ is
  | inr (inl before) ↦ let less = rises i j before second in absurd (omega arith)
  | inr (inr after) ↦ let less = rises j i after first in absurd (omega arith)
]

-- a layout has a piece
pub some_pieces : (layout : Cuts) → IsLayout layout → 1 ≤ pieces_of layout
some_pieces layout is =
    let tiles = is.sizes.least in
    let columns = mul-le 1 1 (length layout.tiles) layout.px tiles is.columns in
    let all = mul-le 1 1 (length layout.tiles * layout.px) layout.py (omega arith) is.rows in
    omega arith
