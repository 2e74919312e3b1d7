-- A table that is filled one taker after the other.
use Rattle.std.proofs.Common.{◌≡◌, sym, ◌∙◌, ap, cond, ltb, eqb, ℕ, ◌+◌, ◌*◌, ◌<◌, arith, List, [], ◌∷◌, ◌++◌, get_or, set, replicate, Option, Some, None, inl, inr, add-one}
use Rattle.std.proofs.lemmas.Bool.{cond-true, cond-false, lt-ltb, le-ltb, eq-eqb, ne_eqb, cases_eq, cases_order}
use Rattle.std.proofs.lemmas.List.{get_or-replicate, length-replicate, length-set, get_or-set_same, get_or-set_other}
use Rattle.std.proofs.lemmas.Nat.{mul-add-lt, same_from_place}
use Rattle.cpl_strip.specs.Tables.{given, gifts, done, IsFilled}
use Rattle.cpl_strip.proofs.Picks.{pick_none, pick_some}

-- how many are done of the pieces before, of the piece itself and of those after
pub done_before : (counts : ℕ → ℕ) (to m t : ℕ) → t < to → done counts to m t ≡ counts t
done_before counts to m t before = cond-true {A = ℕ} (ltb t to) (counts t) (cond (eqb t to) m 0) (lt-ltb t to before)

pub done_here : (counts : ℕ → ℕ) (to m t : ℕ) → t ≡ to → done counts to m t ≡ m
done_here counts to m t same =
    cond-false {A = ℕ} (ltb t to) (counts t) (cond (eqb t to) m 0) (le-ltb t to (omega arith)) ∙ cond-true {A = ℕ} (eqb t to) m 0 (eq-eqb t to same)

pub done_after : (counts : ℕ → ℕ) (to m t : ℕ) → to < t → done counts to m t ≡ 0
done_after counts to m t after =
    cond-false {A = ℕ} (ltb t to) (counts t) (cond (eqb t to) m 0) (le-ltb t to (omega arith)) ∙ cond-false {A = ℕ} (eqb t to) m 0 (ne_eqb t to (λ e. omega arith))

-- one taker more changes nothing for the other pieces
done_other : (counts : ℕ → ℕ) (to m t : ℕ) → (t ≡ to → ⊥) → done counts to (m + 1) t ≡ done counts to m t
done_other counts to m t other = elim (cases_order t to) [
  | inl same ↦ absurd (other same)
  | inr (inl before) ↦ done_before counts to (m + 1) t before ∙ sym (done_before counts to m t before)
  | inr (inr after) ↦ done_after counts to (m + 1) t after ∙ sym (done_after counts to m t after)
]

done_none : (counts : ℕ → ℕ) (t : ℕ) → done counts 0 0 t ≡ 0
done_none counts t = elim (cases_eq t 0) [
  | inl same ↦ done_here counts 0 0 t same
  | inr other ↦ done_after counts 0 0 t (omega arith)
]

-- a piece whose takers are all done, seen from the next
done_next : (counts : ℕ → ℕ) (to t : ℕ) → done counts (to + 1) 0 t ≡ done counts to (counts to) t
done_next counts to t = elim (cases_order t to) [
  | inl same ↦ done_before counts (to + 1) 0 t (omega arith) ∙ ap counts same ∙ sym (done_here counts to (counts to) t same)
  | inr (inl before) ↦ done_before counts (to + 1) 0 t (omega arith) ∙ sym (done_before counts to (counts to) t before)
  | inr (inr after) ↦ elim (cases_eq t (to + 1)) [
    | inl next ↦ done_here counts (to + 1) 0 t next ∙ sym (done_after counts to (counts to) t after)
    | inr later ↦ done_after counts (to + 1) 0 t (omega arith) ∙ sym (done_after counts to (counts to) t after)
  ]
]

-- nothing is done at first
pub filled_none : {T : Type 0} (taken : ℕ → ℕ → Option (ℕ × T)) (counts : ℕ → ℕ) (pieces : ℕ) → IsFilled taken counts pieces 0 0 (replicate (pieces * pieces) [])
filled_none {T = T} taken counts pieces = record {
  size = length-replicate (pieces * pieces) [];
  each = λ from t from_below t_below.
      get_or-replicate (pieces * pieces) (from * pieces + t) [] [] (mul-add-lt from pieces t pieces from_below t_below)
      ∙ ap (λ k. gifts taken from t k) (sym (done_none counts t));
}

-- a piece is done, and the next begins
pub filled_next : {T : Type 0} (taken : ℕ → ℕ → Option (ℕ × T)) (counts : ℕ → ℕ) (pieces to m : ℕ) (table : List (List T)) → m ≡ counts to → IsFilled taken counts pieces to m table → IsFilled taken counts pieces (to + 1) 0 table
filled_next taken counts pieces to m table all is = record {
  size = is.size;
  each = λ from t from_below t_below.
      is.each from t from_below t_below
      ∙ ap (λ n. gifts taken from t (done counts to n t)) all
      ∙ ap (λ k. gifts taken from t k) (sym (done_next counts to t));
}

-- in the end all takers are done
pub filled_all : {T : Type 0} (taken : ℕ → ℕ → Option (ℕ × T)) (counts : ℕ → ℕ) (pieces from t : ℕ) (table : List (List T)) → IsFilled taken counts pieces pieces 0 table → from < pieces → t < pieces → get_or table (from * pieces + t) [] ≡ gifts taken from t (counts t)
filled_all taken counts pieces from t table is from_below t_below =
    is.each from t from_below t_below ∙ ap (λ k. gifts taken from t k) (done_before counts pieces 0 t t_below)

gift_none : {T : Type 0} (taken : ℕ → ℕ → Option (ℕ × T)) (from t m : ℕ) → given from (taken t m) ≡ None → gifts taken from t (m + 1) ≡ gifts taken from t m
gift_none taken from t m none = ap (λ k. gifts taken from t k) (add-one m) ∙ pick_none (λ k. given from (taken t k)) m none

gift_some : {T : Type 0} (taken : ℕ → ℕ → Option (ℕ × T)) (from t m : ℕ) (x : T) → given from (taken t m) ≡ Some x → gifts taken from t (m + 1) ≡ gifts taken from t m ++ x ∷ []
gift_some taken from t m x some = ap (λ k. gifts taken from t k) (add-one m) ∙ pick_some (λ k. given from (taken t k)) m x some

given_own : {T : Type 0} (f from : ℕ) (x : T) → f ≡ from → given from (Some (f, x)) ≡ Some x
given_own f from x own = cond-true (eqb f from) (Some x) None (eq-eqb f from own)

given_other : {T : Type 0} (f from : ℕ) (x : T) → (f ≡ from → ⊥) → given from (Some (f, x)) ≡ None
given_other f from x other = cond-false (eqb f from) (Some x) None (ne_eqb f from other)

-- the list of a pair after one taker more of its piece, which takes nothing from the other piece, or something
kept : {T : Type 0} (taken : ℕ → ℕ → Option (ℕ × T)) (counts : ℕ → ℕ) (from to m t : ℕ) → given from (taken t m) ≡ None → t ≡ to → gifts taken from t (done counts to m t) ≡ gifts taken from t (done counts to (m + 1) t)
kept taken counts from to m t none same =
    ap (λ k. gifts taken from t k) (done_here counts to m t same)
    ∙ sym (gift_none taken from t m none)
    ∙ ap (λ k. gifts taken from t k) (sym (done_here counts to (m + 1) t same))

gained : {T : Type 0} (taken : ℕ → ℕ → Option (ℕ × T)) (counts : ℕ → ℕ) (from to m t : ℕ) (x : T) → given from (taken t m) ≡ Some x → t ≡ to → gifts taken from t (done counts to m t) ++ x ∷ [] ≡ gifts taken from t (done counts to (m + 1) t)
gained taken counts from to m t x some same =
    ap (λ k. gifts taken from t k ++ x ∷ []) (done_here counts to m t same)
    ∙ sym (gift_some taken from t m x some)
    ∙ ap (λ k. gifts taken from t k) (sym (done_here counts to (m + 1) t same))

-- one taker more, which takes nothing
pub filled_skip : {T : Type 0} (taken : ℕ → ℕ → Option (ℕ × T)) (counts : ℕ → ℕ) (pieces to m : ℕ) (table : List (List T)) → taken to m ≡ None → IsFilled taken counts pieces to m table → IsFilled taken counts pieces to (m + 1) table
filled_skip taken counts pieces to m table none is = record {
  size = is.size;
  each = λ from t from_below t_below. elim (cases_eq t to) [
    | inl same ↦ is.each from t from_below t_below ∙ kept taken counts from to m t (ap (λ n. given from (taken n m)) same ∙ ap (given from) none) same
    | inr other ↦ is.each from t from_below t_below ∙ ap (λ k. gifts taken from t k) (sym (done_other counts to m t other))
  ];
}

-- one taker more, which takes something from a piece
pub filled_add : {T : Type 0} (taken : ℕ → ℕ → Option (ℕ × T)) (counts : ℕ → ℕ) (pieces to m f : ℕ) (x : T) (table : List (List T)) → taken to m ≡ Some (f, x) → f < pieces → to < pieces → IsFilled taken counts pieces to m table
    → IsFilled taken counts pieces to (m + 1) (set table (f * pieces + to) (get_or table (f * pieces + to) [] ++ x ∷ []))
filled_add taken counts pieces to m f x table some f_below to_below is = record {
  size = length-set table (f * pieces + to) (get_or table (f * pieces + to) [] ++ x ∷ []) ∙ is.size;
  each = λ from t from_below t_below. elim (cases_eq t to) [
    | inr other ↦
        get_or-set_other table (f * pieces + to) (from * pieces + t) (get_or table (f * pieces + to) [] ++ x ∷ []) [] (λ e. other (same_from_place from t f to pieces t_below to_below e).1)
        ∙ is.each from t from_below t_below
        ∙ ap (λ k. gifts taken from t k) (sym (done_other counts to m t other))
    | inl same ↦ elim (cases_eq f from) [
      | inr other ↦
          get_or-set_other table (f * pieces + to) (from * pieces + t) (get_or table (f * pieces + to) [] ++ x ∷ []) [] (λ e. other (sym (same_from_place from t f to pieces t_below to_below e).0))
          ∙ is.each from t from_below t_below
          ∙ kept taken counts from to m t (ap (λ n. given from (taken n m)) same ∙ ap (given from) some ∙ given_other f from x other) same
      | inl own ↦
          ap (λ n. get_or (set table (f * pieces + to) (get_or table (f * pieces + to) [] ++ x ∷ [])) n []) (λ s. sym own s * pieces + same s)
          ∙ get_or-set_same table (f * pieces + to) (get_or table (f * pieces + to) [] ++ x ∷ []) [] (let fits = mul-add-lt f pieces to pieces f_below to_below in let size = is.size in omega arith)
          ∙ ap (λ l. l ++ x ∷ []) (ap (λ n. get_or table n []) (λ s. own s * pieces + sym same s) ∙ is.each from t from_below t_below)
          ∙ gained taken counts from to m t x (ap (λ n. given from (taken n m)) same ∙ ap (given from) some ∙ given_own f from x own) same
    ]
  ];
}
