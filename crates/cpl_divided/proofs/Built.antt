-- Lists that are built by one push after another.
use Rattle.std.proofs.Common.{◌≡◌, ◌∙◌, sym, ap, subst, ℕ, ◌+◌, ◌<◌, arith, inl, inr, List, [], ◌∷◌, ◌++◌, length, get_or}
use Rattle.std.proofs.lemmas.Bool.{cases_eq}
use Rattle.std.proofs.lemmas.List.{get_or_append_left, get_or_push, length_push}

-- a list of n items that are each as meant
pub record IsBuilt {X : Type 0} (P : ℕ → X → Type 0) (d : X) (n : ℕ) (xs : List X) : Type 0 where
  pub count : length xs ≡ n
  pub each : (k : ℕ) → k < n → P k (get_or xs k d)

pub built_none : {X : Type 0} (P : ℕ → X → Type 0) (d : X) (xs : List X) → xs ≡ [] → IsBuilt P d 0 xs
built_none {X} P d xs e = record { count = ap (λ (l : List X). length l) e; each = λ k l. absurd (omega arith) }

pub built_more : {X : Type 0} (P : ℕ → X → Type 0) (d : X) (n : ℕ) (xs new : List X) (x : X) → IsBuilt P d n xs → new ≡ xs ++ x ∷ [] → P n x → IsBuilt P d (n + 1) new
built_more {X} P d n xs new x is e here = record {
  count = ap (λ (l : List X). length l) e ∙ length_push xs x ∙ ap (λ m. m + 1) is.count;
  each = λ k l. elim (cases_eq k n) [
    | inl same ↦
        let Q : ℕ → Type 0 = λ m. P m (get_or new m d) in
        let last : get_or new n d ≡ x = ap (λ (l : List X). get_or l n d) e ∙ get_or_push xs x d n is.count in
        subst Q (sym same) (subst (P n) (sym last) here)
    | inr ne ↦
        let count = is.count in
        let kept : get_or new k d ≡ get_or xs k d = ap (λ (l : List X). get_or l k d) e ∙ get_or_append_left xs (x ∷ []) d k (omega arith) in
        subst (P k) (sym kept) (is.each k (omega arith))
  ];
}
