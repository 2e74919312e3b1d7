-- Elements of lists: what a test over a list says of them, and what a map makes of them.
use Rattle.std.proofs.Common.{◌≡◌, refl, sym, ◌∙◌, ap, Bool, true, false, zero, suc, arith, List, [], ◌∷◌, map, Some, None, inl, inr, ◌⊎◌}
use Rattle.std.specs.List.{list_any, find, Contains}
use Rattle.std.proofs.lemmas.Bool.{false_from_ne_true, both_ways, cases_Bool, cond-true, cond-false}
use Rattle.std.proofs.lemmas.List.Elements.{Contains-append_right}
use Rattle.std.proofs.lemmas.List.Folds.{list_any-from_Any}

-- the empty list has no element
pub no_element : {X : Type 0} (x : X) → Contains [] x → ⊥
no_element x is = let h = is.1 in omega arith

-- an element is the first, or one of the rest
pub Contains-cases : {X : Type 0} (y : X) (ys : List X) (x : X) → Contains (y ∷ ys) x → (y ≡ x) ⊎ Contains ys x
Contains-cases y ys x (zero, within, same) = inl same
Contains-cases y ys x (suc k, within, same) = inr (k, omega arith, same)

pub Contains-first : {X : Type 0} (x : X) (xs : List X) → Contains (x ∷ xs) x
Contains-first x xs = (0, omega arith, refl)

pub Contains-rest : {X : Type 0} (y : X) (xs : List X) (x : X) → Contains xs x → Contains (y ∷ xs) x
Contains-rest y xs x is = Contains-append_right (y ∷ []) xs x is

-- where no element passes a test, each fails it
pub none_passes : {X : Type 0} (p : X → Bool) (xs : List X) (x : X) → list_any p xs ≡ false → Contains xs x → p x ≡ false
none_passes p xs x none is = false_from_ne_true (p x) (λ e. both_ways (list_any p xs) none (list_any-from_Any p xs (is.0, x, is.1, is.2, e)))

-- what `find` gives is an element that passes
pub found : {X : Type 0} (p : X → Bool) (xs : List X) (x : X) → find p xs ≡ Some x → Contains xs x × (p x ≡ true)
found p [] x e = absurd (cc)
found p (y ∷ ys) x e = elim (cases_Bool (p y)) [
  | inl passes ↦
      let same : y ≡ x = let first = cond-true (p y) (Some y) (find p ys) passes in cc in
      rw (← same) (Contains-first y ys, passes)
  | inr fails ↦
      let later = found p ys x (sym (cond-false (p y) (Some y) (find p ys) fails) ∙ e) in
      (Contains-rest y ys x later.0, later.1)
]

-- where `find` gives none, each element fails
pub not_found : {X : Type 0} (p : X → Bool) (xs : List X) (x : X) → find p xs ≡ None → Contains xs x → p x ≡ false
not_found p [] x e is = absurd (no_element x is)
not_found p (y ∷ ys) x e is = elim (cases_Bool (p y)) [
  | inl passes ↦ absurd (let first = cond-true (p y) (Some y) (find p ys) passes in cc)
  | inr fails ↦ elim (Contains-cases y ys x is) [
    | inl same ↦ rw same at fails
    | inr rest ↦ not_found p ys x (sym (cond-false (p y) (Some y) (find p ys) fails) ∙ e) rest
  ]
]

-- the elements of a map
pub Contains-map : {X Y : Type 0} (f : X → Y) (xs : List X) (x : X) → Contains xs x → Contains (map f xs) (f x)
Contains-map f [] x is = absurd (no_element x is)
Contains-map f (y ∷ ys) x is = elim (Contains-cases y ys x is) [
  | inl same ↦ rw (← ap f same) (Contains-first (f y) (map f ys))
  | inr rest ↦ Contains-rest (f y) (map f ys) (f x) (Contains-map f ys x rest)
]

pub Contains-from_map : {X Y : Type 0} (f : X → Y) (xs : List X) (y : Y) → Contains (map f xs) y → (x : X) × Contains xs x × (f x ≡ y)
Contains-from_map f [] y is = absurd (no_element y is)
Contains-from_map f (x ∷ xs) y is = elim (Contains-cases (f x) (map f xs) y is) [
  | inl same ↦ (x, Contains-first x xs, same)
  | inr rest ↦ let later = Contains-from_map f xs y rest in (later.0, Contains-rest x xs later.0 later.1, later.2)
]
