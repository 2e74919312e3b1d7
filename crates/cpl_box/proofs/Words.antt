-- The words of the edges, and counts by edge, after one of them was set.
use Rattle.std.proofs.Common.{◌≡◌, ◌≢◌, ℕ, zero, suc, ◌*◌, ◌<◌, ◌≤◌, List, [], ◌∷◌, length, set, refl, sym, ap, subst, ⊎_elim, arith, get_or-set_same, get_or-set_other}
use Rattle.std.specs.Prelude.{slice_index}
use Rattle.std.proofs.lemmas.Bool.{cases_eq}
use Rattle.cpl_box.specs.Rule.{word_of}

module _ (ws : List ℕ) (e n : ℕ) (room : 8 * e < length ws) where
  pub word_here : word_of (set ws (8 * e) n) e ≡ n
  word_here = get_or-set_same ws (8 * e) n 0 room

  pub word_else : (j : ℕ) → j ≢ e → word_of (set ws (8 * e) n) j ≡ word_of ws j
  word_else j ne = get_or-set_other ws (8 * e) (8 * j) n 0 (λ h. ne (omega arith))

  pub rising : word_of ws e ≤ n → (j : ℕ) → word_of ws j ≤ word_of (set ws (8 * e) n) j
  rising le j = ⊎_elim (λ is. subst (λ (i : ℕ). word_of ws i ≤ word_of (set ws (8 * e) n) i) (sym is) (let h = word_here in omega arith)) (λ ne. let h = word_else j ne in omega arith) (cases_eq j e)

-- what is set at a place is at most a bound, if it was and the new number is
pub set_below : (xs : List ℕ) (e x : ℕ) (f : ℕ → ℕ) → ((j : ℕ) → slice_index xs j ≤ f j) → x ≤ f e → (j : ℕ) → slice_index (set xs e x) j ≤ f j
set_below [] e x f low new j = low j
set_below (y ∷ ys) zero x f low new zero = new
set_below (y ∷ ys) zero x f low new (suc j) = low (suc j)
set_below (y ∷ ys) (suc e) x f low new zero = low zero
set_below (y ∷ ys) (suc e) x f low new (suc j) = set_below ys e x (λ i. f (suc i)) (λ i. low (suc i)) new j

-- a number that is set to no less makes no number less
pub set_raises : (xs : List ℕ) (e x : ℕ) → slice_index xs e ≤ x → (j : ℕ) → slice_index xs j ≤ slice_index (set xs e x) j
set_raises [] e x le j = omega arith
set_raises (y ∷ ys) zero x le zero = le
set_raises (y ∷ ys) zero x le (suc j) = omega arith
set_raises (y ∷ ys) (suc e) x le zero = omega arith
set_raises (y ∷ ys) (suc e) x le (suc j) = set_raises ys e x le j

pub set_twice : (xs : List ℕ) (e x y : ℕ) → set (set xs e x) e y ≡ set xs e y
set_twice [] e x y = refl
set_twice (z ∷ zs) zero x y = refl
set_twice (z ∷ zs) (suc e) x y = ap (λ (l : List ℕ). z ∷ l) (set_twice zs e x y)
