-- Sums over the layers of a column.
use Rattle.std.proofs.Common.{◌≡◌, ◌∙◌, sym, subst, ap, add-one, arith, ℕ, zero, suc, ◌+◌, ◌<◌, ◌≤◌, inl, inr, pos, ◌+ℤ◌, ℤ, w64, FitsSigned}
use Rattle.std.specs.Prelude.{◌≤ℤ◌}
use Rattle.std.proofs.lemmas.Bool.{cases_eq}
use Rattle.std.proofs.lemmas.Int.{ints}
use Rattle.cpl_fixed.specs.Amounts.{IsAmount}
use Rattle.cpl_transport.specs.Mixing.{sum_of}
use Rattle.cpl_transport.proofs.Bounds.{own_amount, read}

least : (f : ℕ → ℤ) (n : ℕ) → ((l : ℕ) → l < n → IsAmount (f l)) → pos 0 ≤ℤ sum_of n f
least f zero each = omega (arith, ints)
least f (suc n) each =
    let h = least f n (λ l k. each l (omega arith)) in
    let d = each n (omega arith) in
    omega (arith, ints, h, d.0)

-- the first layers hold no more than all
pub first_amount : (f : ℕ → ℤ) (n m : ℕ) → n ≤ m → ((l : ℕ) → l < m → IsAmount (f l)) → IsAmount (sum_of m f) → IsAmount (sum_of n f)
first_amount f n zero le each whole = let e : 0 ≡ n = omega arith in subst (λ (k : ℕ). IsAmount (sum_of k f)) e whole
first_amount f n (suc m) le each whole = elim (cases_eq n (suc m)) [
  | inl e ↦ subst (λ (k : ℕ). IsAmount (sum_of k f)) (sym e) whole
  | inr ne ↦
      let other : n ≡ suc m → ⊥ = ne in
      let h = least f m (λ l k. each l (omega arith)) in
      let d = each m (omega arith) in
      first_amount f n m (omega arith) (λ l k. each l (omega arith)) (omega (arith, ints, h), omega (arith, ints, d.0, whole.1))
]

added : (s x before after : ℤ) → s ≡ before → IsAmount x → after ≡ before +ℤ x → IsAmount after → FitsSigned w64 (s +ℤ read x) × (read (s +ℤ read x) ≡ after)
added s x before after e h f k =
    let own = own_amount x h in
    let is : s +ℤ read x ≡ after = (λ i. e i +ℤ own i) ∙ sym f in
    (subst (FitsSigned w64) (sym is) (omega (arith, ints, k.0, k.1)), ap read is ∙ own_amount after k)

-- one layer more, whose number has another name
pub next_sum : (f : ℕ → ℤ) (m l : ℕ) → l < m → ((l : ℕ) → l < m → IsAmount (f l)) → IsAmount (sum_of m f) → (s x : ℤ) → s ≡ sum_of l f → x ≡ f l → FitsSigned w64 (s +ℤ read x) × (read (s +ℤ read x) ≡ sum_of (l + 1) f)
next_sum f m l k each whole s x e is =
    let here : IsAmount x = subst IsAmount (sym is) (each l k) in
    added s x (sum_of l f) (sum_of (l + 1) f) e here (ap (λ (n : ℕ). sum_of n f) (add-one l) ∙ ap (λ (z : ℤ). sum_of l f +ℤ z) (sym is)) (first_amount f (l + 1) m (omega arith) each whole)
