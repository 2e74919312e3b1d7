use Rattle.std.proofs.Common.{◌≡◌, ◌∙◌, sym, subst, ap, add-one, arith, ℕ, ◌+◌, ◌*◌, ◌<◌, ◌+ℤ◌, ℤ, to_z, w64, FitsSigned, List}
use Rattle.std.proofs.lemmas.Int.{ints}
use Rattle.cpl_fixed.specs.Amounts.{IsAmount, at}
use Rattle.cpl_transport.specs.Mixing.{sum_of}
use Rattle.cpl_transport.proofs.Bounds.{own_amount, read}
use Rattle.cpl_state.specs.Diffusion.{AreAmounts}
use Rattle.cpl_diffusion.proofs.Conserved.{amount_at}
use Rattle.cpl_sea.proofs.Rows.{column_amount, place_below}
use Rattle.cpl_sea.proofs.columns.column_water.Goals as goal

-- one layer more
more : (f : ℕ → ℤ) (n : ℕ) → sum_of (n + 1) f ≡ sum_of n f +ℤ f n
more f n = ap (λ k. sum_of k f) (add-one n)

added : (s x before after : ℤ) → s ≡ before → IsAmount x → after ≡ before +ℤ x → IsAmount after → FitsSigned w64 (s +ℤ read x) × (read (s +ℤ read x) ≡ after)
added s x before after e h f k =
    let own = own_amount x h in
    let is : s +ℤ read x ≡ after = (λ i. e i +ℤ own i) ∙ sym f in
    (subst (FitsSigned w64) (sym is) (omega (arith, ints, k.0, k.1)), ap read is ∙ own_amount after k)

module _ (layers count : ℕ) (xs : List ℤ) (are : AreAmounts (layers * count) xs) (n layer : ℕ) (l : n < count) (k : layer < layers) (s : ℤ) (e : s ≡ sum_of layer (λ layer. at xs (layer * count + n))) where
  abbrev column : ℕ → ℤ
  column layer = at xs (layer * count + n)

  pub next : FitsSigned w64 (s +ℤ read (column layer)) × (read (s +ℤ read (column layer)) ≡ sum_of (layer + 1) column)
  next =
      added s (column layer) (sum_of layer column) (sum_of (layer + 1) column) e
      (amount_at (layers * count) xs are (layer * count + n) (place_below layers count layer n k l))
      (more column layer) (column_amount layers count xs are n (layer + 1) l (omega arith))

pub overflow_add-sum-in-loop-layer : goal.overflow_add-sum-in-loop-layer
overflow_add-sum-in-loop-layer c =
    (next c.args.layers c.args.count c.args.water.now c.requires.water c.args.n c.loop-layer.layer c.requires.within c.loop-layer-test.true (to_z w64 c.loop-layer.sum-bits) c.loop-layer.invariant).0

pub loop-layer-preserved : goal.loop-layer-preserved
loop-layer-preserved c =
    (next c.args.layers c.args.count c.args.water.now c.requires.water c.args.n c.loop-layer.layer c.requires.within c.loop-layer-test.true (to_z w64 c.loop-layer.sum-bits) c.loop-layer.invariant).1

pub returns-clause-amount : goal.returns-clause-amount
returns-clause-amount c =
    subst IsAmount (sym c.loop-layer.invariant) (column_amount c.args.layers c.args.count c.args.water.now c.requires.water c.args.n c.loop-layer.layer c.requires.within (omega arith))
