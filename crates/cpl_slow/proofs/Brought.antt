-- What drains bring, one after another.
use Rattle.std.proofs.Common.{◌≡◌, ◌≢◌, ◌∙◌, refl, sym, ap, subst, Bool, true, false, cond, eqb, ℕ, ◌+◌, ◌*◌, ◌/◌, ◌<◌, arith, inl, inr, add-one, eq-eqb, List, length}
use Rattle.std.specs.Prelude.{ℤ, pos, negsuc, ◌+ℤ◌, ◌≤ℤ◌, slice_set}
use Rattle.std.proofs.lemmas.Int.{ints}
use Rattle.std.proofs.lemmas.Bool.{cases_eq, ne_eqb}
use Rattle.std.proofs.lemmas.List.{get_or-set_same, get_or-set_other, length-set}
use Rattle.std.proofs.Math.Nat.{zero-div}
use Rattle.cpl_fixed.specs.Amounts.{at}
use Rattle.cpl_fixed.specs.Shares.{part_of, share}
use Rattle.cpl_fixed.specs.declared.gain.Gain.{Gain}
use Rattle.cpl_fixed.specs.declared.limits.TheConstants.{MOST_TOTAL}
use Rattle.cpl_fixed.proofs.Parts.{part_pos}
use Rattle.cpl_slow.specs.declared.drains.Drain.{Drain}
use Rattle.cpl_slow.specs.Land.{gain_at, no_gain}
use Rattle.cpl_slow.specs.Drains.{CanBring, IsGained, brought_heat, brought_to, brought_water, drain_at}

-- nothing has no part
none_of : (w n : ℕ) → part_of (pos 0) (pos w) (pos n) ≡ pos 0
none_of w n = part_pos 0 w n ∙ ap pos (ap (λ (x : ℕ). x / n) (let e : 0 * w ≡ 0 = omega arith in e) ∙ zero-div n)

pub no_share : (from to whole : ℤ) → pos 0 ≤ℤ from → from ≤ℤ to → to ≤ℤ whole → share (pos 0) from to whole ≡ pos 0
no_share (pos from) (pos to) (pos whole) least order within =
    let a = none_of to whole in
    let b = none_of from whole in
    omega (arith, ints, a, b)
no_share (negsuc from) to whole least order within = absurd (omega (arith, ints, least))
no_share (pos from) (negsuc to) whole least order within = absurd (omega (arith, ints, order))
no_share (pos from) (pos to) (negsuc whole) least order within = absurd (omega (arith, ints, within))

-- one drain more
pub brought_more : (each : List Drain) (bring : ℕ → ℤ) (n m : ℕ) → brought_to each bring (n + 1) m ≡ brought_to each bring n m +ℤ cond (eqb (drain_at each n).ocean m) (bring n) (pos 0)
brought_more each bring n m = ap (λ (k : ℕ). brought_to each bring k m) (add-one n)

brought_there : (each : List Drain) (bring : ℕ → ℤ) (n m : ℕ) → (drain_at each n).ocean ≡ m → brought_to each bring (n + 1) m ≡ brought_to each bring n m +ℤ bring n
brought_there each bring n m e =
    brought_more each bring n m ∙ ap (λ (b : Bool). brought_to each bring n m +ℤ cond b (bring n) (pos 0)) (eq-eqb _ _ e)

brought_elsewhere : (each : List Drain) (bring : ℕ → ℤ) (n m : ℕ) → (drain_at each n).ocean ≢ m → brought_to each bring (n + 1) m ≡ brought_to each bring n m
brought_elsewhere each bring n m ne =
    let e = brought_more each bring n m ∙ ap (λ (b : Bool). brought_to each bring n m +ℤ cond b (bring n) (pos 0)) (ne_eqb _ _ ne) in
    omega (arith, ints, e)

cond_none : (b : Bool) (x : ℤ) → x ≡ pos 0 → cond b x (pos 0) ≡ pos 0
cond_none true x e = e
cond_none false x e = refl

brought_nothing : (each : List Drain) (bring : ℕ → ℤ) (n m : ℕ) → bring n ≡ pos 0 → brought_to each bring (n + 1) m ≡ brought_to each bring n m
brought_nothing each bring n m e =
    let more = brought_more each bring n m in
    let none = cond_none (eqb (drain_at each n).ocean m) (bring n) e in
    omega (arith, ints, more, none)

-- the cell that a drain leads to has what it brings, and the other cells what they had
module _ (each : List Drain) (weights : List ℤ) (runoffs : List Gain) (oceans n : ℕ) (arrived : List Gain) (can : CanBring each weights runoffs oceans) (within : n < length each) (gained : IsGained each weights runoffs n oceans arrived) where
  pub below : (drain_at each n).ocean < length arrived
  below = let l = (can.leads n within).ocean in omega (arith, l, gained.count)

  -- with it, both are still in range
  pub heat_fits : ((gain_at arrived (drain_at each n).ocean).heat +ℤ brought_heat each weights runoffs n) ≤ℤ pos MOST_TOTAL
  heat_fits =
      let is = gained.heat (drain_at each n).ocean (can.leads n within).ocean in
      let more = brought_there each (brought_heat each weights runoffs) n (drain_at each n).ocean refl in
      let most = can.heat (n + 1) (drain_at each n).ocean (omega arith) (can.leads n within).ocean in
      omega (arith, ints, is, more, most)

  pub water_fits : ((gain_at arrived (drain_at each n).ocean).water +ℤ brought_water each weights runoffs n) ≤ℤ pos MOST_TOTAL
  water_fits =
      let is = gained.water (drain_at each n).ocean (can.leads n within).ocean in
      let more = brought_there each (brought_water each weights runoffs) n (drain_at each n).ocean refl in
      let most = can.water (n + 1) (drain_at each n).ocean (omega arith) (can.leads n within).ocean in
      omega (arith, ints, is, more, most)

  -- heat or water
  quantity_more : (q : Gain → ℤ) (bring : ℕ → ℤ) (v : Gain) → ((m : ℕ) → m < oceans → q (gain_at arrived m) ≡ brought_to each bring n m)
      → q v ≡ q (gain_at arrived (drain_at each n).ocean) +ℤ bring n
      → (m : ℕ) → m < oceans → q (gain_at (slice_set arrived (drain_at each n).ocean v) m) ≡ brought_to each bring (n + 1) m
  quantity_more q bring v had e m l =
      let there = (drain_at each n).ocean in
      let ys = slice_set arrived there v in
      elim (cases_eq there m) [
        | inl same ↦
            ap (λ (k : ℕ). q (gain_at ys k)) (sym same) ∙ ap q (get_or-set_same arrived there v no_gain below) ∙ e
            ∙ ap (λ (z : ℤ). z +ℤ bring n) (had there (can.leads n within).ocean)
            ∙ sym (brought_there each bring n there refl) ∙ ap (brought_to each bring (n + 1)) same
        | inr other ↦
            let ne : m ≢ there = λ s. other (sym s) in
            ap q (get_or-set_other arrived there m v no_gain ne) ∙ had m l ∙ sym (brought_elsewhere each bring n m other)
      ]

  least_more : (v : Gain) → (pos 0 ≤ℤ v.heat) × (pos 0 ≤ℤ v.water) → (m : ℕ) → m < oceans
      → (pos 0 ≤ℤ (gain_at (slice_set arrived (drain_at each n).ocean v) m).heat) × (pos 0 ≤ℤ (gain_at (slice_set arrived (drain_at each n).ocean v) m).water)
  least_more v own m l =
      let there = (drain_at each n).ocean in
      let ys = slice_set arrived there v in
      let P : Gain → Type 0 = λ gain. (pos 0 ≤ℤ gain.heat) × (pos 0 ≤ℤ gain.water) in
      elim (cases_eq there m) [
        | inl same ↦ subst P (sym (ap (gain_at ys) (sym same) ∙ get_or-set_same arrived there v no_gain below)) own
        | inr other ↦ let ne : m ≢ there = λ s. other (sym s) in subst P (sym (get_or-set_other arrived there m v no_gain ne)) (gained.least m l)
      ]

  pub gained_more : (v : Gain) → v.heat ≡ (gain_at arrived (drain_at each n).ocean).heat +ℤ brought_heat each weights runoffs n
      → v.water ≡ (gain_at arrived (drain_at each n).ocean).water +ℤ brought_water each weights runoffs n
      → pos 0 ≤ℤ v.heat → pos 0 ≤ℤ v.water → IsGained each weights runoffs (n + 1) oceans (slice_set arrived (drain_at each n).ocean v)
  gained_more v heat water heat_least water_least = record {
    count = length-set arrived (drain_at each n).ocean v ∙ gained.count;
    heat = quantity_more (λ (gain : Gain). gain.heat) (brought_heat each weights runoffs) v gained.heat heat;
    water = quantity_more (λ (gain : Gain). gain.water) (brought_water each weights runoffs) v gained.water water;
    least = least_more v (heat_least, water_least);
  }

  -- a land cell without runoff brings nothing
  pub gained_same : (gain_at runoffs (drain_at each n).land).water ≡ pos 0 → IsGained each weights runoffs (n + 1) oceans arrived
  gained_same dry =
      let leads = can.leads n within in
      let land = (drain_at each n).land in
      let from = (drain_at each n).from in
      let to = (drain_at each n).to in
      let whole = at weights land in
      let none = no_share from to whole leads.from leads.order leads.within in
      let no_water = ap (λ (z : ℤ). share z from to whole) dry ∙ none in
      let no_heat = ap (λ (z : ℤ). share z from to whole) ((can.runoff land leads.land).dry dry) ∙ none in
      record {
        count = gained.count;
        heat = λ m l. gained.heat m l ∙ sym (brought_nothing each (brought_heat each weights runoffs) n m no_heat);
        water = λ m l. gained.water m l ∙ sym (brought_nothing each (brought_water each weights runoffs) n m no_water);
        least = gained.least;
      }
