use Rattle.std.proofs.Common.{◌≡◌, ◌∙◌, sym, subst, ap, ◌+◌, ◌<◌, arith, ℕ, length, List, w64, to_z, of_z}
use Rattle.std.specs.Prelude.{ℤ}
use Rattle.std.proofs.lemmas.Int.{ints}
use Rattle.cpl_fixed.specs.Amounts.{at}
use Rattle.cpl_fixed.specs.Shares.{share}
use Rattle.cpl_slow.specs.declared.drains.Drain.{Drain}
use Rattle.cpl_fixed.specs.declared.gain.Gain.{Gain}
use Rattle.cpl_slow.specs.Land.{gain_at}
use Rattle.cpl_slow.specs.Drains.{IsGained, Leads, brought_heat, brought_water, drain_at}
use Rattle.cpl_slow.proofs.Writes.{word}
use Rattle.cpl_slow.proofs.Brought.{gained_more, gained_same, heat_fits, water_fits}
use Rattle.cpl_slow.proofs.drains.bring.Goals as goal
use Rattle.cpl_slow.proofs.drains.bring.Goals.{then-runoffs-land-gt0, else-runoffs-land-gt0}

-- the weights of a land cell as they are read
by_words : (amount : ℤ) (weights : List ℤ) (lands oceans : ℕ) (drain : Drain) → Leads weights lands oceans drain
    → share amount drain.from drain.to (to_z w64 (of_z w64 (at weights drain.land))) ≡ share amount drain.from drain.to (at weights drain.land)
by_words amount weights lands oceans drain leads =
    ap (λ (whole : ℤ). share amount drain.from drain.to whole) (word (at weights drain.land) (omega (arith, ints, leads.some)) leads.small)

pub overflow_add-arrived : goal.overflow_add-arrived
overflow_add-arrived c =
    let each = c.args.each.now in
    let n = c.loop-drain.drain-index in
    let within : n < length each = omega arith in
    let is = c.loop-drain.invariant in
    let can = c.requires.can in
    let fits = heat_fits each c.args.weights.now c.args.runoffs.now (length c.args.arrived.now) n c.loop-drain.arrived can within is in
    let own = (is.least (drain_at each n).ocean (can.leads n within).ocean).0 in
    let share : c.share-gain.result.heat ≡ brought_heat each c.args.weights.now c.args.runoffs.now n = c.share-gain.ensures.heat ∙ by_words (gain_at c.args.runoffs.now (drain_at each n).land).heat c.args.weights.now _ _ (drain_at each n) (can.leads n within) in
    omega (arith, ints, fits, own, share, c.share-gain.ensures.least.0)

pub overflow_add-arrived-then-runoffs-land-gt0 : goal.overflow_add-arrived-then-runoffs-land-gt0
overflow_add-arrived-then-runoffs-land-gt0 c =
    let each = c.args.each.now in
    let n = c.loop-drain.drain-index in
    let within : n < length each = omega arith in
    let is = c.loop-drain.invariant in
    let can = c.requires.can in
    let fits = water_fits each c.args.weights.now c.args.runoffs.now (length c.args.arrived.now) n c.loop-drain.arrived can within is in
    let own = (is.least (drain_at each n).ocean (can.leads n within).ocean).1 in
    let share : c.share-gain.result.water ≡ brought_water each c.args.weights.now c.args.runoffs.now n = c.share-gain.ensures.water ∙ by_words (gain_at c.args.runoffs.now (drain_at each n).land).water c.args.weights.now _ _ (drain_at each n) (can.leads n within) in
    omega (arith, ints, fits, own, share, c.share-gain.ensures.least.1)

pub loop-drain-preserved : goal.loop-drain-preserved
loop-drain-preserved c =
    let each = c.args.each.now in
    let weights = c.args.weights.now in
    let runoffs = c.args.runoffs.now in
    let oceans = length c.args.arrived.now in
    let n = c.loop-drain.drain-index in
    let within : n < length each = omega arith in
    let is = c.loop-drain.invariant in
    let can = c.requires.can in
    let P : List Gain → Type 0 = λ xs. IsGained each weights runoffs (n + 1) oceans xs in
    elim c.if-runoffs-land-gt0.branch [
      | then-runoffs-land-gt0 w ↦
          let heat_fit = heat_fits each weights runoffs oceans n c.loop-drain.arrived can within is in
          let water_fit = water_fits each weights runoffs oceans n c.loop-drain.arrived can within is in
          let own = is.least (drain_at each n).ocean (can.leads n within).ocean in
          let heat : w.share-gain.result.heat ≡ brought_heat each weights runoffs n = w.share-gain.ensures.heat ∙ by_words (gain_at c.args.runoffs.now (drain_at each n).land).heat c.args.weights.now _ _ (drain_at each n) (can.leads n within) in
          let water : w.share-gain.result.water ≡ brought_water each weights runoffs n = w.share-gain.ensures.water ∙ by_words (gain_at c.args.runoffs.now (drain_at each n).land).water c.args.weights.now _ _ (drain_at each n) (can.leads n within) in
          let least = w.share-gain.ensures.least in
          subst P (sym w.arrived-is)
          (gained_more each weights runoffs oceans n c.loop-drain.arrived can within is _
          (omega (arith, ints, heat_fit, own.0, heat, least.0))
          (omega (arith, ints, water_fit, own.1, water, least.1))
          (omega (arith, ints, heat_fit, own.0, heat, least.0))
          (omega (arith, ints, water_fit, own.1, water, least.1)))
      | else-runoffs-land-gt0 w ↦
          let land = (drain_at each n).land in
          let runoff = can.runoff land (can.leads n within).land in
          subst P (sym w.arrived-is)
          (gained_same each weights runoffs oceans n c.loop-drain.arrived can within is (omega (arith, ints, runoff.water, w.if-runoffs-land-gt0.false)))
    ]
