use Rattle.std.proofs.Common.{◌≡◌, ◌∙◌, refl, sym, ap, subst, ◌+◌, ◌^◌, ℕ, arith, length}
use Rattle.std.specs.Prelude.{ℤ, pos, ◌+ℤ◌}
use Rattle.std.proofs.lemmas.Int.{ints}
use Rattle.cpl_diffusion.proofs.Sums.{sum_to}
use Rattle.cpl_fast.specs.declared.flows.Flow.{Flow}
use Rattle.cpl_fast.specs.declared.sums.Sums.{Sums}
use Rattle.cpl_fast.specs.Flows.{area_in, flow_at, no_flow}
use Rattle.cpl_fast.specs.Places.{place_in}
use Rattle.cpl_fast.specs.Sums.{AreSmall, SumsAre, joined, none}
use Rattle.cpl_fast.proofs.Ends.{row_end, total_entries}
use Rattle.cpl_fast.proofs.Small.{smaller, totals_more, totals_of_flow}
use Rattle.cpl_fast.proofs.sums.row_sums.Goals as goal
use Rattle.cpl_fast.proofs.sums.row_sums.Goals.{then-area-ne0, else-area-ne0}

-- joined with nothing
joined_none : (a : Sums) → a ≡ joined a none
joined_none a =
    let heat : a.heat ≡ a.heat +ℤ pos 0 = omega (arith, ints) in
    let water : a.water ≡ a.water +ℤ pos 0 = omega (arith, ints) in
    let sun : a.sun ≡ a.sun +ℤ pos 0 = omega (arith, ints) in
    let rain : a.rain ≡ a.rain +ℤ pos 0 = omega (arith, ints) in
    λ i. record { heat = heat i; water = water i; sun = sun i; rain = rain i }

pub join-requires-clause-small : goal.join-requires-clause-small
join-requires-clause-small c = smaller c.loop-k.k (2 ^ 30) c.loop-k.sums (omega arith) c.loop-k.invariant.small

pub join-requires-clause-other : goal.join-requires-clause-other
join-requires-clause-other c = smaller 1 (2 ^ 30) c.of.result (omega arith) c.of.ensures.small

pub returns-clause-value : goal.returns-clause-value
returns-clause-value c =
    let tables = c.args.tables.now in
    let row = c.args.row in
    let rows = length tables.links.items in
    let f : (Flow → ℤ) → ℕ → ℤ = λ number j. number (flow_at c.args.flows.now (place_in rows row j)) in
    let n : c.loop-k.k ≡ c.used-k-end.result = omega arith in
    let end = row_end tables c.requires.fit.used row c.requires.row c.used-k-end.result c.used-k-end.ensures.value in
    let total = λ (number : Flow → ℤ) (none : number no_flow ≡ pos 0).
    ap (sum_to (f number)) n ∙ total_entries tables.areas.items rows tables.width row c.used-k-end.result end (f number) (λ k l empty. ap number (c.requires.clear k l empty) ∙ none) in
    let sums = c.loop-k.invariant.sums in
    record {
      heat = sums.heat ∙ total (λ (flow : Flow). flow.heat) refl;
      water = sums.water ∙ total (λ (flow : Flow). flow.water) refl;
      sun = sums.sun ∙ total (λ (flow : Flow). flow.sun) refl;
      rain = sums.rain ∙ total (λ (flow : Flow). flow.rain) refl;
    }

pub returns-clause-small : goal.returns-clause-small
returns-clause-small c = smaller c.loop-k.k c.args.tables.now.width c.loop-k.sums (omega (arith, c.used-k-end.ensures.most)) c.loop-k.invariant.small

pub loop-k-preserved : goal.loop-k-preserved
loop-k-preserved c =
    let tables = c.args.tables.now in
    let row = c.args.row in
    let k = c.loop-k.k in
    let inv = c.loop-k.invariant in
    let f : (Flow → ℤ) → ℕ → ℤ = λ number j. number (flow_at c.args.flows.now (place_in (length tables.links.items) row j)) in
    elim c.if-area-ne0.branch [
      | then-area-ne0 w ↦
          let is = w.sums-is ∙ w.join.ensures.value in
          record {
            sums = totals_more c.loop-k.sums w.of.result c.if-area-ne0.sums f (λ number. number (flow_at c.args.flows.now w.place.result)) k is inv.sums (subst (λ (s : Sums). SumsAre s (λ number. number (flow_at c.args.flows.now w.place.result))) (sym w.of.ensures.value) (totals_of_flow (flow_at c.args.flows.now w.place.result))) (λ number. ap (λ (p : ℕ). number (flow_at c.args.flows.now p)) w.place.ensures.value);
            small = subst (AreSmall (k + 1)) (sym w.sums-is) (w.join.ensures.small k 1 inv.small w.of.ensures.small);
          }
      | else-area-ne0 w ↦
          let empty : area_in tables row k ≡ pos 0 = omega (arith, ints, c.area.ensures, w.if-area-ne0.false) in
          let clear = c.requires.clear k (omega arith) empty in
          record {
            sums = totals_more c.loop-k.sums none c.if-area-ne0.sums f (λ number. number no_flow) k (w.sums-is ∙ joined_none c.loop-k.sums) inv.sums (totals_of_flow no_flow) (λ number. ap number (sym clear));
            small = subst (AreSmall (k + 1)) (sym w.sums-is) (smaller k (k + 1) c.loop-k.sums (omega arith) inv.small);
          }
    ]
