use Rattle.std.proofs.Common.{◌≡◌, ◌∙◌, refl, sym, ap, subst, arith}
use Rattle.std.specs.Prelude.{◌+ℤ◌}
use Rattle.std.proofs.lemmas.List.{with_items_is}
use Rattle.cpl_xgrid.specs.declared.parts.Surface.TheVariants.{Land, Ocean}
use Rattle.cpl_state.specs.FastStep.{Before, entered, rain_on}
use Rattle.cpl_fast.specs.declared.stages.Flown.{Flown}
use Rattle.cpl_fast.specs.declared.sums.Sums.{Sums}
use Rattle.cpl_fast.specs.Stages.{AreFlows, IsFlown, IsLawful, step_of}
use Rattle.cpl_fast.proofs.Empty.{no_rain_on}
use Rattle.cpl_fast.proofs.Keeping.{keep_flows}
use Rattle.cpl_fast.proofs.Parts.{amount_cast, amount_fits_wide}
use Rattle.cpl_fast.proofs.Small.{passed, sum_fits, sum_passed}
use Rattle.cpl_fast.proofs.ToFlows.{entered_is}
use Rattle.cpl_fast.proofs.room.FastRoom.rain_down.Goals as goal

pub returns-clause-flows : goal.returns-clause-flows
returns-clause-flows c =
    let s = step_of c.args.view.now in
    let room = c.args.self.now in
    let land_is = with_items_is room.land_flows c.surface_rain-land.new.flows (omega (arith, c.surface_rain-land.auto.flows, c.deref_mut.ensures.len)) in
    let ocean_is = with_items_is room.ocean_flows c.surface_rain-ocean.new.flows (omega (arith, c.surface_rain-ocean.auto.flows, c.deref_mut-2.ensures.len)) in
    keep_flows s (rain_on s) (no_rain_on s) room _ c.requires.flows.seen refl
    (subst (AreFlows s (rain_on s) Land) (sym land_is) c.surface_rain-land.ensures.flows) (subst (AreFlows s (rain_on s) Ocean) (sym ocean_is) c.surface_rain-ocean.ensures.flows)

-- THE SUN OF BOTH LISTS

-- the sum in 128 bits
sun_is : (s : Before) → IsLawful s → (flown : Flown) → IsFlown s flown → passed flown.land.sun +ℤ passed flown.ocean.sun ≡ entered s
sun_is s lawful flown are =
    let land = ap (λ (sums : Sums). sums.sun) are.land in
    let ocean = ap (λ (sums : Sums). sums.sun) are.ocean in
    sum_passed flown.land.sun flown.ocean.sun are.land_small.sun are.ocean_small.sun ∙ (λ i. land i +ℤ ocean i) ∙ sym (entered_is s lawful)

pub overflow_add-result : goal.overflow_add-result
overflow_add-result c = sum_fits c.args.flown.now.land.sun c.args.flown.now.ocean.sun c.requires.flown.land_small.sun c.requires.flown.ocean_small.sun

pub overflow_cast-result : goal.overflow_cast-result
overflow_cast-result c =
    let s = step_of c.args.view.now in
    let lawful = c.requires.flows.seen.lawful in
    amount_fits_wide _ (entered s) (sun_is s lawful c.args.flown.now c.requires.flown) lawful.keeps.sun_entered

pub returns-clause-entered : goal.returns-clause-entered
returns-clause-entered c =
    let s = step_of c.args.view.now in
    let lawful = c.requires.flows.seen.lawful in
    amount_cast _ (entered s) (sun_is s lawful c.args.flown.now c.requires.flown) lawful.keeps.sun_entered
