use Rattle.std.proofs.Common.{◌∙◌, refl, sym, ap, arith, length}
use Rattle.std.proofs.lemmas.List.{with_items_is}
use Rattle.cpl_state.specs.FastStep.{heat_after_rain, rain, vapour_after_rain}
use Rattle.cpl_fast.specs.declared.air.Rained.{Rained}
use Rattle.cpl_fast.specs.Stages.{step_of}
use Rattle.cpl_fast.proofs.Parts.{amount_cast, amount_fits_wide}
use Rattle.cpl_fast.proofs.ToAir.{room_can, room_fit, room_left, room_numbers}
use Rattle.cpl_fast.proofs.room.FastRoom.let_rain.Goals as goal

pub air_lists-left-requires-clause-fit : goal.air_lists-left-requires-clause-fit
air_lists-left-requires-clause-fit c =
    room_fit (step_of c.args.view.now) c.args.self.now c.requires c.deref.result.now _ c.deref.ensures.value c.as_slice.ensures.value c.as_slice-2.ensures.value refl

pub air_lists-left-requires-clause-can : goal.air_lists-left-requires-clause-can
air_lists-left-requires-clause-can c =
    room_can (step_of c.args.view.now) c.args.self.now c.requires c.deref.result.now _ c.deref.ensures.value c.as_slice.ensures.value c.as_slice-2.ensures.value refl

pub overflow_cast-result : goal.overflow_cast-result
overflow_cast-result c =
    let is = c.air_lists-left.ensures.space ∙ room_left (step_of c.args.view.now) c.args.self.now c.requires c.deref.result.now _ c.deref.ensures.value c.as_slice.ensures.value c.as_slice-2.ensures.value refl in
    amount_fits_wide c.air_lists-left.result _ is c.requires.seen.lawful.keeps.heat_left

pub returns-clause-left : goal.returns-clause-left
returns-clause-left c =
    let is = c.air_lists-left.ensures.space ∙ room_left (step_of c.args.view.now) c.args.self.now c.requires c.deref.result.now _ c.deref.ensures.value c.as_slice.ensures.value c.as_slice-2.ensures.value refl in
    amount_cast c.air_lists-left.result _ is c.requires.seen.lawful.keeps.heat_left

pub returns-clause-rained : goal.returns-clause-rained
returns-clause-rained c =
    let s = step_of c.args.view.now in
    let room = c.args.self.now in
    let skies = c.deref.ensures.value in
    let numbers = room_numbers s room c.requires c.deref.result.now _ skies c.as_slice.ensures.value c.as_slice-2.ensures.value refl in
    let count = ap length skies ∙ c.requires.seen.skies.count in
    let heat_long = c.air_lists-left.auto.heat ∙ ap length c.deref_mut.ensures.value ∙ c.requires.seen.room.room.air_heat ∙ sym count in
    let vapour_long = c.air_lists-left.auto.vapour ∙ ap length c.deref_mut-2.ensures.value ∙ c.requires.seen.room.room.air_vapour ∙ sym count in
    let rain_long = c.air_lists-left.auto.rain ∙ ap length c.deref_mut-3.ensures.value ∙ c.requires.seen.room.room.rain ∙ sym count in
    record {
      heat = with_items_is room.air_heat c.air_lists-left.new.heat (omega (arith, c.air_lists-left.auto.heat, c.deref_mut.ensures.len))
          ∙ numbers (λ (r : Rained). r.heat) (heat_after_rain s) (λ n. refl) c.air_lists-left.new.heat heat_long c.air_lists-left.ensures.heat;
      vapour = with_items_is room.air_vapour c.air_lists-left.new.vapour (omega (arith, c.air_lists-left.auto.vapour, c.deref_mut-2.ensures.len))
          ∙ numbers (λ (r : Rained). r.vapour) (vapour_after_rain s) (λ n. refl) c.air_lists-left.new.vapour vapour_long c.air_lists-left.ensures.vapour;
      rain = with_items_is room.rain c.air_lists-left.new.rain (omega (arith, c.air_lists-left.auto.rain, c.deref_mut-3.ensures.len))
          ∙ numbers (λ (r : Rained). r.rain) (rain s) (λ n. refl) c.air_lists-left.new.rain rain_long c.air_lists-left.ensures.rain;
    }
