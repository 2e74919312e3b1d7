use Rattle.std.proofs.Common.{◌∙◌, sym, ap, subst, arith, length}
use Rattle.std.proofs.lemmas.List.{with_items_is}
use Rattle.cpl_fixed.proofs.Lending.{overwritten_is}
use Rattle.cpl_slow.specs.Steps.{HasArrived}
use Rattle.cpl_slow.proofs.Bringing.{can_bring, has_arrived}
use Rattle.cpl_slow.proofs.Dried.{cells_are, heats_after, runoffs_after, waters_after}
use Rattle.cpl_slow.proofs.slow.drain_land.Goals as goal

pub run_off-requires-clause-cells : goal.run_off-requires-clause-cells
run_off-requires-clause-cells c =
    cells_are c.args.grid.now c.requires.grid.rules c.args.rates.now c.args.whole.now c.requires.can c.as_mut_slice.result.now c.as_mut_slice-2.result.now c.as_slice.result.now
    c.as_mut_slice.ensures.value c.as_mut_slice-2.ensures.value c.as_slice.ensures

pub bring-requires : goal.bring-requires
bring-requires c =
    let gone = c.deref.ensures.value ∙ with_items_is c.args.room.now.runoffs c.run_off.new.runoffs (omega (arith, c.deref_mut.ensures.len, c.run_off.auto.runoffs)) in
    let count = ap length gone ∙ c.run_off.auto.runoffs ∙ ap length c.deref_mut.ensures.value ∙ c.requires.room.runoffs in
    let each = runoffs_after c.args.grid.now c.requires.grid.rules c.args.rates.now c.args.whole.now c.requires.can c.as_mut_slice.result.now c.as_mut_slice-2.result.now c.as_slice.result.now
    c.as_mut_slice.ensures.value c.as_mut_slice-2.ensures.value c.as_slice.ensures c.deref.result.now c.run_off.new.runoffs gone c.run_off.ensures.runoff in
    can_bring c.args.grid.now c.requires.grid c.args.room.now.drains c.requires.room.drains
    c.args.rates.now c.args.whole.now c.requires.can c.deref.result.now count each (length c.deref_mut-2.result.now) (ap length c.deref_mut-2.ensures.value ∙ c.requires.room.arrived)

pub returns-clause-whole : goal.returns-clause-whole
returns-clause-whole c =
    let grid = c.args.grid.now in
    let rates = c.args.rates.now in
    let whole = c.args.whole.now in
    let heat_is = c.as_mut_slice.ensures.value in
    let water_is = c.as_mut_slice-2.ensures.value in
    let heat = overwritten_is whole.land_heat c.run_off.new.heat (c.run_off.auto.heat ∙ ap length heat_is) ∙ heats_after grid c.requires.grid.rules rates whole c.requires.can c.as_mut_slice.result.now c.as_mut_slice-2.result.now c.as_slice.result.now heat_is water_is c.as_slice.ensures c.run_off.new.heat c.run_off.auto.heat c.run_off.ensures.heat in
    let water = overwritten_is whole.land_water c.run_off.new.water (c.run_off.auto.water ∙ ap length water_is) ∙ waters_after grid c.requires.grid.rules rates whole c.requires.can c.as_mut_slice.result.now c.as_mut_slice-2.result.now c.as_slice.result.now heat_is water_is c.as_slice.ensures c.run_off.new.water c.run_off.auto.water c.run_off.ensures.water in
    λ i. record whole { land_heat = heat i; land_water = water i }

pub returns-clause-arrived : goal.returns-clause-arrived
returns-clause-arrived c =
    let gone = c.deref.ensures.value ∙ with_items_is c.args.room.now.runoffs c.run_off.new.runoffs (omega (arith, c.deref_mut.ensures.len, c.run_off.auto.runoffs)) in
    let count = ap length gone ∙ c.run_off.auto.runoffs ∙ ap length c.deref_mut.ensures.value ∙ c.requires.room.runoffs in
    let each = runoffs_after c.args.grid.now c.requires.grid.rules c.args.rates.now c.args.whole.now c.requires.can c.as_mut_slice.result.now c.as_mut_slice-2.result.now c.as_slice.result.now
    c.as_mut_slice.ensures.value c.as_mut_slice-2.ensures.value c.as_slice.ensures c.deref.result.now c.run_off.new.runoffs gone c.run_off.ensures.runoff in
    let long = ap length c.deref_mut-2.ensures.value ∙ c.requires.room.arrived in
    let is = has_arrived c.args.grid.now c.requires.grid c.args.room.now.drains c.requires.room.drains
    c.args.rates.now c.args.whole.now c.requires.can c.deref.result.now count each (length c.args.room.now.drains.each.items) (length c.deref_mut-2.result.now) c.requires.room.drains.count long c.bring.new.arrived c.bring.ensures in
    subst (HasArrived c.args.grid.now c.args.rates.now c.args.whole.now) (sym (with_items_is c.args.room.now.arrived c.bring.new.arrived (omega (arith, c.bring.ensures.count, c.deref_mut-2.ensures.len)))) is

pub returns-clause-runoff : goal.returns-clause-runoff
returns-clause-runoff c =
    let same = with_items_is c.args.room.now.runoffs c.run_off.new.runoffs (omega (arith, c.deref_mut.ensures.len, c.run_off.auto.runoffs)) in
    record {
      count = ap length same ∙ c.run_off.auto.runoffs ∙ ap length c.deref_mut.ensures.value ∙ c.requires.room.runoffs;
      each = runoffs_after c.args.grid.now c.requires.grid.rules c.args.rates.now c.args.whole.now c.requires.can c.as_mut_slice.result.now c.as_mut_slice-2.result.now c.as_slice.result.now
          c.as_mut_slice.ensures.value c.as_mut_slice-2.ensures.value c.as_slice.ensures _ c.run_off.new.runoffs same c.run_off.ensures.runoff;
    }
