use Rattle.std.proofs.Common.{◌≡◌, ◌∙◌, refl, sym, subst, ◌+◌, ap, ℤ, List, arith}
use Rattle.std.specs.Vec.{with_items}
use Rattle.std.proofs.lemmas.List.{with_items_is}
use Rattle.cpl_strip.specs.declared.parts.Strip.{Strip}
use Rattle.cpl_strip.specs.Strips.{AreStrips}
use Rattle.cpl_field.specs.Spots.{FieldNumbers}
use Rattle.cpl_atmos.specs.Sweeps.{AirNumbers}
use Rattle.cpl_state.specs.Diffusion.{AreAmounts, cell_count, diffused_by, total_of}
use Rattle.cpl_divided.specs.Fields.{AreJoined, Carries}
use Rattle.cpl_divided.specs.Whole.{HoldWhole, HaveAreas}
use Rattle.cpl_divided.proofs.Filled.{joined}
use Rattle.cpl_divided.proofs.Parts.{gathered}
use Rattle.cpl_divided.proofs.Run.{AreSet, RunsTo, areas_kept, pieces_are, have_amounts, runs_more}
use Rattle.cpl_divided.proofs.solo.run_divided.Goals as goal

pub fill-requires : goal.fill-requires
fill-requires c = let whole = c.loop-step.invariant.heat.holds in joined c.args.mesh.now.mosaic c.args.layout.now c.loop-step.halos c.loop-step.invariant.strips c.loop-step.heats.items whole.sized

pub step_all-requires : goal.step_all-requires
step_all-requires c =
    let mesh = c.args.mesh.now in
    let layout = c.args.layout.now in
    let set : AreSet mesh layout = record { tiles = c.requires.layout; air = c.requires.mesh; mates = c.cells-cells.ensures.mates; numbers = c.cells-cells.ensures.numbers; owners = c.pieces-pieces.ensures.owners } in
    let airs : HaveAreas mesh layout c.deref_mut.result.now = subst (λ (a : List AirNumbers). HaveAreas mesh layout a) (sym c.deref_mut.ensures.value) c.loop-step.invariant.airs in
    let carried : Carries c.loop-step.halos c.loop-step.heats.items c.deref_mut-in-loop-step.result.now = subst (λ (f : List FieldNumbers). Carries c.loop-step.halos c.loop-step.heats.items f) (sym c.deref_mut-in-loop-step.ensures.value) c.fill.ensures.fields in
    record {
      airs = pieces_are mesh layout set c.loop-step.halos c.loop-step.invariant.strips c.deref_mut.result.now airs (diffused_by c.loop-step._step mesh c.args.air.heat) c.loop-step.invariant.heat.range c.loop-step.heats.items c.deref_mut-in-loop-step.result.now c.loop-step.invariant.heat.holds carried;
      amounts = have_amounts mesh layout set c.loop-step.halos c.loop-step.invariant.strips c.deref_mut.result.now airs (diffused_by c.loop-step._step mesh c.args.air.heat) c.loop-step.invariant.heat.range c.loop-step.heats.items c.deref_mut-in-loop-step.result.now c.loop-step.invariant.heat.holds carried;
    }

pub fill-requires-in-loop-step : goal.fill-requires-in-loop-step
fill-requires-in-loop-step c =
    let whole = c.loop-step.invariant.vapour.holds in
    subst (λ (s : List Strip). AreJoined s c.loop-step.vapours.items) (sym c.fill.ensures.strips) (joined c.args.mesh.now.mosaic c.args.layout.now c.loop-step.halos c.loop-step.invariant.strips c.loop-step.vapours.items whole.sized)

pub step_all-requires-in-loop-step : goal.step_all-requires-in-loop-step
step_all-requires-in-loop-step c =
    let mesh = c.args.mesh.now in
    let layout = c.args.layout.now in
    let set : AreSet mesh layout = record { tiles = c.requires.layout; air = c.requires.mesh; mates = c.cells-cells.ensures.mates; numbers = c.cells-cells.ensures.numbers; owners = c.pieces-pieces.ensures.owners } in
    let strips : AreStrips mesh.mosaic layout 1 c.fill.new.self = subst (λ (s : List Strip). AreStrips mesh.mosaic layout 1 s) (sym c.fill.ensures.strips) c.loop-step.invariant.strips in
    let airs_before : HaveAreas mesh layout c.deref_mut.result.now = subst (λ (a : List AirNumbers). HaveAreas mesh layout a) (sym c.deref_mut.ensures.value) c.loop-step.invariant.airs in
    let airs_between : HaveAreas mesh layout c.step_all.new.airs = areas_kept mesh layout c.deref_mut.result.now c.step_all.new.airs airs_before c.step_all.ensures.areas in
    let kept : (with_items c.loop-step.airs c.step_all.new.airs).items ≡ c.step_all.new.airs = with_items_is c.loop-step.airs c.step_all.new.airs (omega (arith, c.step_all.ensures.areas.count, c.deref_mut.ensures.len)) in
    let airs_again : HaveAreas mesh layout c.deref_mut-in-loop-step-2.result.now = subst (λ (a : List AirNumbers). HaveAreas mesh layout a) (sym (c.deref_mut-in-loop-step-2.ensures.value ∙ kept)) airs_between in
    let carried_again : Carries c.fill.new.self c.loop-step.vapours.items c.deref_mut-in-loop-step-3.result.now = subst (λ (f : List FieldNumbers). Carries c.fill.new.self c.loop-step.vapours.items f) (sym c.deref_mut-in-loop-step-3.ensures.value) c.fill-in-loop-step.ensures.fields in
    record {
      airs = pieces_are mesh layout set c.fill.new.self strips c.deref_mut-in-loop-step-2.result.now airs_again (diffused_by c.loop-step._step mesh c.args.air.vapour) c.loop-step.invariant.vapour.range c.loop-step.vapours.items c.deref_mut-in-loop-step-3.result.now c.loop-step.invariant.vapour.holds carried_again;
      amounts = have_amounts mesh layout set c.fill.new.self strips c.deref_mut-in-loop-step-2.result.now airs_again (diffused_by c.loop-step._step mesh c.args.air.vapour) c.loop-step.invariant.vapour.range c.loop-step.vapours.items c.deref_mut-in-loop-step-3.result.now c.loop-step.invariant.vapour.holds carried_again;
    }

pub loop-step-init : goal.loop-step-init
loop-step-init c =
    let mesh = c.args.mesh.now in
    let layout = c.args.layout.now in
    record {
      strips = subst (λ (s : List Strip). AreStrips mesh.mosaic layout 1 s) (sym c.in_ok-airs.ensures.halos) c.in_ok-halos.ensures;
      airs = c.in_ok-airs.ensures.airs;
      heat = record { holds = subst (λ (xs : List ℤ). HoldWhole mesh.mosaic layout xs c.in_ok-heats.heats.items) c.as_slice.ensures c.in_ok-heats.ensures; range = c.requires.heat; total = refl };
      vapour = record { holds = subst (λ (xs : List ℤ). HoldWhole mesh.mosaic layout xs c.in_ok-vapours.vapours.items) c.as_slice-2.ensures c.in_ok-vapours.ensures; range = c.requires.vapour; total = refl };
    }

pub loop-step-preserved : goal.loop-step-preserved
loop-step-preserved c =
    let mesh = c.args.mesh.now in
    let layout = c.args.layout.now in
    let set : AreSet mesh layout = record { tiles = c.requires.layout; air = c.requires.mesh; mates = c.cells-cells.ensures.mates; numbers = c.cells-cells.ensures.numbers; owners = c.pieces-pieces.ensures.owners } in
    let airs : HaveAreas mesh layout c.deref_mut.result.now = subst (λ (a : List AirNumbers). HaveAreas mesh layout a) (sym c.deref_mut.ensures.value) c.loop-step.invariant.airs in
    let carried : Carries c.loop-step.halos c.loop-step.heats.items c.deref_mut-in-loop-step.result.now = subst (λ (f : List FieldNumbers). Carries c.loop-step.halos c.loop-step.heats.items f) (sym c.deref_mut-in-loop-step.ensures.value) c.fill.ensures.fields in
    let strips : AreStrips mesh.mosaic layout 1 c.fill.new.self = subst (λ (s : List Strip). AreStrips mesh.mosaic layout 1 s) (sym c.fill.ensures.strips) c.loop-step.invariant.strips in
    let airs_before : HaveAreas mesh layout c.deref_mut.result.now = subst (λ (a : List AirNumbers). HaveAreas mesh layout a) (sym c.deref_mut.ensures.value) c.loop-step.invariant.airs in
    let airs_between : HaveAreas mesh layout c.step_all.new.airs = areas_kept mesh layout c.deref_mut.result.now c.step_all.new.airs airs_before c.step_all.ensures.areas in
    let kept : (with_items c.loop-step.airs c.step_all.new.airs).items ≡ c.step_all.new.airs = with_items_is c.loop-step.airs c.step_all.new.airs (omega (arith, c.step_all.ensures.areas.count, c.deref_mut.ensures.len)) in
    let airs_again : HaveAreas mesh layout c.deref_mut-in-loop-step-2.result.now = subst (λ (a : List AirNumbers). HaveAreas mesh layout a) (sym (c.deref_mut-in-loop-step-2.ensures.value ∙ kept)) airs_between in
    let carried_again : Carries c.fill.new.self c.loop-step.vapours.items c.deref_mut-in-loop-step-3.result.now = subst (λ (f : List FieldNumbers). Carries c.fill.new.self c.loop-step.vapours.items f) (sym c.deref_mut-in-loop-step-3.ensures.value) c.fill-in-loop-step.ensures.fields in
    let airs_last : HaveAreas mesh layout c.step_all-in-loop-step.new.airs = areas_kept mesh layout c.deref_mut-in-loop-step-2.result.now c.step_all-in-loop-step.new.airs airs_again c.step_all-in-loop-step.ensures.areas in
    let all_airs : (with_items (with_items c.loop-step.airs c.step_all.new.airs) c.step_all-in-loop-step.new.airs).items ≡ c.step_all-in-loop-step.new.airs = with_items_is (with_items c.loop-step.airs c.step_all.new.airs) c.step_all-in-loop-step.new.airs (omega (arith, c.step_all-in-loop-step.ensures.areas.count, c.deref_mut-in-loop-step-2.ensures.len)) in
    let all_heats : (with_items c.fill.new.fields c.step_all.new.fields).items ≡ c.step_all.new.fields = with_items_is c.fill.new.fields c.step_all.new.fields (omega (arith, c.step_all.ensures.steps.count, c.deref_mut-in-loop-step.ensures.len)) in
    let all_vapours : (with_items c.fill-in-loop-step.new.fields c.step_all-in-loop-step.new.fields).items ≡ c.step_all-in-loop-step.new.fields = with_items_is c.fill-in-loop-step.new.fields c.step_all-in-loop-step.new.fields (omega (arith, c.step_all-in-loop-step.ensures.steps.count, c.deref_mut-in-loop-step-3.ensures.len)) in
    record {
      strips = subst (λ (s : List Strip). AreStrips mesh.mosaic layout 1 s) (sym (c.fill-in-loop-step.ensures.strips ∙ c.fill.ensures.strips)) c.loop-step.invariant.strips;
      airs = subst (λ (a : List AirNumbers). HaveAreas mesh layout a) (sym all_airs) airs_last;
      heat = subst (λ (f : List FieldNumbers). RunsTo mesh layout c.args.air.heat (c.loop-step._step + 1) f) (sym all_heats) (runs_more mesh layout set c.loop-step.halos c.loop-step.invariant.strips c.deref_mut.result.now airs c.args.air.heat c.loop-step._step c.loop-step.heats.items c.deref_mut-in-loop-step.result.now c.step_all.new.fields c.loop-step.invariant.heat carried c.step_all.ensures.steps);
      vapour = subst (λ (f : List FieldNumbers). RunsTo mesh layout c.args.air.vapour (c.loop-step._step + 1) f) (sym all_vapours) (runs_more mesh layout set c.fill.new.self strips c.deref_mut-in-loop-step-2.result.now airs_again c.args.air.vapour c.loop-step._step c.loop-step.vapours.items c.deref_mut-in-loop-step-3.result.now c.step_all-in-loop-step.new.fields c.loop-step.invariant.vapour carried_again c.step_all-in-loop-step.ensures.steps);
    }

pub returns : goal.returns
returns c =
    let mesh = c.args.mesh.now in
    let layout = c.args.layout.now in
    let owners = c.pieces-pieces.ensures.owners in
    let numbers = c.cells-cells.ensures.numbers in
    let heats = c.loop-step.invariant.heat in
    let vapours = c.loop-step.invariant.vapour in
    let n : c.loop-step._step ≡ c.args.n = omega arith in
    let heat_holds : HoldWhole mesh.mosaic layout (diffused_by c.loop-step._step mesh c.args.air.heat) c.deref.result.now = subst (λ (f : List FieldNumbers). HoldWhole mesh.mosaic layout (diffused_by c.loop-step._step mesh c.args.air.heat) f) (sym c.deref.ensures.value) heats.holds in
    let vapour_holds : HoldWhole mesh.mosaic layout (diffused_by c.loop-step._step mesh c.args.air.vapour) c.deref-2.result.now = subst (λ (f : List FieldNumbers). HoldWhole mesh.mosaic layout (diffused_by c.loop-step._step mesh c.args.air.vapour) f) (sym c.deref-2.ensures.value) vapours.holds in
    let heat : c.from_vec.result ≡ diffused_by c.loop-step._step mesh c.args.air.heat = c.from_vec.ensures ∙ gathered mesh.mosaic layout c.deref.result.now c.in_ok-gather.field-0.items (diffused_by c.loop-step._step mesh c.args.air.heat) owners numbers c.requires.layout heat_holds heats.range.count c.in_ok-gather.ensures in
    let vapour : c.from_vec-2.result ≡ diffused_by c.loop-step._step mesh c.args.air.vapour = c.from_vec-2.ensures ∙ gathered mesh.mosaic layout c.deref-2.result.now c.in_ok-gather-2.field-0.items (diffused_by c.loop-step._step mesh c.args.air.vapour) owners numbers c.requires.layout vapour_holds vapours.range.count c.in_ok-gather-2.ensures in
    let heat_last = heat ∙ ap (λ m. diffused_by m mesh c.args.air.heat) n in
    let vapour_last = vapour ∙ ap (λ m. diffused_by m mesh c.args.air.vapour) n in
    record {
      air = λ i. record { heat = heat_last i; vapour = vapour_last i };
      heat_total = ap total_of heat ∙ heats.total;
      vapour_total = ap total_of vapour ∙ vapours.total;
      heat = subst (λ (xs : List ℤ). AreAmounts (cell_count mesh) xs) (sym heat) heats.range;
      vapour = subst (λ (xs : List ℤ). AreAmounts (cell_count mesh) xs) (sym vapour) vapours.range;
    }
