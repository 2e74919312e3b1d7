use Rattle.std.proofs.Common.{◌≡◌, ◌∙◌, subst, ap, arith, [], get_or}
use Rattle.std.proofs.lemmas.List.{get_or_default}
use Rattle.cpl_field.specs.Spots.{FieldNumbers}
use Rattle.cpl_atmos.specs.Sweeps.{AirNumbers}
use Rattle.cpl_divided.specs.Fields.{field_at}
use Rattle.cpl_divided.specs.Steps.{Steps, area_of}
use Rattle.cpl_divided.proofs.Stepped.{stepped_more, areas_more}
use Rattle.cpl_divided.proofs.sweep.step_all.Goals as goal

pub loop-p-preserved : goal.loop-p-preserved
loop-p-preserved c =
    let p = c.loop-p.p in
    let counts = c.requires.airs.count in
    let airs = c.loop-p.invariant.areas.count in
    let fields = c.loop-p.invariant.steps.count in
    let here : (get_or c.loop-p.airs p c.index-airs-p.result).area ≡ area_of c.loop-p.airs p = ap (λ (a : AirNumbers). a.area) (get_or_default c.loop-p.airs p c.index-airs-p.result (record { area = record { nx = 0; ny = 0; width = 0; numbers = [] }; values = [] }) (omega arith)) in
    let area : (get_or c.loop-p.airs p c.index-airs-p.result).area ≡ area_of c.args.airs.now p = here ∙ c.loop-p.invariant.areas.each p in
    let field : get_or c.loop-p.fields p c.index-fields-p.result ≡ field_at c.args.fields.now p = get_or_default c.loop-p.fields p c.index-fields-p.result (record { nx = 0; ny = 0; width = 0; numbers = [] }) (omega arith) ∙ c.loop-p.invariant.steps.rest p (omega arith) in
    record {
      areas = areas_more c.args.airs.now c.loop-p.airs p c.step_piece.new.air (omega arith) c.loop-p.invariant.areas (c.step_piece.ensures.area ∙ here);
      steps = stepped_more c.args.airs.now p c.args.fields.now c.loop-p.fields c.step_piece.new.x (omega arith) c.loop-p.invariant.steps
          (subst (λ (f : FieldNumbers). Steps (area_of c.args.airs.now p) f c.step_piece.new.x) field (subst (λ (a : FieldNumbers). Steps a (get_or c.loop-p.fields p c.index-fields-p.result) c.step_piece.new.x) area c.step_piece.ensures.step));
    }
