use Rattle.std.proofs.Common.{◌≡◌, sym, ◌∙◌, ap, ℕ, ◌+◌, ◌-◌, arith}
use Rattle.cpl_mosaic.specs.declared.parts.Side.{Side}
use Rattle.cpl_mosaic.specs.Mates.{mate_of, walk_of}
use Rattle.cpl_mosaic.proofs.Mates.{walk_wall, walk_more}
use Rattle.cpl_mosaic.proofs.mosaic.Mosaic.walk.Goals as goal

pub returns-in_err-entered : goal.returns-in_err-entered
returns-in_err-entered c = rw c.from_residual.ensures (sym (walk_wall c.args.self.now (c.args.cell, c.args.side) 0 (c.args.n - 1) (omega arith) (sym c.in_err-entered.ensures.mate)))

pub loop-step-init : goal.loop-step-init
loop-step-init c = record { walked = sym c.in_ok-entered.ensures.mate; inside = c.in_ok-entered.ensures.inside }

pub mate-requires-in-loop-step : goal.mate-requires-in-loop-step
mate-requires-in-loop-step c = c.loop-step.invariant.inside

pub returns-in_err-entered-2 : goal.returns-in_err-entered-2
returns-in_err-entered-2 c =
    let onto = ap (λ (side : Side). mate_of c.args.self.now (c.loop-step.entered.0, side)) c.opposite.ensures in
    let none = walk_more c.args.self.now (c.args.cell, c.args.side) c.loop-step._step c.loop-step.entered c.loop-step.auto._step c.loop-step.invariant.walked ∙ sym onto ∙ sym c.in_err-entered-2.ensures.mate in
    rw c.from_residual-in_err-entered-2.ensures (sym (walk_wall c.args.self.now (c.args.cell, c.args.side) c.loop-step._step (c.args.n - 1) (omega arith) none))

pub loop-step-preserved : goal.loop-step-preserved
loop-step-preserved c =
    let onto = ap (λ (side : Side). mate_of c.args.self.now (c.loop-step.entered.0, side)) c.opposite.ensures in
    let same : c.loop-step._step + 1 - 1 ≡ c.loop-step._step = omega arith in
    let next = walk_more c.args.self.now (c.args.cell, c.args.side) c.loop-step._step c.loop-step.entered c.loop-step.auto._step c.loop-step.invariant.walked ∙ sym onto ∙ sym c.in_ok-entered-2.ensures.mate in
    record {
      walked = ap (λ (k : ℕ). walk_of c.args.self.now k (c.args.cell, c.args.side)) same ∙ next;
      inside = c.in_ok-entered-2.ensures.inside;
    }

pub returns : goal.returns
returns c =
    let same : c.loop-step._step - 1 ≡ c.args.n - 1 = omega (arith, c.loop-step.auto._step-end c.requires.steps) in
    sym (sym (ap (λ (k : ℕ). walk_of c.args.self.now k (c.args.cell, c.args.side)) same) ∙ c.loop-step.invariant.walked)
