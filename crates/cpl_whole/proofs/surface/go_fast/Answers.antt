use Rattle.std.proofs.Common.{◌∙◌, sym, subst, ◌+◌, arith}
use Rattle.cpl_state.specs.declared.whole.Mid.{Mid}
use Rattle.cpl_state.specs.CouplingStep.{before}
use Rattle.cpl_state.specs.FastLaws.{CanStep}
use Rattle.cpl_whole.specs.Tallies.{HasHeat, IsInRange}
use Rattle.cpl_whole.proofs.FastSums.{step_more, sums_more}
use Rattle.cpl_whole.proofs.surface.go_fast.Goals as goal

pub step-one-requires-clause-can : goal.step-one-requires-clause-can
step-one-requires-clause-can c =
    subst (λ (m : Mid). CanStep (before c.args.grid.now c.args.names.now c.args.month m)) (sym c.loop-done.invariant.value) (c.requires.can c.loop-done._done c.loop-done-test.true)

pub step-one-requires-clause-room : goal.step-one-requires-clause-room
step-one-requires-clause-room c = c.loop-done.invariant.divided

pub both-sum-requires-clause-first : goal.both-sum-requires-clause-first
both-sum-requires-clause-first c = subst HasHeat (sym c.loop-done.invariant.tally) (c.requires.range c.loop-done._done (omega arith)).heat

pub both-sum-requires-clause-sum : goal.both-sum-requires-clause-sum
both-sum-requires-clause-sum c =
    let step = c.step-one.ensures in
    let more = sums_more c.args.grid.now c.args.names.now c.args.month c.args.mid.now c.loop-done._done c.loop-done.mid c.loop-done.invariant.value c.loop-done.sum c.step-one.result c.loop-done.invariant.tally step.entered step.left step.gave step.took in
    subst IsInRange (sym more) (c.requires.range (c.loop-done._done + 1) (omega arith))

pub loop-done-preserved : goal.loop-done-preserved
loop-done-preserved c =
    let step = c.step-one.ensures in
    let was = c.loop-done.invariant in
    record {
      value = step_more c.args.grid.now c.args.names.now c.args.month c.args.mid.now c.loop-done._done c.loop-done.mid was.value c.step-one.new.mid step.value;
      tally = c.both-sum.ensures
          ∙ sums_more c.args.grid.now c.args.names.now c.args.month c.args.mid.now c.loop-done._done c.loop-done.mid was.value c.loop-done.sum c.step-one.result was.tally step.entered step.left step.gave step.took;
      divided = step.room;
    }
