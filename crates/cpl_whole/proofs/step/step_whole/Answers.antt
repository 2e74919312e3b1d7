use Rattle.std.proofs.Common.{◌≡◌, ◌∙◌, sym, ap, subst, List, suc, ◌+◌, ℕ, arith}
use Rattle.std.specs.Prelude.{ℤ, OnOk, IfOk}
use Rattle.cpl_state.specs.declared.whole.Whole.{Whole}
use Rattle.cpl_state.specs.Diffusion.{IsAirMesh}
use Rattle.cpl_xgrid.specs.declared.grid.Grid.{Grid}
use Rattle.cpl_xgrid.specs.Grids.{IsGrid}
use Rattle.cpl_state.specs.CouplingStep.{state_after, step_after, step_entered, step_gave, step_left, step_took}
use Rattle.cpl_course.specs.Course.{IsGround, KeepsCoupling}
use Rattle.cpl_whole.specs.declared.tally.StepTally.{StepTally}
use Rattle.cpl_whole.proofs.Course.{can_travel, couples, keeps, lent_couples}
use Rattle.cpl_whole.proofs.step.step_whole.Goals as goal

pub ground_of-requires-clause-rules : goal.ground_of-requires-clause-rules
ground_of-requires-clause-rules c = subst IsGrid (sym c.grid-grid.ensures.grid) c.grid-grid.ensures.lawful.grid_is

pub ground_of-requires-clause-air : goal.ground_of-requires-clause-air
ground_of-requires-clause-air c = subst (λ (x : Grid). IsAirMesh x.air) (sym c.grid-grid.ensures.grid) c.grid-grid.ensures.lawful.air_is

pub step_on-requires : goal.step_on-requires
step_on-requires c =
    let plan = c.args.plan.now in
    let travel = can_travel plan c.grid-grid.ensures.lawful (subst IsGround c.grid-grid.ensures.grid c.ground_of.ensures) in
    lent_couples plan.grid c.grid-grid.result.now plan.names c.names.result.now (state_after c.args.n plan.grid plan.names plan.start) c.args.whole.now c.grid-grid.ensures.grid c.names.ensures.names c.requires.whole
    (couples plan.grid plan.names plan.start travel c.args.n c.requires.step)

pub returns-clause-value : goal.returns-clause-value
returns-clause-value c =
    let plan = c.args.plan.now in
    let next : suc c.args.n ≡ c.args.n + 1 = omega arith in
    let same = (λ i. step_after (c.grid-grid.ensures.grid i) (c.names.ensures.names i) (c.requires.whole i)) ∙ ap (λ (k : ℕ). state_after k plan.grid plan.names plan.start) next in
    subst (λ (x : Whole). OnOk c.step_on.result (c.step_on.new.whole ≡ x)) same c.step_on.ensures.value

pub returns-clause-entered : goal.returns-clause-entered
returns-clause-entered c =
    subst (λ (x : ℤ). IfOk c.step_on.result (λ (tally : StepTally). tally.entered ≡ x)) (λ i. step_entered (c.grid-grid.ensures.grid i) (c.names.ensures.names i) c.args.whole.now) c.step_on.ensures.entered

pub returns-clause-left : goal.returns-clause-left
returns-clause-left c =
    subst (λ (x : ℤ). IfOk c.step_on.result (λ (tally : StepTally). tally.left ≡ x)) (λ i. step_left (c.grid-grid.ensures.grid i) (c.names.ensures.names i) c.args.whole.now) c.step_on.ensures.left

pub returns-clause-gave : goal.returns-clause-gave
returns-clause-gave c =
    subst (λ (xs : List ℤ). IfOk c.step_on.result (λ (tally : StepTally). tally.gave ≡ xs)) (λ i. step_gave (c.grid-grid.ensures.grid i) (c.names.ensures.names i) c.args.whole.now) c.step_on.ensures.gave

pub returns-clause-took : goal.returns-clause-took
returns-clause-took c =
    subst (λ (xs : List ℤ). IfOk c.step_on.result (λ (tally : StepTally). tally.took ≡ xs)) (λ i. step_took (c.grid-grid.ensures.grid i) (c.names.ensures.names i) c.args.whole.now) c.step_on.ensures.took

pub returns-clause-keeps : goal.returns-clause-keeps
returns-clause-keeps c =
    let plan = c.args.plan.now in
    let travel = can_travel plan c.grid-grid.ensures.lawful (subst IsGround c.grid-grid.ensures.grid c.ground_of.ensures) in
    subst (KeepsCoupling plan.grid plan.names) (sym c.requires.whole) (keeps plan.grid plan.names plan.start travel c.args.n c.requires.step)
