use Rattle.std.proofs.Common.{sym, subst}
use Rattle.cpl_state.specs.Diffusion.{IsAirMesh}
use Rattle.cpl_xgrid.specs.declared.grid.Grid.{Grid}
use Rattle.cpl_xgrid.specs.Grids.{IsGrid}
use Rattle.cpl_state.specs.CouplingStep.{state_after}
use Rattle.cpl_course.specs.Course.{IsGround}
use Rattle.cpl_whole.specs.Journeys.{rest_of}
use Rattle.cpl_whole.proofs.Course.{can_travel, lawful}
use Rattle.cpl_whole.proofs.Rest.{no_fault, rest_is, rest_last}
use Rattle.cpl_whole.proofs.restart.restart_law.Goals as goal

pub ground_of-requires-clause-rules : goal.ground_of-requires-clause-rules
ground_of-requires-clause-rules c = subst IsGrid (sym c.grid.ensures.grid) c.grid.ensures.lawful.grid_is

pub ground_of-requires-clause-air : goal.ground_of-requires-clause-air
ground_of-requires-clause-air c = subst (λ (x : Grid). IsAirMesh x.air) (sym c.grid.ensures.grid) c.grid.ensures.lawful.air_is

pub returns-clause-lawful : goal.returns-clause-lawful
returns-clause-lawful c =
    let plan = c.args.plan.now in
    let travel = can_travel plan c.grid.ensures.lawful (subst IsGround c.grid.ensures.grid c.ground_of.ensures) in
    lawful plan.grid plan.names plan.start travel c.args.a c.requires

pub returns-clause-rules : goal.returns-clause-rules
returns-clause-rules c =
    let plan = c.args.plan.now in
    let ground = subst IsGround c.grid.ensures.grid c.ground_of.ensures in
    let travel = can_travel plan c.grid.ensures.lawful ground in
    no_fault (record { grid = plan.grid; names = rest_of c.args.a plan.names; start = state_after c.args.a plan.grid plan.names plan.start })
    (rest_is plan c.grid.ensures.lawful ground travel c.args.a c.requires)

pub returns-clause-plan : goal.returns-clause-plan
returns-clause-plan c =
    let plan = c.args.plan.now in
    let ground = subst IsGround c.grid.ensures.grid c.ground_of.ensures in
    let travel = can_travel plan c.grid.ensures.lawful ground in
    rest_is plan c.grid.ensures.lawful ground travel c.args.a c.requires

pub returns-clause-last : goal.returns-clause-last
returns-clause-last c =
    let plan = c.args.plan.now in
    let ground = subst IsGround c.grid.ensures.grid c.ground_of.ensures in
    let travel = can_travel plan c.grid.ensures.lawful ground in
    rest_last plan c.grid.ensures.lawful ground travel c.args.a c.requires
