use Rattle.std.proofs.Common.{◌∙◌, sym, subst}
use Rattle.std.specs.Prelude.{All}
use Rattle.cpl_state.specs.Diffusion.{IsAirMesh}
use Rattle.cpl_state.specs.States.{IsWhole}
use Rattle.cpl_xgrid.specs.declared.grid.Grid.{Grid}
use Rattle.cpl_xgrid.specs.Grids.{IsGrid}
use Rattle.cpl_course.specs.Course.{IsGround}
use Rattle.cpl_whole.specs.Rows.{Balances, Keeps}
use Rattle.cpl_whole.proofs.Course.{can_travel, course, keeps, lawful, lent_travels}
use Rattle.cpl_whole.proofs.Going.{lent_journey, steps_all}
use Rattle.cpl_whole.proofs.Tables.{all_balance, all_keep}
use Rattle.cpl_whole.proofs.run.run_whole.Goals as goal

pub ground_of-requires-clause-rules : goal.ground_of-requires-clause-rules
ground_of-requires-clause-rules c = subst IsGrid (sym c.grid-grid.ensures.grid) c.grid-grid.ensures.lawful.grid_is

pub ground_of-requires-clause-air : goal.ground_of-requires-clause-air
ground_of-requires-clause-air c = subst (λ (x : Grid). IsAirMesh x.air) (sym c.grid-grid.ensures.grid) c.grid-grid.ensures.lawful.air_is

pub run_on-requires : goal.run_on-requires
run_on-requires c =
    let plan = c.args.plan.now in
    let travel = can_travel plan c.grid-grid.ensures.lawful (subst IsGround c.grid-grid.ensures.grid c.ground_of.ensures) in
    lent_travels plan.grid c.grid-grid.result.now plan.names c.names.result.now plan.start c.start.result.now c.grid-grid.ensures.grid c.names.ensures.names c.start.ensures.start travel

pub returns : goal.returns
returns c =
    let plan = c.args.plan.now in
    let steps = plan.names.steps in
    let travel = can_travel plan c.grid-grid.ensures.lawful (subst IsGround c.grid-grid.ensures.grid c.ground_of.ensures) in
    let is = lent_journey plan.grid c.grid-grid.result.now plan.names c.names.result.now plan.start c.start.result.now c.in_ok-journey.journey c.grid-grid.ensures.grid c.names.ensures.names c.start.ensures.start c.in_ok-journey.ensures in
    let stocks = c.outcome.ensures.stocks ∙ is.stocks in
    let exchanges = c.outcome.ensures.exchanges ∙ is.exchanges in
    let last = c.outcome.ensures.last ∙ is.now in
    record {
      stocks = stocks;
      exchanges = exchanges;
      last = last;
      lawful = subst (IsWhole plan.grid) (sym last) (lawful plan.grid plan.names plan.start travel steps (steps_all plan.names));
      keeps = subst (All (Keeps plan.grid plan.start)) (sym stocks) (all_keep plan.grid plan.names plan.start steps (course plan.grid plan.names plan.start travel));
      balances = subst (All Balances) (sym exchanges) (all_balance plan.grid plan.names plan.start steps (keeps plan.grid plan.names plan.start travel));
    }
