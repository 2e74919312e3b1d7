-- Nothing is lost in the run of a plan.
use Rattle.std.proofs.Common.{arith}
use Rattle.cpl_state.specs.States.{IsWhole}
use Rattle.cpl_state.specs.CouplingStep.{state_after}
use Rattle.cpl_plan.specs.Plans.{IsPlan, PlanParts}
use Rattle.cpl_whole.specs.Journeys.{CanTravel}
use Rattle.cpl_whole.specs.Laws.{HasMosaics, LosesNothing}
use Rattle.cpl_whole.proofs.Course.{can_travel, course, keeps, lawful}
use Rattle.cpl_whole.proofs.Grounds.{ground_is}
use Rattle.cpl_whole.proofs.Tables.{all_balance, all_keep}

module _ (plan : PlanParts) (is : IsPlan plan) (mosaics : HasMosaics plan.grid) where
  travels : CanTravel plan.grid plan.names plan.start
  travels = can_travel plan is (ground_is plan.grid is.grid_is is.air_is mosaics)

  pub loses_nothing : LosesNothing plan
  loses_nothing = record {
    balances = all_balance plan.grid plan.names plan.start plan.names.steps (keeps plan.grid plan.names plan.start travels);
    keeps = all_keep plan.grid plan.names plan.start plan.names.steps (course plan.grid plan.names plan.start travels);
  }

  -- its last state is lawful
  pub last_lawful : IsWhole plan.grid (state_after plan.names.steps plan.grid plan.names plan.start)
  last_lawful = lawful plan.grid plan.names plan.start travels plan.names.steps (omega arith)
