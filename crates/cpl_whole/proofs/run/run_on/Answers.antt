use Rattle.std.proofs.Common.{sym, subst, []}
use Rattle.cpl_state.specs.declared.whole.Whole.{Whole}
use Rattle.cpl_whole.specs.Journeys.{CanTravel, HasSetOut, IsJourney}
use Rattle.cpl_whole.proofs.run.run_on.Goals as goal

pub set_out-requires : goal.set_out-requires
set_out-requires c = c.requires

pub run-requires-clause-can : goal.run-requires-clause-can
run-requires-clause-can c = subst (CanTravel c.args.grid.now c.args.names.now) (sym c.in_ok-journey.ensures.now) c.requires

pub run-requires-clause-out : goal.run-requires-clause-out
run-requires-clause-out c = subst (λ (w : Whole). HasSetOut c.args.grid.now w [] [] c.in_ok-journey.journey) (sym c.in_ok-journey.ensures.now) c.in_ok-journey.ensures

pub returns : goal.returns
returns c = subst (λ (w : Whole). IsJourney c.args.grid.now c.args.names.now w c.args.names.now.steps c.run.new.self) c.in_ok-journey.ensures.now c.in_ok-run.ensures
