use Rattle.cpl_rounds.proofs.States.{state_next, mid_first, mid_next, step_is, mid_last}
use Rattle.std.proofs.Common.{refl}
use Rattle.cpl_rounds.specs.Rounds.{state_at}
use Rattle.cpl_rounds.proofs.rounds.states_law.Goals as goal

pub returns : goal.returns
unfolding state_at
returns c = record { start = λ plan. refl; next = state_next; taken = mid_first; fast = mid_next; before = step_is; after = mid_last }
