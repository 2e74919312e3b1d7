use Rattle.cpl_whole.specs.Rooms.{IsStepRoom}
use Rattle.cpl_whole.specs.Journeys.{IsJourney}
use Rattle.cpl_whole.proofs.journey.Journey.go_all.Given as goal

-- the run after the steps so far
abbrev pub invariant-loop-n : goal.invariant-loop-n
invariant-loop-n l = record { gone : IsJourney l.grid l.names l.fn.self.state l.n l.self; room : IsStepRoom l.grid l.room }
