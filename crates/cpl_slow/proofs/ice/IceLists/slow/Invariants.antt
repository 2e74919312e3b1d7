use Rattle.cpl_slow.specs.Ice.{AreSlowedTo, with_ice}
use Rattle.cpl_slow.proofs.ice.IceLists.slow.Given as goal

abbrev pub invariant-loop-n : goal.invariant-loop-n
invariant-loop-n l = AreSlowedTo l.grid l.rates (with_ice l.mid l.initial.self) l.arrived l.n l.initial.self l.self
