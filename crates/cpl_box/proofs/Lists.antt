-- The lists of a wiring have their edges' lengths.
use Rattle.std.proofs.Common.{[]}
use Rattle.cpl_core.specs.declared.wiring.Wires.{Wires}
use Rattle.cpl_core.specs.Wires.{IsWired}
use Rattle.cpl_box.specs.Steps.{HasLists}

pub has_lists : (w : Wires) → IsWired w → HasLists w
has_lists w wired e lt = let c = wired.channels e lt in (c.most, λ k less. c.lengths k [] less)
