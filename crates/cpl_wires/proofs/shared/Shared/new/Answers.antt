use Rattle.std.proofs.Common.{refl}
use Rattle.cpl_wires.proofs.shared.Shared.new.Goals as goal

pub invariant_of-result : goal.invariant_of-result
invariant_of-result c = record { lawful = c.names-names.ensures.lawful; grid = c.grid-grid.ensures.lawful; rows = c.in_ok-rows.ensures; halos = c.in_ok-halos.ensures }

pub returns : goal.returns
returns c = refl
