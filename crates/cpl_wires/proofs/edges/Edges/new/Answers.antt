use Rattle.std.proofs.Common.{refl}
use Rattle.cpl_wires.proofs.edges.Edges.new.Goals as goal

pub invariant_of-result : goal.invariant_of-result
invariant_of-result c = c.in_ok-tables.ensures

pub returns : goal.returns
returns c = refl
