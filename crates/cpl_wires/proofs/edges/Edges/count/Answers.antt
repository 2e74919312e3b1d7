use Rattle.std.proofs.Common.{ap, arith, length}
use Rattle.cpl_wires.proofs.Few.{edges_few}
use Rattle.cpl_wires.proofs.edges.Edges.count.Goals as goal

pub overflow_cast-result : goal.overflow_cast-result
overflow_cast-result c =
    let few = edges_few c.self.inside.shared c.self.invariant.lawful in
    let long = ap length c.self.invariant.edges in omega (arith, few, long, c.len.ensures)
