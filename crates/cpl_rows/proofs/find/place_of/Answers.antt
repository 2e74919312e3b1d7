use Rattle.std.proofs.Common.{sym, subst, ◌≤◌, ℕ, List, arith, length, get_or}
use Rattle.cpl_fixed.specs.declared.limits.TheConstants.{MOST_EXCHANGE_CELLS}
use Rattle.cpl_wires.specs.Edges.{edge_at}
use Rattle.cpl_wires.proofs.Carried.{carried_few}
use Rattle.cpl_rows.specs.Found.{IsRising}
use Rattle.cpl_rows.proofs.Standing.{carried_rises, stands_not}
use Rattle.cpl_rows.proofs.find.place_of.Goals as goal

pub place_in-requires-clause-rising : goal.place_in-requires-clause-rising
place_in-requires-clause-rising c =
    let edge = edge_at c.args.exchanges.now (get_or c.args.edges.now c.loop-edge.edge 0) in
    subst IsRising (sym c.carried.ensures) (carried_rises c.args.exchanges.now edge.purpose edge.from edge.to)

pub place_in-requires-clause-few : goal.place_in-requires-clause-few
place_in-requires-clause-few c =
    let edge = edge_at c.args.exchanges.now (get_or c.args.edges.now c.loop-edge.edge 0) in
    let few = carried_few c.args.exchanges.now c.requires.setting c.requires.grid edge.purpose edge.from edge.to in
    subst (λ (numbers : List ℕ). length numbers ≤ MOST_EXCHANGE_CELLS) (sym c.carried.ensures) few

pub overflow_cast-result : goal.overflow_cast-result
overflow_cast-result c = omega arith

pub unreachable-requires : goal.unreachable-requires
unreachable-requires c =
    let ends = c.loop-edge-test.false in
    stands_not c.args.exchanges.now c.args.edges.now c.args.item c.requires.item (λ s k l. c.loop-edge.invariant s k (omega arith))
