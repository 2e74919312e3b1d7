use Rattle.cpl_core.proofs.Steps.{kept_reached}
use Rattle.cpl_core.proofs.Diamond.{diamond}
use Rattle.cpl_core.proofs.Ends.{continues, arrives}
use Rattle.cpl_core.proofs.laws.ends_law.Goals as goal

pub returns-clause-orders : goal.returns-clause-orders
returns-clause-orders g c = λ events state first second leads differ one other.
    let wires = g.W.Wiring.wires c.args.wiring.now in
    diamond wires state first second c.edges.ensures.wired (kept_reached wires events state c.edges.ensures.wired leads) differ one other

pub returns-clause-continues : goal.returns-clause-continues
returns-clause-continues g c = λ all events end state leads is_end is.
    continues (g.W.Wiring.wires c.args.wiring.now) all events end state c.edges.ensures.wired leads is_end is

pub returns-clause-arrives : goal.returns-clause-arrives
returns-clause-arrives g c = λ all events end state leads is_end is stuck.
    arrives (g.W.Wiring.wires c.args.wiring.now) all events end state c.edges.ensures.wired leads is_end is stuck
