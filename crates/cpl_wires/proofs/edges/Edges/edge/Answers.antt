use Rattle.std.proofs.Common.{sym, subst, arith}
use Rattle.cpl_wires.specs.Laws.{IsEdge}
use Rattle.cpl_wires.proofs.Members.{is_edge}
use Rattle.cpl_wires.proofs.Read.{edge_read, as_long}
use Rattle.cpl_wires.proofs.edges.Edges.edge.Goals as goal

pub index-requires : goal.index-requires
index-requires c =
    let long = as_long c.self.inside.shared c.args.self.now c.self.inside.tables.edges.items c.args.edge c.self.invariant.edges c.self.view_is c.requires in omega (arith, long, c.self.inside.tables.edges.ok.0)

pub returns-clause-edge : goal.returns-clause-edge
returns-clause-edge c = edge_read c.self.inside.shared c.args.self.now c.self.inside.tables.edges.items c.args.edge c.index.result.now c.self.invariant.edges c.self.view_is c.requires c.index.ensures

pub returns-clause-rules : goal.returns-clause-rules
returns-clause-rules c =
    let is = edge_read c.self.inside.shared c.args.self.now c.self.inside.tables.edges.items c.args.edge c.index.result.now c.self.invariant.edges c.self.view_is c.requires c.index.ensures in
    subst (IsEdge c.args.self.now) (sym is) (is_edge c.args.self.now c.args.edge c.requires)
