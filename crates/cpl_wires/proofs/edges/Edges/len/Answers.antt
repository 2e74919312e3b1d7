use Rattle.std.proofs.Common.{◌<◌, sym, ◌∙◌, ap, subst, arith, length}
use Rattle.cpl_wires.specs.Settings.{Setting}
use Rattle.cpl_wires.specs.Edges.{edges_of, edge_at, length_of}
use Rattle.cpl_wires.proofs.Read.{number_read, mapped_count}
use Rattle.cpl_wires.proofs.Slotted.{len_is}
use Rattle.cpl_wires.proofs.edges.Edges.len.Goals as goal

pub index-requires : goal.index-requires
index-requires c =
    let setting = c.self.inside.shared in
    let below : c.args.edge < length (edges_of setting) = subst (λ (s : Setting). c.args.edge < length (edges_of s)) (sym c.self.view_is) c.requires in
    let long = ap length c.self.invariant.lens in
    let count = mapped_count (length_of setting) (edges_of setting) in omega arith

pub returns : goal.returns
returns c =
    let setting = c.self.inside.shared in
    let below : c.args.edge < length (edges_of setting) = subst (λ (s : Setting). c.args.edge < length (edges_of s)) (sym c.self.view_is) c.requires in
    let count = mapped_count (length_of setting) (edges_of setting) in
    number_read c.self.inside.tables.lens.items _ c.args.edge c.index.result.now c.self.invariant.lens (omega arith) c.index.ensures
    ∙ len_is setting c.args.edge below ∙ ap (λ (s : Setting). length_of s (edge_at s c.args.edge)) c.self.view_is
