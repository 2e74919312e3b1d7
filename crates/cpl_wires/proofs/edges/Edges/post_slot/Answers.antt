use Rattle.std.proofs.Common.{◌<◌, sym, ◌∙◌, ap, subst, arith, length, map}
use Rattle.cpl_wires.specs.Settings.{Setting}
use Rattle.cpl_wires.specs.Edges.{edges_of, post_slot}
use Rattle.cpl_wires.specs.Tables.{slot_in, poster}
use Rattle.cpl_wires.proofs.Read.{number_read, slots_count}
use Rattle.cpl_wires.proofs.Slotted.{post_slot_is}
use Rattle.cpl_wires.proofs.edges.Edges.post_slot.Goals as goal

pub index-requires : goal.index-requires
index-requires c =
    let setting = c.self.inside.shared in
    let below : c.args.edge < length (edges_of setting) = subst (λ (s : Setting). c.args.edge < length (edges_of s)) (sym c.self.view_is) c.requires in
    let long = ap length c.self.invariant.post_slots in
    let count = slots_count poster (slot_in (map poster (edges_of setting))) (edges_of setting) in omega arith

pub returns : goal.returns
returns c =
    let setting = c.self.inside.shared in
    let below : c.args.edge < length (edges_of setting) = subst (λ (s : Setting). c.args.edge < length (edges_of s)) (sym c.self.view_is) c.requires in
    let count = slots_count poster (slot_in (map poster (edges_of setting))) (edges_of setting) in
    number_read c.self.inside.tables.ends.post_slots.items _ c.args.edge c.index.result.now c.self.invariant.post_slots (omega arith) c.index.ensures
    ∙ post_slot_is setting c.args.edge below ∙ ap (λ (s : Setting). post_slot s c.args.edge) c.self.view_is
