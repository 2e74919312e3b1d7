use Rattle.std.proofs.Common.{◌≡◌, ℤ, ◌+◌, ◌*◌, ◌<◌, length, map, sym, subst, ap, Vec, Global}
use Rattle.std.proofs.lemmas.List.{map-set}
use Rattle.cpl_core.specs.declared.wiring.Wires.{Wires}
use Rattle.cpl_core.specs.Content.{IsContent}
use Rattle.cpl_core.specs.Plain.{Plain}
use Rattle.cpl_core.proofs.Turns.{after_turn}
use Rattle.cpl_core.proofs.plain.PlainBoxes.exchange.Goals as goal

pub invariant_of-self-2 : goal.invariant_of-self-2
invariant_of-self-2 g c =
    let boxes = c.self.inside in
    let wires = g.W.Wiring.wires boxes.wiring.now in
    let same : wires ≡ c.args.self.now.wires = ap (λ (plain : Plain). plain.wires) c.self.view_is in
    let below : c.args.edge < length wires.channels = subst (λ (w : Wires). c.args.edge < length w.channels) (sym same) c.requires.edge in
    let content : IsContent wires c.args.edge (2 * c.args.turn + 2) c.args.buf.now.items = subst (λ (w : Wires). IsContent w c.args.edge (2 * c.args.turn + 2) c.args.buf.now.items) (sym same) c.requires.content in
    let moved = subst (λ (v : Vec ℤ Global). IsContent wires c.args.edge (2 * c.args.turn + 2) v.items) (sym c.swap.ensures.x_after) content in
    rw (map-set (λ (v : Vec ℤ Global). v.items) boxes.lists.items c.args.edge c.swap.new.x) (after_turn wires boxes.turns.items (map (λ (v : Vec ℤ Global). v.items) boxes.lists.items) c.args.edge c.args.turn c.swap.new.x.items c.self.invariant below moved)
