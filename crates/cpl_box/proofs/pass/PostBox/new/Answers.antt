use Rattle.std.proofs.Common.{rules, refl, ap, sym, ◌∙◌, ◌≡◌, ◌*◌, ◌<◌, ℕ, ℤ, List, length, replicate, subst, IsTrue, Vec, Global}
use Rattle.std.specs.Prelude.{slice_index}
use Rattle.cpl_core.specs.declared.wiring.Channel.{Channel}
use Rattle.cpl_box.specs.Steps.{HasLists}
use lib.ListN.{length-replicate, length-map}
use Rattle.cpl_box.proofs.Passes.{starts, blank, length-zeros}
use Rattle.cpl_box.proofs.Lists.{has_lists}
use Rattle.cpl_box.proofs.pass.PostBox.new.Goals as goal

pub new-requires : goal.new-requires
new-requires g c =
    let zeros : c.as_slice.result.now ≡ replicate (8 * c.edges-edges.result) 0 = search rules in
    starts _ _ _ (ap length zeros ∙ length-replicate (8 * c.edges-edges.result) 0 ∙ ap (λ n. 8 * n) c.edges-edges.ensures.count) (λ i. ap (λ (l : List ℕ). slice_index l i) zeros ∙ blank (8 * c.edges-edges.result) i) c.in_ok-lists.ensures

pub invariant_of-result : goal.invariant_of-result
invariant_of-result g c =
    let ok = c.in-Ok.ensures.ok in
    let wires = g.W.Wiring.wires c.args.wiring.now in
    let edges : ℕ = length wires.channels in
    let zeros : c.as_slice.result.now ≡ replicate (8 * c.edges-edges.result) 0 = search rules in
    let words : c.in-Ok.seat.table_id.words ≡ 8 * edges = ap (λ z. z.words) ok.2 ∙ ok.0 ∙ ap length zeros ∙ length-replicate (8 * c.edges-edges.result) 0 ∙ ap (λ n. 8 * n) c.edges-edges.ensures.count in
    let slots : c.in-Ok.seat.table_id.slots ≡ edges = ap (λ z. z.slots) ok.2 ∙ ok.1 ∙ sym (length-map c.in_ok-lists.lists.items (λ (v : Vec ℤ Global). length v.items)) ∙ ap length c.in_ok-lists.ensures ∙ length-map wires.channels (λ (x : Channel). x.len) in
    let me = ok.4 in
    let long = length-zeros wires.channels ∙ sym slots in
    record {
      rest = (
        refl,
        ap (λ m. m.1) me,
        subst (λ m. IsTrue m.0.live) (sym me) refl,
        (ap (λ m. length m.0.posts) me ∙ long, ap (λ m. length m.0.takes) me ∙ long, ap (λ m. length m.0.seen) me ∙ long),
        words ∙ ap (λ n. 8 * n) (sym slots),
        subst (λ n. 0 < n) (sym slots) c.requires.some,
      );
      lists = subst (λ m. HasLists m.0.wires) (sym me) (has_lists wires c.edges-edges.ensures.wired);
      edges = slots ∙ ap (λ m. length m.0.wires.channels) (sym me);
    }
