use Rattle.std.proofs.Common.{arith, refl, ap, sym, ◌∙◌, subst, ◌*◌, ◌<◌, length, IsTrue}
use Rattle.cpl_box.specs.Steps.{HasLists}
use Rattle.cpl_box.proofs.Names.{name_tells}
use Rattle.cpl_box.proofs.Passes.{joins, length-greater}
use Rattle.cpl_box.proofs.pass.PostBox.join_pass.Goals as goal

pub join_seat-requires : goal.join_seat-requires
join_seat-requires g c = let r = c.args.pass.now.rest in let one = name_tells _ _ c.requires.one in
    (one, name_tells _ _ c.requires.other, c.args.other.rest.1, subst (λ z. 0 < z.words) one (omega (arith, r.4, r.5)), joins _ _ _ _ _ r.2)

pub invariant_of-pass : goal.invariant_of-pass
invariant_of-pass g c =
    let e = c.join_seat.ensures in
    let p = c.args.pass.now.rest in
    let o = c.args.other.rest in
    let slots = ap (λ z. z.slots) e.0 in
    let same = ap (λ z. z.slots) (name_tells c.args.other.seat.table_id c.args.pass.now.seat.table_id (c.requires.other ∙ sym c.requires.one)) in
    record {
      rest = (
        refl,
        ap (λ m. m.1) e.2 ∙ p.1,
        subst (λ m. IsTrue m.0.live) (sym e.2) p.2,
        (
          ap (λ m. length m.0.posts) e.2 ∙ length-greater _ _ _ p.3.0 (o.3.0 ∙ same) ∙ sym slots,
          ap (λ m. length m.0.takes) e.2 ∙ length-greater _ _ _ p.3.1 (o.3.1 ∙ same) ∙ sym slots,
          ap (λ m. length m.0.seen) e.2 ∙ length-greater _ _ _ p.3.2 (o.3.2 ∙ same) ∙ sym slots,
        ),
        ap (λ z. z.words) e.0 ∙ p.4 ∙ ap (λ n. 8 * n) (sym slots),
        subst (λ z. 0 < z.slots) (sym e.0) p.5,
      );
      lists = subst (λ m. HasLists m.0.wires) (sym e.2) c.args.pass.now.lists;
      edges = slots ∙ c.args.pass.now.edges ∙ ap (λ m. length m.0.wires.channels) (sym e.2);
    }
