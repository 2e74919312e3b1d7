use Rattle.std.proofs.Common.{sym, ◌∙◌, ap, subst, arith, ◌-◌}
use Rattle.cpl_mosaic.specs.Sides.{CellSide, IsEdgeSide}
use Rattle.cpl_mosaic.specs.Contacts.{joined_pair, swapped}
use Rattle.cpl_mosaic.proofs.Spans.{first_at, second_at}
use Rattle.cpl_mosaic.proofs.Joins.{pair_sides}
use Rattle.cpl_mosaic.proofs.contacts.join_at.Goals as goal

pub returns-then-m-count-clause-join : goal.returns-then-m-count-clause-join
returns-then-m-count-clause-join c =
    first_at c.args.tiles.now c.args.contact c.args.m c.joined_pair.result (omega arith) ∙ sym c.joined_pair.ensures

pub returns-then-m-count-clause-edge : goal.returns-then-m-count-clause-edge
returns-then-m-count-clause-edge c =
    subst (λ (p : CellSide × CellSide). IsEdgeSide c.args.tiles.now p.0) (sym c.joined_pair.ensures) (pair_sides c.args.tiles.now c.args.contact c.args.m c.requires.sizes c.requires.range (omega arith)).0

pub returns-else-m-count-clause-join : goal.returns-else-m-count-clause-join
returns-else-m-count-clause-join c =
    let e = c.joined_pair-else-m-count.ensures in
    let count = c.span_length-count.ensures in
    let n = ap (λ n. swapped (joined_pair c.args.tiles.now c.args.contact (c.args.m - n))) count in
    second_at c.args.tiles.now c.args.contact c.args.m _ (omega arith) (omega arith) ∙ sym n ∙ sym (ap swapped e)

pub returns-else-m-count-clause-edge : goal.returns-else-m-count-clause-edge
returns-else-m-count-clause-edge c =
    subst (λ (p : CellSide × CellSide). IsEdgeSide c.args.tiles.now p.1) (sym c.joined_pair-else-m-count.ensures) (pair_sides c.args.tiles.now c.args.contact (c.args.m - c.span_length-count.result) c.requires.sizes c.requires.range (omega arith)).1
