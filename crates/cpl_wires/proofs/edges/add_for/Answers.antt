use Rattle.std.proofs.Common.{◌≡◌, ◌∙◌, ap, arith}
use Rattle.cpl_wires.specs.Settings.{piece_count}
use Rattle.cpl_wires.specs.Edges.{edges_from}
use Rattle.cpl_wires.proofs.Appended.{added_more}
use Rattle.cpl_wires.proofs.Gathered.{for_all}
use Rattle.cpl_wires.proofs.edges.add_for.Goals as goal

pub loop-k-preserved : goal.loop-k-preserved
loop-k-preserved c =
    added_more (edges_from c.args.shared.now c.args.purpose) c.range_or-first.result.0 c.loop-k.k c.args.edges.now.items c.loop-k.edges.items c.add_from.new.edges.items c.loop-k.invariant c.in_ok-add_from.ensures

pub returns : goal.returns
returns c =
    let ends : c.loop-k.k ≡ c.range_or-first.result.1 = omega arith in
    for_all c.args.shared.now c.args.purpose c.range_or-first.result.0 c.range_or-first.result.1 c.loop-k.k c.giver.result c.args.edges.now.items c.loop-k.edges.items c.count.result
    (c.count.ensures.count ∙ ap piece_count c.pieces.ensures) c.giver.ensures c.range_or-first.ensures.range ends c.loop-k.invariant
