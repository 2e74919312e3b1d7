use Rattle.std.proofs.Common.{◌≡◌, arith}
use Rattle.cpl_wires.specs.Tables.{edge_if}
use Rattle.cpl_wires.proofs.Appended.{added_more}
use Rattle.cpl_wires.proofs.Gathered.{from_all}
use Rattle.cpl_wires.proofs.edges.add_from.Goals as goal

pub loop-k-preserved : goal.loop-k-preserved
loop-k-preserved c =
    added_more (edge_if c.args.shared.now c.args.purpose c.args.from) c.range_or-first.result.0 c.loop-k.k c.args.edges.now.items c.loop-k.edges.items c.add_if.new.edges.items c.loop-k.invariant c.in_ok-add_if.ensures

pub returns : goal.returns
returns c =
    let ends : c.loop-k.k ≡ c.range_or-first.result.1 = omega arith in
    from_all c.args.shared.now c.args.purpose c.range_or-first.result.0 c.range_or-first.result.1 c.loop-k.k c.receiver.result c.args.edges.now.items c.loop-k.edges.items c.args.from c.receiver.ensures c.range_or-first.ensures.range ends
    c.loop-k.invariant
