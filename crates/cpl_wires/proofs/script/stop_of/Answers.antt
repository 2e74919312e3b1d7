use Rattle.std.proofs.Common.{arith}
use Rattle.cpl_wires.proofs.Reached.{posted_within, taken_within}
use Rattle.cpl_wires.proofs.script.stop_of.Goals as goal

pub post_slot-requires : goal.post_slot-requires
post_slot-requires c = posted_within c.args.edges.now c.args.piece c.args.m c.in-Posts.purpose c.posted-list.result.now c.posted-list.ensures.edges (omega arith)

pub take_slot-requires : goal.take_slot-requires
take_slot-requires c = taken_within c.args.edges.now c.args.piece c.args.m c.in-Takes.purpose c.taken-list.result.now c.taken-list.ensures.edges (omega arith)
