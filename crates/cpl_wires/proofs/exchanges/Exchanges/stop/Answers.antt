use Rattle.std.proofs.Common.{arith}
use Rattle.cpl_wires.proofs.Shortened.{all_long, lengths_read}
use Rattle.cpl_wires.proofs.exchanges.Exchanges.stop.Goals as goal

pub index-requires : goal.index-requires
index-requires c = let long = all_long c.self.inside.edges c.args.self.now c.self.inside.lengths.items c.self.invariant c.self.view_is in omega arith

pub stop_at-requires-clause-lengths : goal.stop_at-requires-clause-lengths
stop_at-requires-clause-lengths c =
    lengths_read c.self.inside.edges c.args.self.now c.self.inside.lengths.items c.args.piece c.index.result.now c.self.invariant c.self.view_is c.requires c.index.ensures
