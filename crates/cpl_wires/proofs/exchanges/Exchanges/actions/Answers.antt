use Rattle.std.proofs.Common.{◌∙◌, ap, arith, length}
use Rattle.cpl_wires.specs.declared.parts.Lengths.{Lengths}
use Rattle.cpl_wires.specs.Settings.{Setting}
use Rattle.cpl_wires.specs.Stops.{stops}
use Rattle.cpl_wires.proofs.Shortened.{all_long, lengths_read}
use Rattle.cpl_wires.proofs.exchanges.Exchanges.actions.Goals as goal

pub index-requires : goal.index-requires
index-requires c = let long = all_long c.self.inside.edges c.args.self.now c.self.inside.lengths.items c.self.invariant c.self.view_is in omega arith

pub returns : goal.returns
returns c =
    ap (λ (lengths : Lengths). lengths.actions) (lengths_read c.self.inside.edges c.args.self.now c.self.inside.lengths.items c.args.piece c.index.result.now c.self.invariant c.self.view_is c.requires c.index.ensures)
    ∙ ap (λ (setting : Setting). length (stops setting c.args.piece)) c.self.view_is
