use Rattle.std.proofs.Common.{◌∙◌, ap}
use Rattle.cpl_wires.specs.declared.parts.Edge.{Edge}
use Rattle.cpl_wires.specs.Settings.{Setting}
use Rattle.cpl_wires.specs.Tables.{strip_for, strip_of}
use Rattle.cpl_wires.proofs.exchanges.Exchanges.strip.Goals as goal

pub returns : goal.returns
unfolding strip_of
returns c =
    let edge = c.edge-purpose.result in
    c.strip.ensures
    ∙ ap (λ (setting : Setting). strip_for setting edge.purpose edge.from edge.to) (c.shared.ensures ∙ c.self.view_is)
    ∙ ap (λ (edge : Edge). strip_for c.args.self.now edge.purpose edge.from edge.to) c.edge-purpose.ensures.edge
