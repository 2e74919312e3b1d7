use Rattle.std.proofs.Common.{◌∙◌, ap}
use Rattle.cpl_wires.specs.declared.parts.Edge.{Edge}
use Rattle.cpl_wires.specs.Settings.{Setting}
use Rattle.cpl_wires.specs.Tables.{face_strip_for, face_strip_of}
use Rattle.cpl_wires.proofs.exchanges.Exchanges.face_strip.Goals as goal

pub returns : goal.returns
unfolding face_strip_of
returns c =
    let edge = c.edge-purpose.result in
    c.face_strip.ensures
    ∙ ap (λ (setting : Setting). face_strip_for setting edge.purpose edge.from edge.to) (c.shared.ensures ∙ c.self.view_is)
    ∙ ap (λ (edge : Edge). face_strip_for c.args.self.now edge.purpose edge.from edge.to) c.edge-purpose.ensures.edge
