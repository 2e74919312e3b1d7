use Rattle.std.proofs.Common.{ℕ, ◌≤◌}
use Rattle.std.specs.Prelude.{All}
use Rattle.cpl_transport.specs.Heights.{IsFaceNumber}
use Rattle.cpl_sea.specs.Before.{HaveMoved, Stands}
use Rattle.cpl_sea.proofs.blocks.move_faces.Given as goal

abbrev pub invariant-loop-layer : goal.invariant-loop-layer
invariant-loop-layer l = record {
  moved : HaveMoved l.before l.layer l.from l.to l.initial.faces l.faces l.initial.flows l.flows;
  later : (k : ℕ) → l.layer ≤ k → Stands l.before k l.initial.faces l.faces l.initial.flows l.flows;
  range : All IsFaceNumber l.faces;
}
