use Rattle.std.proofs.Common.{◌≡◌, ℕ, ◌<◌, ◌≤◌}
use Rattle.std.specs.Prelude.{All}
use Rattle.cpl_fixed.specs.Amounts.{at}
use Rattle.cpl_transport.specs.Heights.{IsFaceNumber}
use Rattle.cpl_transport.specs.Salts.{AreSmall}
use Rattle.cpl_sea.specs.Before.{face_place, layer_flows, layer_numbers}
use Rattle.cpl_sea.specs.Passes.{salty_at}
use Rattle.cpl_sea.proofs.moving.move_layer.Given as goal

abbrev pub invariant-loop-f : goal.invariant-loop-f
invariant-loop-f l = record {
  numbers : (k : ℕ) → l.from ≤ k → k < l.f → at l.faces (face_place l.before l.layer k) ≡ layer_numbers l.before l.initial.faces l.layer k;
  later : (place : ℕ) → face_place l.before l.layer l.f ≤ place → at l.faces place ≡ at l.initial.faces place;
  earlier : (place : ℕ) → place < face_place l.before l.layer l.from → at l.faces place ≡ at l.initial.faces place;
  range : All IsFaceNumber l.faces;
  flows : (k : ℕ) → l.from ≤ k → k < l.f → salty_at l.flows (face_place l.before l.layer k) ≡ layer_flows l.before l.initial.faces l.layer k;
  small : (k : ℕ) → l.from ≤ k → k < l.f → AreSmall (salty_at l.flows (face_place l.before l.layer k));
  flows_later : (place : ℕ) → face_place l.before l.layer l.f ≤ place → salty_at l.flows place ≡ salty_at l.initial.flows place;
  flows_earlier : (place : ℕ) → place < face_place l.before l.layer l.from → salty_at l.flows place ≡ salty_at l.initial.flows place;
}
