use Rattle.std.proofs.Common.{◌≡◌, ℕ, ◌<◌, length}
use Rattle.cpl_ocean.specs.Layers.{IsEmptyLayer, layer_at}
use Rattle.cpl_ocean.proofs.piece.empty_layers.Given as goal

abbrev pub invariant-loop-n : goal.invariant-loop-n
invariant-loop-n l = record {
  count : length l.list.items ≡ l._n;
  each : (k : ℕ) → k < l._n → IsEmptyLayer l.piece (layer_at l.list.items k);
}
