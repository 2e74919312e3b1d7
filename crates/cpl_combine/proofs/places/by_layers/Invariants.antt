use Rattle.std.proofs.Common.{◌≡◌, ◌*◌, ◌+◌, map}
use Rattle.std.specs.List.{flat_map, range_with_len}
use Rattle.cpl_combine.proofs.places.by_layers.Given as goal

abbrev pub invariant-loop-layer : goal.invariant-loop-layer
invariant-loop-layer l = l.places.items ≡ flat_map (λ layer. map (λ n. layer * l.count + n) l.items) (range_with_len 0 l.layer)
