use Rattle.std.proofs.Common.{◌≡◌, ◌+◌, ◌++◌, map, take}
use Rattle.cpl_combine.proofs.places.push_layer.Given as goal

abbrev pub invariant-loop-n : goal.invariant-loop-n
invariant-loop-n l = l.places.items ≡ l.fn.places.items ++ map (λ n. l.from + n) (take l.n-index l.items)
