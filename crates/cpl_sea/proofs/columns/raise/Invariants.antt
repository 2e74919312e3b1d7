use Rattle.std.proofs.Common.{◌≡◌, ℕ, ◌<◌}
use Rattle.cpl_fixed.specs.Amounts.{at}
use Rattle.cpl_transport.specs.Heights.{IsHeight}
use Rattle.cpl_sea.specs.Passes.{height_over}
use Rattle.cpl_sea.proofs.columns.raise.Given as goal

abbrev pub invariant-loop-n : goal.invariant-loop-n
invariant-loop-n l = record {
  heights : (k : ℕ) → k < l.n → at l.heights k ≡ height_over (at l.mesh.area k) l.layers l.count l.water k;
  range : (k : ℕ) → k < l.n → IsHeight (at l.heights k);
}
