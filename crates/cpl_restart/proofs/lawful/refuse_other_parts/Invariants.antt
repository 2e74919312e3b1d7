use Rattle.std.proofs.Common.{◌≡◌, ◌*◌, ℕ, ◌<◌, false, drop}
use Rattle.cpl_restart.specs.Lawful.{has_other_parts}
use Rattle.cpl_restart.proofs.lawful.refuse_other_parts.Given as goal

abbrev pub invariant-loop-n : goal.invariant-loop-n
invariant-loop-n l = record {
  rest : l.rest ≡ drop (l.n * l.width) l.parts;
  before : (k : ℕ) → k < l.n → has_other_parts l.ocean l.width l.parts k ≡ false;
}
