use Rattle.std.proofs.Common.{ℕ, ◌<◌, Some}
use Rattle.std.specs.Prelude.{◌≢◌}
use Rattle.cpl_core.specs.Run.{next_of}
use Rattle.cpl_core.proofs.run.Core.first_with.Given as goal

abbrev pub invariant-loop-piece : goal.invariant-loop-piece
invariant-loop-piece g l = (piece : ℕ) → piece < l.piece → next_of (g.W.Wiring.wires l.wiring) l.self piece ≢ Some l.act
