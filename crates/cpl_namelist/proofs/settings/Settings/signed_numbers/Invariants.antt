use Rattle.std.proofs.Common.{◌≡◌, ℕ, ◌<◌, length, get_or, pos}
use Rattle.cpl_namelist.specs.Settings.{choices, number}
use Rattle.cpl_namelist.proofs.settings.Settings.signed_numbers.Given as goal

abbrev pub invariant-loop-k : goal.invariant-loop-k
invariant-loop-k g l = (length l.numbers ≡ g.row.N) × ((k : ℕ) → k < l.k → get_or l.numbers k (pos 0) ≡ pos (number (choices l.self) l.place k))
