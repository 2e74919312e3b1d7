use Rattle.std.proofs.Common.{◌≡◌, ℕ, ◌<◌, length}
use Rattle.cpl_fast.specs.Flows.{sky_at}
use Rattle.cpl_fast.specs.Tables.{sky_by}
use Rattle.cpl_fast.proofs.tables.fill_skies.Given as goal

abbrev pub invariant-loop-n : goal.invariant-loop-n
invariant-loop-n l =
    (length l.skies ≡ length l.fn.skies)
    × ((k : ℕ) → k < l.n → sky_at l.skies k ≡ sky_by l.rates l.heat l.vapour l.area k)
