-- What writing files leaves of them, and the answers of a delivery.
use Rattle.std.specs.Prelude.{◌≡◌, ℕ, ◌+◌, List, length, Option, Result, Ok, Err}
use Rattle.cpl_io.specs.Causes.{Call}
use Rattle.cpl_io.specs.Files.{Files}
use Rattle.cpl_top.specs.Leaves.{AreWritten, IsOutputAt}
use Rattle.cpl_top.specs.declared.output.Output.{Output}
use Rattle.cpl_top.specs.declared.delivery.WriteError.{WriteError}
use Rattle.cpl_top.specs.declared.delivery.WriteError.TheVariants as fault
use Rattle.cpl_top.specs.declared.status.Status.{Status}
use Rattle.cpl_top.specs.declared.status.Status.TheVariants as status

abbrev pub WritesFiles : Result (Unit {0}) WriteError → List Output → Files → Files → Type 0
WritesFiles (Ok done) outputs old new = AreWritten outputs (length outputs) (length outputs) old new
WritesFiles (Err (fault.Failed file)) outputs old new = (place : ℕ) × IsOutputAt outputs place file × AreWritten outputs place (place + 1) old new
WritesFiles (Err fault.Memory) outputs old new = (place : ℕ) × AreWritten outputs place (place + 1) old new

-- a writing that failed changes the count of faults and the call that failed last, and nothing else does
abbrev pub WriteFaults : Result (Unit {0}) WriteError → ℕ → ℕ → Option Call → Option Call → Type 0
WriteFaults (Ok done) before now was is = (now ≡ before) × (is ≡ was)
WriteFaults (Err (fault.Failed file)) before now was is = Unit {0}
WriteFaults (Err fault.Memory) before now was is = (now ≡ before) × (is ≡ was)

-- the answers of a delivery
abbrev pub IsDelivery : Status → Type 0
IsDelivery status.Done = Unit {0}
IsDelivery status.Print = Unit {0}
IsDelivery (status.Write file) = Unit {0}
IsDelivery status.Memory = Unit {0}
IsDelivery _ = ⊥
