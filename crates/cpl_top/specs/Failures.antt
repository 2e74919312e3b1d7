-- Where the outside is to blame.
use Rattle.std.specs.Prelude.{◌≡◌, ℕ, List, Bool, Option, Some, None}
use Rattle.cpl_io.specs.Causes.{Call, Reading, Writing, Rose}
use Rattle.cpl_io.specs.Files.{Files}
use Rattle.cpl_top.specs.Reads.{Reads, Asks, ComesTo, Writes}
use Rattle.cpl_top.specs.declared.output.Reply.{Reply}
use Rattle.cpl_top.specs.declared.status.Which.{Which}

-- the faults of the shelf rose, and the call that failed last was a reading of this file, to which the command's walk comes
abbrev pub FailedReading : Bool → Files → Option Reads → Which → ℕ → ℕ → Option Call → Type 0
FailedReading told files None file before now failed = ⊥
FailedReading told files (Some reads) file before now failed =
    Rose before now × ((name : List ℕ) × Asks told files reads file name × (failed ≡ Some (Reading name)))

-- the same for a writing of a file that the command writes
abbrev pub FailedWriting : Bool → Files → Option Reads → Which → ℕ → ℕ → Option Call → Type 0
FailedWriting told files None file before now failed = ⊥
FailedWriting told files (Some reads) file before now failed =
    Rose before now × ((name : List ℕ) × Writes told files reads file name × (failed ≡ Some (Writing name)))

-- the command's walk comes to this reply
abbrev pub ComesToReply : Bool → Files → Option Reads → Reply → Type 0
ComesToReply told files None reply = ⊥
ComesToReply told files (Some reads) reply = ComesTo told files reads reply
