-- What a command leaves of the files and of the line, for each status.
use Rattle.std.specs.Prelude.{◌≡◌, ◌≢◌, ℕ, ◌+◌, ◌<◌, List, ◌++◌, length, take, All, Bool, Option}
use Rattle.std.specs.List.{HoldsAt}
use Rattle.std.specs.FinMap.{get}
use Rattle.cpl_io.specs.Files.{Files, Has}
use Rattle.cpl_io.specs.Sink.{AppendsFront}
use Rattle.cpl_top.specs.Failures.{ComesToReply}
use Rattle.cpl_top.specs.Reads.{Reads}
use Rattle.cpl_top.specs.declared.output.Output.{Output}
use Rattle.cpl_top.specs.declared.output.Reply.{Reply}
use Rattle.cpl_top.specs.declared.status.Which.{Which}
use Rattle.cpl_top.specs.declared.status.Status.{Status}
use Rattle.cpl_top.specs.declared.status.Status.TheVariants as status

-- The first `whole` outputs stand whole. Only the first `begun` were touched: every other name stands as it was.
pub record AreWritten (outputs : List Output) (whole begun : ℕ) (old new : Files) : Type 0 where
  pub stand : All (λ output. Has new output.name output.bytes) (take whole outputs)
  pub others : (name : List ℕ) → All (λ output. name ≢ output.name) (take begun outputs) → get new name ≡ get old name

-- the output at this place is this file of the command
abbrev pub IsOutputAt : List Output → ℕ → Which → Type 0
IsOutputAt outputs place file = (place < length outputs) × HoldsAt (λ output. output.which ≡ file) outputs place

-- Done and Print: all outputs stand whole. Write: those before that one stand whole, which may hold any bytes. Memory: some
-- number of the first stand whole, and the next may hold any bytes. Any other status: every file stands as it was.
abbrev pub LeavesFiles : Status → List Output → Files → Files → Type 0
LeavesFiles status.Done outputs old new = AreWritten outputs (length outputs) (length outputs) old new
LeavesFiles status.Print outputs old new = AreWritten outputs (length outputs) (length outputs) old new
LeavesFiles (status.Write file) outputs old new = (place : ℕ) × IsOutputAt outputs place file × AreWritten outputs place (place + 1) old new
LeavesFiles status.Memory outputs old new = (place : ℕ) × AreWritten outputs place (place + 1) old new
LeavesFiles _ outputs old new = (name : List ℕ) → get new name ≡ get old name

-- Done: the whole line was printed. Print and Memory: a front of it. Any other status: nothing.
abbrev pub LeavesLine : Status → List ℕ → List ℕ → List ℕ → Type 0
LeavesLine status.Done line old new = new ≡ old ++ line
LeavesLine status.Print line old new = AppendsFront old new line
LeavesLine status.Memory line old new = AppendsFront old new line
LeavesLine _ line old new = new ≡ old

-- the statuses at which nothing was printed, whatever the files are
abbrev pub IsSilent : Status → Type 0
IsSilent status.Done = ⊥
IsSilent status.Print = ⊥
IsSilent status.Memory = ⊥
IsSilent _ = Unit {0}

-- the line was printed of a reply that the command's walk comes to
abbrev pub PrintsReply : Bool → Files → Option Reads → (old new : List ℕ) → Type 0
PrintsReply told files command old new = (reply : Reply) × ComesToReply told files command reply × (new ≡ old ++ reply.line)
