-- When each status may be answered.
use Rattle.std.specs.Prelude.{◌≡◌, ℕ, Option, Result, Ok, Err, IsOk}
use Rattle.cpl_io.specs.Causes.{Call}
use Rattle.cpl_top.specs.declared.output.Reply.{Reply}
use Rattle.cpl_top.specs.declared.status.Status.{Status}
use Rattle.cpl_top.specs.declared.status.Status.TheVariants as status

-- Usage, TooLong, Grid, Names, Start and Budget are the answer itself, with their values. Done, Write and Print come only where the
-- answer is files and a line. Read and Memory tell of the outside.
abbrev pub Agrees : Status → Result Reply Status → Type 0
Agrees status.Done answer = IsOk answer
Agrees (status.Write file) answer = IsOk answer
Agrees status.Print answer = IsOk answer
Agrees (status.Read file) answer = Unit {0}
Agrees status.Memory answer = Unit {0}
Agrees refusal answer = answer ≡ Err refusal

-- Only Read and Write come with a fault of the shelf, and only Print with a fault of the sink. Any other status leaves the
-- count of faults as it was, and the call that failed last too.
abbrev pub ShelfFaults : Status → ℕ → ℕ → Option Call → Option Call → Type 0
ShelfFaults (status.Read file) before now was is = Unit {0}
ShelfFaults (status.Write file) before now was is = Unit {0}
ShelfFaults _ before now was is = (now ≡ before) × (is ≡ was)

abbrev pub SinkFaults : Status → ℕ → ℕ → Type 0
SinkFaults status.Print before now = Unit {0}
SinkFaults _ before now = now ≡ before

-- What a function of bytes returned, seen by view, is the answer, unless memory ran out.
abbrev pub Refuses : {Y : Type 0} → Status → Result Y Status → Type 0
Refuses status.Done answer = ⊥
Refuses (status.Write file) answer = ⊥
Refuses status.Print answer = ⊥
Refuses status.Usage answer = ⊥
Refuses (status.Read file) answer = ⊥
Refuses (status.TooLong file) answer = ⊥
Refuses status.Memory answer = Unit {0}
Refuses refusal answer = answer ≡ Err refusal

abbrev pub Answers : {X Y : Type 0} → (X → Y) → Result X Status → Result Y Status → Type 0
Answers view (Ok x) answer = answer ≡ Ok (view x)
Answers view (Err refusal) answer = Refuses refusal answer

-- The same of what goes by words and reads files: the words may be no command, a reading may have failed, and a file may be
-- too long.
abbrev pub Stops : Status → Result Reply Status → Type 0
Stops (status.Read file) answer = Unit {0}
Stops (status.TooLong file) answer = answer ≡ Err (status.TooLong file)
Stops status.Usage answer = answer ≡ Err status.Usage
Stops refusal answer = Refuses refusal answer

abbrev pub Prepares : Result Reply Status → Result Reply Status → Type 0
Prepares (Ok reply) answer = answer ≡ Ok reply
Prepares (Err refusal) answer = Stops refusal answer

-- what comes before anything is written
abbrev pub IsRefusal : Status → Type 0
IsRefusal status.Done = ⊥
IsRefusal (status.Write file) = ⊥
IsRefusal status.Print = ⊥
IsRefusal _ = Unit {0}
