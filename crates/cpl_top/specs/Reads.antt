-- A command as a tree: the files that it asks for, in order, and then what they come to. Its answer, its inputs with their
-- order, and its outputs are read off this one definition.
use Rattle.std.specs.Prelude.{◌≡◌, ℕ, ◌≤◌, ◌<◌, ◌⊎◌, List, length, nat_lt, Bool, IsTrue, Option, Some, None, Result, Ok, Err, IfOk, IfErr, if◌then◌else◌}
use Rattle.std.specs.List.{Any}
use Rattle.cpl_io.specs.Causes.{Call, Reading, Rose}
use Rattle.cpl_io.specs.Files.{Files, bytes_of}
use Rattle.cpl_top.specs.Causes.{Refuses}
use Rattle.cpl_top.specs.Replies.{AreApart}
use Rattle.cpl_top.specs.declared.output.Reply.{Reply}
use Rattle.cpl_top.specs.declared.status.Which.{Which}
use Rattle.cpl_top.specs.declared.status.Status.{Status}
use Rattle.cpl_top.specs.declared.status.Status.TheVariants as status

-- Ask: the file of this name is read as `file`. It may have at most `limit` bytes, and its bytes say how to go on.
-- End: nothing more is read, and this is the answer
pub data Reads : Type 0 where
  Ask : (file : Which) (name : List ℕ) (limit : ℕ) (rest : List ℕ → Reads) → Reads
  End : (answer : Result Reply Status) → Reads

-- the answer, by the bytes of the files. A name that isn't there counts as empty
abbrev pub answer_from : Files → Reads → Result Reply Status
answer_from files (Ask file name limit rest) =
    if nat_lt limit (length (bytes_of files name)) then Err (status.TooLong file) else answer_from files (rest (bytes_of files name))
answer_from files (End answer) = answer

-- what a file of this name may be: of at most `limit` bytes, and the file's own where files are told
pub record AreBytes (told : Bool) (files : Files) (name : List ℕ) (limit : ℕ) (bytes : List ℕ) : Type 0 where
  pub within : length bytes ≤ limit
  pub same : IsTrue told → bytes ≡ bytes_of files name

-- the walk comes to this file, under this name: those before it are within their limits
abbrev pub Asks : Bool → Files → Reads → Which → List ℕ → Type 0
Asks told files (Ask next next_name limit rest) file name =
    ((file ≡ next) × (name ≡ next_name)) ⊎ ((bytes : List ℕ) × AreBytes told files next_name limit bytes × Asks told files (rest bytes) file name)
Asks told files (End answer) file name = ⊥

-- the walk comes to this reply
abbrev pub ComesTo : Bool → Files → Reads → Reply → Type 0
ComesTo told files (Ask next next_name limit rest) reply =
    (bytes : List ℕ) × AreBytes told files next_name limit bytes × ComesTo told files (rest bytes) reply
ComesTo told files (End answer) reply = answer ≡ Ok reply

-- the walk comes to a reply that writes this file under this name
abbrev pub Writes : Bool → Files → Reads → Which → List ℕ → Type 0
Writes told files reads file name =
    (reply : Reply) × ComesTo told files reads reply × Any (λ output. (output.which ≡ file) × (output.name ≡ name)) reply.outputs

-- the walk of one tree goes on to another
abbrev pub Leads : Bool → Files → Reads → Reads → Type 0
Leads told files (Ask file name limit rest) to =
    (Ask file name limit rest ≡ to) ⊎ ((bytes : List ℕ) × AreBytes told files name limit bytes × Leads told files (rest bytes) to)
Leads told files (End answer) to = End answer ≡ to

-- no call failed: the count of faults and the call that failed last are as they were
abbrev pub NoneFailed : ℕ → ℕ → Option Call → Option Call → Type 0
NoneFailed before now was is = (now ≡ before) × (is ≡ was)

-- what a reading of a file answers in place of its bytes
abbrev pub IsUnread : Bool → Files → Which → List ℕ → ℕ → ℕ → ℕ → Option Call → Option Call → Status → Type 0
IsUnread told files file name limit before now was is answer =
    ((answer ≡ status.Read file) × Rose before now × (is ≡ Some (Reading name)))
    ⊎ ((answer ≡ status.TooLong file) × (IsTrue told → limit < length (bytes_of files name)) × NoneFailed before now was is)
    ⊎ ((answer ≡ status.Memory) × NoneFailed before now was is)

-- the walk stops with this status: at a file, or after all of them
abbrev pub StopsWith : Bool → Files → ℕ → ℕ → Option Call → Option Call → Reads → Status → Type 0
StopsWith told files before now was is (Ask file name limit rest) status =
    IsUnread told files file name limit before now was is status
    ⊎ ((bytes : List ℕ) × AreBytes told files name limit bytes × StopsWith told files before now was is (rest bytes) status)
StopsWith told files before now was is (End answer) status = Refuses status answer × NoneFailed before now was is

-- A shelf that was only read: it tells as before, its files stand, and its count of faults didn't fall
pub record OnlyReads {S : Type 0} (told : S → Bool) (files : S → Files) (faults : S → ℕ) (old new : S) : Type 0 where
  pub tells : told new ≡ told old
  pub stands : files new ≡ files old
  pub grows : faults old ≤ faults new

-- This was returned by a walk of the tree on this shelf, and has outputs of different names
pub record Walks {S : Type 0} (told : S → Bool) (files : S → Files) (faults : S → ℕ) (failed : S → Option Call) (reads : Reads) (old new : S) (result : Result Reply Status) : Type 0 where
  pub only : OnlyReads told files faults old new
  pub reply : IfOk result (ComesTo (told old) (files old) reads)
  pub quiet : IfOk result (λ reply. NoneFailed (faults old) (faults new) (failed old) (failed new))
  pub stop : IfErr result (StopsWith (told old) (files old) (faults old) (faults new) (failed old) (failed new) reads)
  pub apart : IfOk result (λ reply. AreApart reply.outputs)

-- The same of words that may be no command: then nothing was read
abbrev pub Runs : {S : Type 0} → (S → Bool) → (S → Files) → (S → ℕ) → (S → Option Call) → Option Reads → S → S → Result Reply Status → Type 0
Runs told files faults failed None old new result = (new ≡ old) × (result ≡ Err status.Usage)
Runs told files faults failed (Some reads) old new result = Walks told files faults failed reads old new result
