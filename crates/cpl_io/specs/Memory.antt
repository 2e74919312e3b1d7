-- What a shelf and a sink in memory are to their users, and how they count.
use Rattle.std.specs.Prelude.{◌≡◌, ℕ, List, Contains, Option, Result, Ok, Err, IsErr, IsErrOf}
use Rattle.cpl_io.specs.Files.{Files}
use Rattle.cpl_io.specs.Causes.{Call, one_more}
use Rattle.cpl_io.specs.declared.shelf.ShelfError.{ShelfError}
use Rattle.cpl_io.specs.declared.shelf.ShelfError.TheVariants as shelf
use Rattle.cpl_io.specs.declared.sink.SinkError.{SinkError}
use Rattle.cpl_io.specs.declared.sink.SinkError.TheVariants as sink

-- the files, the count of faults, the call that failed last, the numbers of the calls that are to fail,
-- and the count of the calls so far, which is the number of the next one
pub record MemoryShelf : Type 0 where
  pub files : Files
  pub faults : ℕ
  pub failed : Option Call
  pub fail : List ℕ
  pub calls : ℕ

-- what was written, the count of faults, the numbers of the calls that are to fail, and the count of the
-- calls so far
pub record MemorySink : Type 0 where
  pub written : List ℕ
  pub faults : ℕ
  pub fail : List ℕ
  pub calls : ℕ

-- the exact count of faults after a call on a shelf in memory with this answer
abbrev pub shelf_faults : {T : Type 0} → Result T ShelfError → ℕ → ℕ
shelf_faults (Err shelf.Failed) count = one_more count
shelf_faults (Err shelf.Memory) count = count
shelf_faults (Ok x) count = count

-- the same after a call on a sink in memory
abbrev pub sink_faults : {T : Type 0} → Result T SinkError → ℕ → ℕ
sink_faults (Err sink.Failed) count = one_more count
sink_faults (Err sink.Memory) count = count
sink_faults (Ok x) count = count

-- A call on a shelf in memory counts itself, and its fault. It fails where its number is due, and answers `Failed` only there.
pub record IsCounted {T : Type 0} (old new : MemoryShelf) (result : Result T ShelfError) : Type 0 where
  pub faults : new.faults ≡ shelf_faults result old.faults
  pub due : Contains old.fail old.calls → IsErr result
  pub only_due : IsErrOf result shelf.Failed → Contains old.fail old.calls
  pub calls : new.calls ≡ one_more old.calls
  pub fail : new.fail ≡ old.fail
