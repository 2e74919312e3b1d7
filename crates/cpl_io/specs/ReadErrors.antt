-- What a reading of a whole file answers where a call on the shelf did, and what it leaves of the shelf's faults.
use Rattle.std.specs.Prelude.{◌≡◌, ℕ, List, Option, Some, Result, Ok, Err}
use Rattle.cpl_io.specs.Causes.{Call, Reading, Rose}
use Rattle.cpl_io.specs.declared.shelf.ShelfError.{ShelfError}
use Rattle.cpl_io.specs.declared.shelf.ShelfError.TheVariants as shelf
use Rattle.cpl_io.specs.declared.read.ReadError.{ReadError}
use Rattle.cpl_io.specs.declared.read.ReadError.TheVariants as read

abbrev pub read_error : ShelfError → ReadError
read_error shelf.Failed = read.Read
read_error shelf.Memory = read.Memory

-- the count of faults, and the call that failed last, after a reading of this name: only `Read` changes them
abbrev pub ReadAfter : {T : Type 0} → List ℕ → Result T ReadError → ℕ → ℕ → Option Call → Option Call → Type 0
ReadAfter name (Err read.Read) before now was is = Rose before now × (is ≡ Some (Reading name))
ReadAfter name (Err read.TooLong) before now was is = (now ≡ before) × (is ≡ was)
ReadAfter name (Err read.Memory) before now was is = (now ≡ before) × (is ≡ was)
ReadAfter name (Ok x) before now was is = (now ≡ before) × (is ≡ was)
