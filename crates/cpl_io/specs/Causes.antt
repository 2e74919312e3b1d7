-- When a call may answer that the outside failed.
use Rattle.std.specs.Prelude.{◌≡◌, ℕ, ◌+◌, ◌-◌, ◌^◌, ◌≤◌, min, List, Option, Some, Result, Ok, Err}
use Rattle.cpl_io.specs.declared.shelf.ShelfError.{ShelfError}
use Rattle.cpl_io.specs.declared.shelf.ShelfError.TheVariants as shelf
use Rattle.cpl_io.specs.declared.sink.SinkError.{SinkError}
use Rattle.cpl_io.specs.declared.sink.SinkError.TheVariants as sink

-- a call on a shelf, with its name
pub data Call : Type 0 where
  Reading : (name : List ℕ) → Call
  Writing : (name : List ℕ) → Call

-- a count that stays at its last value, after one more
abbrev pub one_more : ℕ → ℕ
one_more count = min (count + 1) (2 ^ 64 - 1)

-- such a count has risen
abbrev pub Rose : ℕ → ℕ → Type 0
Rose before now = one_more before ≤ now

-- the count of faults, and the call that failed last, after a call on a shelf with this answer: only `Failed` changes them
abbrev pub FailedAfter : {T : Type 0} → Call → Result T ShelfError → ℕ → ℕ → Option Call → Option Call → Type 0
FailedAfter call (Err shelf.Failed) before now was is = Rose before now × (is ≡ Some call)
FailedAfter call (Err shelf.Memory) before now was is = (now ≡ before) × (is ≡ was)
FailedAfter call (Ok x) before now was is = (now ≡ before) × (is ≡ was)

-- the count of faults after a call on a sink with this answer: only `Failed` changes it
abbrev pub RoseAfter : {T : Type 0} → Result T SinkError → ℕ → ℕ → Type 0
RoseAfter (Err sink.Failed) before now = Rose before now
RoseAfter (Err sink.Memory) before now = now ≡ before
RoseAfter (Ok x) before now = now ≡ before
