use Rattle.std.proofs.Common.{◌≡◌, ◌<◌, ◌≤◌, length, IsTrue, ◌+◌, ◌-◌, take}
use Rattle.cpl_io.specs.Files.{bytes_of}
use Rattle.cpl_io.proofs.read.read_whole.Given as goal

abbrev pub invariant-loop-chunk : goal.invariant-loop-chunk
invariant-loop-chunk g l =
    let shelf = g.S.Shelf in
    record {
      told : shelf.told l.shelf ≡ shelf.told l.fn.shelf;
      files : shelf.files l.shelf ≡ shelf.files l.fn.shelf;
      faults : shelf.faults l.shelf ≡ shelf.faults l.fn.shelf;
      failed : shelf.failed l.shelf ≡ shelf.failed l.fn.shelf;
      room : 0 < length l.chunk;
      within : length l.bytes.items ≤ l.limit;
      bytes : IsTrue (shelf.told l.fn.shelf) → l.bytes.items ≡ take (length l.bytes.items) (bytes_of (shelf.files l.fn.shelf) l.name);
    }

-- each reading takes a byte or is the last
abbrev pub decreases-loop-chunk : goal.decreases-loop-chunk
decreases-loop-chunk g l = l.limit + 1 - length l.bytes.items
