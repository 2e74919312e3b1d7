use Rattle.std.proofs.Common.{◌≡◌, ◌-◌, IsTrue, ℕ, List, string_bytes}
use Rattle.cpl_io.specs.Whole.{Untouched, behind, target}
use Rattle.cpl_io.proofs.whole.file_behind.Given as goal

abbrev pub invariant-loop : goal.invariant-loop
invariant-loop g l =
    let d = g.D.Disk in
    record {
      untouched : IsTrue d.told → (other : List ℕ) → Untouched d.place d.since l.fn.disk l.disk other;
      found : IsTrue d.told → behind (40 - l.counter) (d.place l.fn.disk) (string_bytes l.path) ≡ target (d.place l.fn.disk) l.name;
    }
