use Rattle.std.proofs.Common.{◌≡◌, length, IsTrue}
use Rattle.cpl_io.proofs.Moments.{Filling}
use Rattle.cpl_io.proofs.whole.fill.Given as goal

abbrev pub invariant-loop-rest : goal.invariant-loop-rest
invariant-loop-rest g l =
    let d = g.D.Disk in
    record {
      name : IsTrue d.told → d.opened l.file ≡ d.opened l.fn.file;
      filling : IsTrue d.told → Filling d.place d.since l.fn.disk l.disk (d.opened l.fn.file) l.bytes l.rest;
    }

-- each writing takes a byte or is the last
abbrev pub decreases-loop-rest : goal.decreases-loop-rest
decreases-loop-rest g l = length l.rest
