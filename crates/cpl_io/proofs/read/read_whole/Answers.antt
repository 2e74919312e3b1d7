use Rattle.std.proofs.Common.{rules, arith, ◌≡◌, sym, subst, length, IsTrue}
use Rattle.cpl_io.proofs.Fronts.{longer_front}
use Rattle.cpl_io.proofs.read.read_whole.Goals as goal

pub loop-chunk-preserved : goal.loop-chunk-preserved
loop-chunk-preserved g c =
    record {
      told = search rules;
      files = search rules;
      faults = search rules;
      failed = search rules;
      room = omega (arith, c.read_at.auto.buf, c.loop-chunk.invariant.room);
      within = search rules;
      bytes = λ told.
          let here = (c.in_ok-count.ensures.bytes (subst IsTrue (sym c.loop-chunk.invariant.told) told)).taken in
          let place : c.len.result ≡ length c.loop-chunk.bytes.items = search rules in
          let next = rw (place, c.loop-chunk.invariant.files) at here in
          rw c.in_ok-extend_from_slice.ensures.items (longer_front _ _ _ _ (c.loop-chunk.invariant.bytes told) next);
    }
