use Rattle.std.proofs.Common.{◌≡◌, IsTrue}
use Rattle.cpl_top.specs.Leaves.{AreWritten}
use Rattle.cpl_top.proofs.delivery.write_files.Given as goal

abbrev pub invariant-loop-output : goal.invariant-loop-output
invariant-loop-output g l =
    let shelf = g.S.Shelf in
    record {
      told : shelf.told l.shelf ≡ shelf.told l.fn.shelf;
      faults : shelf.faults l.shelf ≡ shelf.faults l.fn.shelf;
      failed : shelf.failed l.shelf ≡ shelf.failed l.fn.shelf;
      files : IsTrue (shelf.told l.fn.shelf) → AreWritten l.outputs l.output-index l.output-index (shelf.files l.fn.shelf) (shelf.files l.shelf);
    }
