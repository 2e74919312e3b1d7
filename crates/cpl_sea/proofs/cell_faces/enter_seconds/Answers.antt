use Rattle.std.proofs.Common.{length, get_or, refl}
use Rattle.cpl_state.specs.Transport.{no_face}
use Rattle.cpl_sea.proofs.Entered.{second_entered}
use Rattle.cpl_sea.proofs.cell_faces.enter_seconds.Goals as goal

pub loop-f-preserved : goal.loop-f-preserved
loop-f-preserved c =
    rw c.enter.ensures (second_entered c.loop-f.cells (length c.args.cells.now) c.args.faces.now c.loop-f.f (get_or c.args.faces.now c.loop-f.f no_face) c.loop-f-test.true refl (c.requires.within c.loop-f.f c.loop-f-test.true) c.loop-f.invariant)
