use Rattle.cpl_ocean_tests.proofs.Little.{faced}
use Rattle.cpl_ocean_tests.proofs.piece.set_faces.Goals as goal

pub loop-i-preserved : goal.loop-i-preserved
loop-i-preserved c =
    let east = faced c.args.piece.now _ _ _ _ c.loop-i.ocean c.set_face.new.self c.loop-i.invariant c.set_face.ensures in
    faced c.args.piece.now _ _ _ _ c.set_face.new.self c.set_face-in-loop-i.new.self east c.set_face-in-loop-i.ensures
