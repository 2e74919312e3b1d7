use Rattle.cpl_ocean_tests.proofs.Little.{in_word, set_little}
use Rattle.cpl_ocean_tests.proofs.piece.field_of.Goals as goal

pub loop-depth-preserved : goal.loop-depth-preserved
loop-depth-preserved c =
    let west = set_little c.args.piece.now c.loop-depth.field c.set_halo.new.self _ _ c.loop-depth.invariant c.set_halo.ensures (in_word _ c.column-in-loop-depth.ensures) in
    set_little c.args.piece.now c.set_halo.new.self c.set_halo-in-loop-depth.new.self _ _ west c.set_halo-in-loop-depth.ensures (in_word _ c.column-in-loop-depth-2.ensures)
