use Rattle.cpl_ocean.specs.Pieces.{LoadsCells, LoadsHoles}
use Rattle.cpl_ocean_tests.proofs.Little.{cells_little, empty_ocean, holes_little, loaded}
use Rattle.cpl_ocean_tests.proofs.piece.ocean_of.Goals as goal

pub loop-n-init : goal.loop-n-init
loop-n-init c = empty_ocean c.args.piece.now c.in_ok-area.area c.in_ok-ocean.ocean c.in_ok-area.ensures c.in_ok-ocean.ensures

pub loop-n-preserved : goal.loop-n-preserved
loop-n-preserved c =
    let piece = c.args.piece.now in
    let field = c.in_ok-field.field in
    let of = c.in_ok-field.ensures in
    let cells = loaded piece c.loop-n.n (LoadsCells field) c.loop-n.ocean c.load.new.self c.loop-n-test.true (λ is loads. cells_little piece field _ _ of is loads) c.loop-n.invariant c.load.ensures in
    loaded piece c.loop-n.n (LoadsHoles field) c.load.new.self c.load_halo.new.self c.loop-n-test.true (λ is loads. holes_little piece field _ _ of is loads) cells c.load_halo.ensures
