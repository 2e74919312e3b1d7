use Rattle.std.proofs.Common.{ap, arith, ◌<◌, length}
use Rattle.std.proofs.lemmas.List.{get_or_read}
use Rattle.cpl_transport.proofs.Bounds.{read}
use Rattle.cpl_ocean.specs.Layers.{no_layer}
use Rattle.cpl_ocean.specs.Pieces.{OceanNumbers, SetsHole}
use Rattle.cpl_ocean.proofs.Loaded.{ocean_loaded}
use Rattle.cpl_ocean.proofs.piece.OceanPiece.set_hole.Goals as goal

pub invariant_of-self : goal.invariant_of-self
invariant_of-self c =
    let layers = c.self.inside.layers.items in
    let count = ap (λ (ocean : OceanNumbers). length ocean.layers) c.self.view_is in
    let some = c.requires.layer in
    let within : c.args.layer < length layers = omega arith in
    ocean_loaded (SetsHole c.args.side c.args.at c.args.depth (read c.args.x)) (λ f g sets. sets.shape) c.self.inside.basin layers c.args.layer c.args.n c.index_mut.result.now c.set_hole.new.self c.self.invariant within
    (get_or_read layers c.args.layer c.index_mut.result.now within c.index_mut.ensures.value no_layer) c.set_hole.ensures
