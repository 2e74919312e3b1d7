use Rattle.std.proofs.Common.{ap, arith, ◌<◌, length}
use Rattle.std.proofs.lemmas.List.{get_or_read}
use Rattle.cpl_ocean.specs.Layers.{no_layer}
use Rattle.cpl_ocean.specs.Pieces.{OceanNumbers}
use Rattle.cpl_ocean.proofs.Ended.{ocean_set}
use Rattle.cpl_ocean.proofs.piece.OceanPiece.add.Goals as goal

pub invariant_of-self : goal.invariant_of-self
invariant_of-self c =
    let layers = c.self.inside.layers.items in
    let count = ap (λ (ocean : OceanNumbers). length ocean.layers) c.self.view_is in
    let some = c.requires.some in
    let within : 0 < length layers = omega arith in
    ocean_set c.self.inside.basin layers 0 c.index_mut.result.now c.set.new.self c.args.i c.args.j c.joined.result c.self.invariant within
    (get_or_read layers 0 c.index_mut.result.now within c.index_mut.ensures.value no_layer) c.set.ensures.fields c.set.ensures.left
