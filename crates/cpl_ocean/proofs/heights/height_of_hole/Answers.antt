use Rattle.std.proofs.Common.{arith}
use Rattle.std.proofs.lemmas.Int.{ints}
use Rattle.cpl_field.specs.Spots.{HoleAt}
use Rattle.cpl_ocean.proofs.heights.height_of_hole.Goals as goal

pub height-requires-clause-area : goal.height-requires-clause-area
height-requires-clause-area c =
    let area = c.requires.areas (HoleAt c.args.side c.args.at 1) c.requires.hole in
    let own = c.halo-own.ensures in
    let some = c.if-own-eq0.false in
    (omega (arith, ints, area.0, area.1, own), omega (arith, ints, area.0, area.1, own))
