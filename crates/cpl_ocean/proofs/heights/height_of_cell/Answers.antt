use Rattle.std.proofs.Common.{arith}
use Rattle.std.proofs.lemmas.Int.{ints}
use Rattle.cpl_field.specs.Spots.{CellAt}
use Rattle.cpl_ocean.proofs.heights.height_of_cell.Goals as goal

pub height-requires-clause-area : goal.height-requires-clause-area
height-requires-clause-area c =
    let area = c.requires.areas (CellAt c.args.i c.args.j) c.requires.cell in
    let own = c.get-own.ensures in
    let some = c.if-own-eq0.false in
    (omega (arith, ints, area.0, area.1, own), omega (arith, ints, area.0, area.1, own))
