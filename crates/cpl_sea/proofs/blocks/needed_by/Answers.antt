use Rattle.std.proofs.Common.{arith}
use Rattle.cpl_sea.proofs.blocks.needed_by.Goals as goal

pub returns-clause-least : goal.returns-clause-least
returns-clause-least c = λ most h.
    let west = c.needed.ensures.least most h.west in
    let east = c.needed-2.ensures.least most h.east in
    let south = c.needed-3.ensures.least most h.south in
    let north = c.needed-4.ensures.least most h.north in
    omega (arith, west, east, south, north, c.max.ensures, c.max-along.ensures, c.max-across.ensures)
