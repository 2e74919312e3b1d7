use Rattle.std.proofs.Common.{arith}
use Rattle.cpl_diffusion.proofs.Across.{across_below}
use Rattle.cpl_diffusion.proofs.faces.previous.Goals as goal

pub overflow_add-result : goal.overflow_add-result
overflow_add-result c =
    let below = across_below c.args.mosaic.now c.requires.mates c.requires.numbers c.args.n c.args.back c.requires.within in
    omega (arith, c.across-cell.ensures, c.cells.ensures.count, c.cells.ensures.rules.sizes.cells)
