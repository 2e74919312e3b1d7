use Rattle.std.proofs.Common.{subst, sym}
use Rattle.cpl_mosaic.specs.declared.parts.CellId.{CellId}
use Rattle.cpl_mosaic.specs.Sides.{IsCellOf}
use Rattle.cpl_diffusion.proofs.faces.across.Goals as goal

pub number-requires : goal.number-requires
number-requires c =
    let is = subst (λ (a : CellId). IsCellOf c.args.mosaic.now.tiles a) (sym c.cell.ensures) (c.requires.numbers.is_cell c.args.n c.requires.within) in
    c.requires.mates.within (c.cell.result, c.args.side) (c.in-Some.cell, c.in-Some.field-0-1) is (sym c.in-Some.ensures.mate)
