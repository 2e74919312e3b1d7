use Rattle.std.proofs.Common.{sym, subst, List, ◌-◌}
use Rattle.cpl_mosaic.specs.declared.parts.Tile.{Tile}
use Rattle.cpl_mosaic.specs.declared.parts.CellId.{CellId}
use Rattle.cpl_mosaic.specs.Sides.{IsCellOf}
use Rattle.cpl_strip.proofs.Walked.{edge_inside, walk_inside}
use Rattle.cpl_strip.proofs.halos.taken_by.Goals as goal

pub owner-from-requires : goal.owner-from-requires
owner-from-requires c =
    let edge = subst (λ (cell : CellId). IsCellOf c.args.mosaic.now.tiles cell) (sym c.edge_cell-cell.ensures) (edge_inside c.args.mosaic.now.tiles c.args.piece c.args.hole.side c.args.hole.at c.requires.piece c.requires.hole.at) in
    subst (λ (tiles : List Tile). IsCellOf tiles c.in_ok-cell.cell) (sym c.requires.tiles)
    (walk_inside c.args.mosaic.now (c.args.hole.depth - 1) (c.edge_cell-cell.result, c.args.hole.side) (c.in_ok-cell.cell, c.in_ok-cell.field-0-1) c.requires.mates edge (sym c.in_ok-cell.ensures))
