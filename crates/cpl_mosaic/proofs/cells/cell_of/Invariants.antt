use Rattle.std.proofs.Common.{◌≡◌, ◌<◌, drop}
use Rattle.cpl_mosaic.specs.Contacts.{cells_of}
use Rattle.cpl_mosaic.specs.Cells.{cell_of, cell_from}
use Rattle.cpl_mosaic.proofs.cells.cell_of.Given as goal

abbrev pub invariant-loop-t : goal.invariant-loop-t
invariant-loop-t l = record {
  within : l.rest < cells_of (drop l.t l.tiles);
  same : cell_from l.t (drop l.t l.tiles) l.rest ≡ cell_of l.tiles l.number;
}
