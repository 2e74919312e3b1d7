use Rattle.std.proofs.Common.{◌≡◌}
use Rattle.cpl_fixed.specs.Totals.{total_of}
use Rattle.cpl_ice.specs.Cells.{IsIceCell}
use Rattle.cpl_ice.specs.Slow.{ridged}
use Rattle.cpl_ice.proofs.cell.IceCell.ridge.Given as goal

abbrev pub invariant-loop-n : goal.invariant-loop-n
invariant-loop-n l = record {
  value : l.self ≡ ridged l.rates l.fn.self l.n;
  cell : IsIceCell l.self;
  water : total_of l.self.ice ≡ total_of l.fn.self.ice;
  heat : total_of l.self.heat ≡ total_of l.fn.self.heat;
}
