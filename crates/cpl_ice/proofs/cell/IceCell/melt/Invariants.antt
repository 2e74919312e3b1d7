use Rattle.std.proofs.Common.{◌≡◌}
use Rattle.std.specs.Prelude.{◌+ℤ◌, ◌≤ℤ◌, pos}
use Rattle.cpl_fixed.specs.Totals.{total_of}
use Rattle.cpl_ice.specs.Cells.{IsIceCell}
use Rattle.cpl_ice.specs.Slow.{melted}
use Rattle.cpl_ice.proofs.cell.IceCell.melt.Given as goal

abbrev pub invariant-loop-n : goal.invariant-loop-n
invariant-loop-n l = record {
  value : l.self ≡ melted l.fn.self l.n;
  cell : IsIceCell l.self;
  water : total_of l.fn.self.ice ≡ total_of l.self.ice +ℤ l.gone.water;
  heat : total_of l.fn.self.heat ≡ total_of l.self.heat +ℤ l.gone.heat;
  least : (pos 0 ≤ℤ l.gone.water) × (pos 0 ≤ℤ l.gone.heat);
}
