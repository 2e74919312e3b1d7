use Rattle.std.proofs.Common.{◌≡◌, ◌-◌, Some}
use Rattle.cpl_mosaic.specs.Sides.{IsCellOf}
use Rattle.cpl_mosaic.specs.Mates.{walk_of}
use Rattle.cpl_mosaic.proofs.mosaic.Mosaic.walk.Given as goal

abbrev pub invariant-loop-step : goal.invariant-loop-step
invariant-loop-step l = record {
  walked : walk_of l.self (l._step - 1) (l.fn.cell, l.fn.side) ≡ Some l.entered;
  inside : IsCellOf l.self.tiles l.entered.0;
}
