use Rattle.cpl_field.specs.Spots.{number_at}
use Rattle.cpl_ocean.specs.Numbers.{DrivesLayer}
use Rattle.cpl_ocean.proofs.Each.{EachTo}
use Rattle.cpl_ocean.proofs.sweeps.drive_layers.Given as goal

abbrev pub invariant-loop-l : goal.invariant-loop-l
invariant-loop-l l = EachTo (DrivesLayer l.basin.area (number_at l.basin.heights) l.slope) l.l l.fn.layers l.layers
