use Rattle.cpl_ocean.specs.Sweeps.{SweepsLayer}
use Rattle.cpl_ocean.specs.Zones.{IsIn}
use Rattle.cpl_ocean.proofs.Each.{EachTo}
use Rattle.cpl_ocean.proofs.sweeps.transport.Given as goal

abbrev pub invariant-loop-l : goal.invariant-loop-l
invariant-loop-l l = EachTo (SweepsLayer l.basin l.slope (IsIn l.zone l.basin.area)) l.l l.fn.layers l.layers
