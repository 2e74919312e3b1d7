-- The ocean in a coupling step.
use Rattle.std.specs.Prelude.{ℕ, List, ℤ}
use Rattle.cpl_namelist.specs.declared.names.Names.{Names}
use Rattle.cpl_xgrid.specs.declared.grid.Grid.{Grid}
use Rattle.cpl_state.specs.States.{layers}
use Rattle.cpl_state.specs.Transport.{Sea, stepped_by}
use Rattle.cpl_state.specs.Cut.{with_flight}

-- the ocean that adds a flight and makes this many steps
abbrev pub flown_by : ℕ → Grid → Names → Sea → (flight : List ℤ) → Sea
flown_by n grid names sea flight = stepped_by n grid.ocean (layers grid) names.rates (with_flight grid.ocean sea flight)
