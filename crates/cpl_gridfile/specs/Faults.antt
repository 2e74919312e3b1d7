-- Faults of a grid.
use Rattle.std.specs.Prelude.{Bool, true, false}
use Rattle.cpl_lines.specs.declared.fault.LinesError.{LinesError}
use Rattle.cpl_lines.specs.declared.fault.LinesError.TheVariants as lines
use Rattle.cpl_xgrid.specs.declared.error.XGridError.{XGridError}
use Rattle.cpl_xgrid.specs.declared.error.XGridError.TheVariants as xgrid
use Rattle.cpl_gridfile.specs.declared.fault.GridError.{GridError}
use Rattle.cpl_gridfile.specs.declared.fault.GridError.TheVariants.{Syntax, Limit, BadIndex, ZeroArea, AirSum, LandSum, OceanSum, Outlet, NoOutlet, Memory}

-- the fault of a grid's text whose lines have this fault
abbrev pub of_lines : LinesError → GridError
of_lines (lines.Syntax number) = Syntax number
of_lines (lines.Limit number) = Limit number
of_lines lines.Memory = Memory

-- out of memory may come in place of any answer
abbrev pub is_memory : GridError → Bool
is_memory Memory = true
is_memory fault = false

-- the fault of a grid whose exchange grid has this fault
abbrev pub of_xgrid : XGridError → GridError
of_xgrid (xgrid.BadIndex list row) = BadIndex list row
of_xgrid (xgrid.ZeroArea list row) = ZeroArea list row
of_xgrid (xgrid.AirSum cell sum area) = AirSum cell sum area
of_xgrid (xgrid.LandSum cell sum area) = LandSum cell sum area
of_xgrid (xgrid.OceanSum cell sum area) = OceanSum cell sum area
of_xgrid (xgrid.Outlet outlet) = Outlet outlet
of_xgrid (xgrid.NoOutlet cell) = NoOutlet cell
of_xgrid xgrid.Memory = Memory
