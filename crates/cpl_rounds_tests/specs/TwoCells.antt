-- The worked example of two cells of the ocean side by side: one layer of water, all of it in the first cell, and a coupling step with
-- two steps of the ocean.
use Rattle.std.specs.Prelude.{[], ◌∷◌, pos}
use Rattle.cpl_mosaic.specs.declared.parts.CellId.{CellId}
use Rattle.cpl_namelist.specs.declared.names.Names.{Names}
use Rattle.cpl_xgrid.specs.declared.grid.Grid.{Grid}
use Rattle.cpl_state.specs.declared.whole.Whole.{Whole}
use Rattle.cpl_rounds.specs.Rounds.{PlanParts}
use Rattle.cpl_rounds_tests.specs.OneColumn.{one_cell, here, column_names}

abbrev pub beside : CellId
beside = record { tile = 0; i = 1; j = 0 }

-- both cells have the area 1; the land is dry
abbrev pub cells_grid : Grid
cells_grid = record {
  air = one_cell (pos 2);
  land = one_cell (pos 0);
  ocean = record { mosaic = record { tiles = record { nx = 2; ny = 1 } ∷ []; contacts = [] }; area = pos 1 ∷ pos 1 ∷ [] };
  xgrid = record {
    air = record { nx = 1; ny = 1 } ∷ [];
    land = record { nx = 1; ny = 1 } ∷ [];
    ocean = record { nx = 2; ny = 1 } ∷ [];
    land_rows = [];
    ocean_rows = record { air = here; other = here; area = pos 1 } ∷ record { air = here; other = beside; area = pos 1 } ∷ [];
    outlets = [];
  };
  column = record { layers = 1; categories = 1 };
}

abbrev pub cells_names : Names
cells_names = record (column_names 1) { ocean_steps = 2 }

abbrev pub cells_start : Whole
cells_start = record {
  elapsed = pos 0;
  air_heat = pos 0 ∷ [];
  air_vapour = pos 0 ∷ [];
  air_sun = pos 0 ∷ [];
  land_heat = pos 0 ∷ [];
  land_water = pos 0 ∷ [];
  parts = pos 65536 ∷ pos 0 ∷ pos 65536 ∷ pos 0 ∷ [];
  ice = pos 0 ∷ pos 0 ∷ [];
  ice_heat = pos 0 ∷ pos 0 ∷ [];
  water = pos 80 ∷ pos 0 ∷ [];
  heat = pos 1000 ∷ pos 0 ∷ [];
  salt = pos 16 ∷ pos 0 ∷ [];
  faces = pos 0 ∷ [];
  to_ice = pos 0 ∷ pos 0 ∷ pos 0 ∷ pos 0 ∷ pos 0 ∷ pos 0 ∷ pos 0 ∷ pos 0 ∷ pos 0 ∷ pos 0 ∷ [];
  to_ocean = pos 0 ∷ pos 0 ∷ pos 0 ∷ pos 0 ∷ pos 0 ∷ pos 0 ∷ [];
}

abbrev pub two_cells : PlanParts
two_cells = record { grid = cells_grid; names = cells_names; start = cells_start }
