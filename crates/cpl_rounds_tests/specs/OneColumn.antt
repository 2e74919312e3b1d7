-- The worked example of one column: a cell of the air over one of the land and one of the ocean's mosaic, and a run of one coupling
-- step with one fast step and one step of the ocean.
use Rattle.std.specs.Prelude.{ℕ, List, [], ◌∷◌, ℤ, pos}
use Rattle.cpl_fixed.specs.declared.rates.Rates.{Rates}
use Rattle.cpl_mosaic.specs.declared.parts.CellId.{CellId}
use Rattle.cpl_mosaic.specs.declared.mosaic.Mesh.{Mesh}
use Rattle.cpl_namelist.specs.declared.names.Names.{Names}
use Rattle.cpl_xgrid.specs.declared.grid.Grid.{Grid}
use Rattle.cpl_state.specs.declared.whole.Whole.{Whole}
use Rattle.cpl_rounds.specs.Rounds.{PlanParts}

-- a mesh of one cell
abbrev pub one_cell : ℤ → Mesh
one_cell area = record { mosaic = record { tiles = record { nx = 1; ny = 1 } ∷ []; contacts = [] }; area = area ∷ [] }

-- its cell
abbrev pub here : CellId
here = record { tile = 0; i = 0; j = 0 }

-- an air cell of 16, of which 4 lie over land and 12 over water
abbrev pub column_grid : Grid
column_grid = record {
  air = one_cell (pos 16);
  land = one_cell (pos 4);
  ocean = one_cell (pos 12);
  xgrid = record {
    air = record { nx = 1; ny = 1 } ∷ [];
    land = record { nx = 1; ny = 1 } ∷ [];
    ocean = record { nx = 1; ny = 1 } ∷ [];
    land_rows = record { air = here; other = here; area = pos 4 } ∷ [];
    ocean_rows = record { air = here; other = here; area = pos 12 } ∷ [];
    outlets = record { land = here; ocean = here; weight = pos 1 } ∷ [];
  };
  column = record { layers = 1; categories = 1 };
}

-- the sun at its full strength in each month
abbrev pub all_year : List ℤ
all_year =
    pos 1000 ∷ pos 1000 ∷ pos 1000 ∷ pos 1000 ∷ pos 1000 ∷ pos 1000 ∷ pos 1000 ∷ pos 1000 ∷ pos 1000 ∷ pos 1000 ∷ pos 1000 ∷ pos 1000 ∷ []

-- the namelist's own rates, with more evaporation, and rain from the first vapour on
abbrev pub column_rates : Rates
column_rates = record {
  ca = pos 10;
  kh = pos 1024;
  ke = pos 65536;
  hs = pos 1000;
  ko = pos 1024;
  rc = pos 0;
  month = all_year;
  cl = pos 10;
  cap = pos 10;
  land_albedo = pos 200;
  h0 = pos 100;
  bounds = pos 100 ∷ pos 200 ∷ pos 400 ∷ pos 800 ∷ [];
  ice_albedo = pos 600;
  water_albedo = pos 100;
  slope = 8;
  mix = 6;
}

-- from March 2001 on
abbrev pub column_names : (steps : ℕ) → Names
column_names steps = record {
  start = pos 2001 ∷ pos 3 ∷ pos 1 ∷ pos 0 ∷ pos 0 ∷ pos 0 ∷ [];
  fast = 1;
  ocean_steps = 1;
  steps = steps;
  dt = pos 3600;
  layouts = (1, 1) ∷ (1, 1) ∷ (1, 1) ∷ (1, 1) ∷ [];
  rates = column_rates;
}

abbrev pub column_start : Whole
column_start = record {
  elapsed = pos 0;
  air_heat = pos 44800 ∷ [];
  air_vapour = pos 0 ∷ [];
  air_sun = pos 160 ∷ [];
  land_heat = pos 10920 ∷ [];
  land_water = pos 0 ∷ [];
  parts = pos 65536 ∷ pos 0 ∷ [];
  ice = pos 0 ∷ [];
  ice_heat = pos 0 ∷ [];
  water = pos 400 ∷ [];
  heat = pos 570400 ∷ [];
  salt = pos 40 ∷ [];
  faces = [];
  to_ice = pos 0 ∷ pos 0 ∷ pos 100 ∷ pos 142600 ∷ pos 10 ∷ [];
  to_ocean = pos 50 ∷ pos 71300 ∷ pos 5 ∷ [];
}

abbrev pub one_column : PlanParts
one_column = record { grid = column_grid; names = column_names 1; start = column_start }

-- THE SAME WITHOUT FLIGHTS, OVER COLD WATER, FOR TWO COUPLING STEPS

abbrev pub cold_start : Whole
cold_start = record column_start {
  heat = pos 500000 ∷ [];
  to_ice = pos 0 ∷ pos 0 ∷ pos 0 ∷ pos 0 ∷ pos 0 ∷ [];
  to_ocean = pos 0 ∷ pos 0 ∷ pos 0 ∷ [];
}

abbrev pub cold_column : PlanParts
cold_column = record { grid = column_grid; names = column_names 2; start = cold_start }
