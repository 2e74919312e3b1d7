-- The worked example of one column by its pieces: the air is piece 0, the land 1, the ice 2 and the ocean 3.
use Rattle.std.specs.Prelude.{ℕ, ℤ, pos, List, [], ◌∷◌, replicate}
use Rattle.cpl_mosaic.specs.declared.mosaic.Mesh.{Mesh}
use Rattle.cpl_xgrid.specs.declared.grid.Grid.{Grid}
use Rattle.cpl_wires.specs.declared.parts.Purpose.{Purpose}
use Rattle.cpl_wires.specs.declared.parts.Edge.{Edge}
use Rattle.cpl_rounds.specs.Rounds.{PlanParts}
use Rattle.cpl_rounds_tests.specs.OneColumn.{column_grid, column_names, column_start, here}

abbrev pub an_edge : Purpose → (from to : ℕ) → Edge
an_edge purpose from to = record { purpose = purpose; from = from; to = to }

-- rows of an exchange that the piece has no part in
abbrev pub no_rows : (count : ℕ) → List (List ℤ)
no_rows count = replicate count (replicate 4 (pos 0))

-- of what one gives: heat, water and salt
abbrev pub given : (heat water salt : ℤ) → List (List ℤ)
given heat water salt = (pos 0 ∷ heat ∷ pos 0 ∷ pos 0 ∷ []) ∷ (pos 0 ∷ water ∷ pos 0 ∷ pos 0 ∷ []) ∷ (pos 0 ∷ salt ∷ pos 0 ∷ pos 0 ∷ []) ∷ []

-- of what one takes
abbrev pub taken : (heat water salt : ℤ) → List (List ℤ)
taken heat water salt = (pos 0 ∷ pos 0 ∷ heat ∷ pos 0 ∷ []) ∷ (pos 0 ∷ pos 0 ∷ water ∷ pos 0 ∷ []) ∷ (pos 0 ∷ pos 0 ∷ salt ∷ pos 0 ∷ []) ∷ []

-- of what one sends on, with what flew before
abbrev pub sent : (heat_before water_before salt_before heat water salt : ℤ) → List (List ℤ)
sent heat_before water_before salt_before heat water salt =
    (heat_before ∷ heat ∷ pos 0 ∷ heat ∷ []) ∷ (water_before ∷ water ∷ pos 0 ∷ water ∷ []) ∷ (salt_before ∷ salt ∷ pos 0 ∷ salt ∷ []) ∷ []

-- THE SAME WATER UNDER TWO CELLS OF THE AIR, each over half of it

abbrev pub split_air : Mesh
split_air = record { mosaic = record { tiles = record { nx = 2; ny = 1 } ∷ []; contacts = [] }; area = pos 10 ∷ pos 6 ∷ [] }

abbrev pub split_grid : Grid
split_grid = record column_grid {
  air = split_air;
  xgrid = record column_grid.xgrid {
    air = split_air.mosaic.tiles;
    ocean_rows = record { air = here; other = here; area = pos 6 } ∷ record { air = record here { i = 1 }; other = here; area = pos 6 } ∷ [];
  };
}

abbrev pub split_column : PlanParts
split_column = record { grid = split_grid; names = column_names 1; start = record column_start { air_heat = pos 28000 ∷ pos 16800 ∷ []; air_vapour = pos 0 ∷ pos 0 ∷ []; air_sun = pos 100 ∷ pos 60 ∷ [] } }
