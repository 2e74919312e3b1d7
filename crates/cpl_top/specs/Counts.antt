-- What a grid has, and the lines that tell it.
use Rattle.std.specs.Prelude.{ℕ, ◌+◌, List, [], ◌∷◌, ◌++◌, length, codes, decimal}
use Rattle.cpl_mosaic.specs.declared.mosaic.Mesh.{Mesh}
use Rattle.cpl_xgrid.specs.declared.grid.Grid.{Grid}
use Rattle.cpl_state.specs.Diffusion.{cell_count}
use Rattle.cpl_top.specs.declared.counts.Kind.TheVariants as kind
use Rattle.cpl_top.specs.declared.counts.Counts.{Counts}

-- what a grid for the air alone has: no land, no ocean, no exchange grid
abbrev pub air_counts : Mesh → Counts
air_counts mesh = record { kind = kind.Air; air = cell_count mesh; land = 0; ocean = 0; exchange = 0; outlets = 0 }

-- what a coupled grid has: the exchange cells are those of both lists
abbrev pub coupled_counts : Grid → Counts
coupled_counts grid = record {
  kind = kind.Coupled;
  air = cell_count grid.air;
  land = cell_count grid.land;
  ocean = cell_count grid.ocean;
  exchange = length grid.xgrid.land_rows + length grid.xgrid.ocean_rows;
  outlets = length grid.xgrid.outlets;
}

-- numbers, each after a blank, and a line feed
abbrev pub numbers_line : List ℕ → List ℕ
numbers_line [] = 10 ∷ []
numbers_line (n ∷ numbers) = codes " " ++ (decimal n ++ numbers_line numbers)

-- what is printed after these words of what a grid has: the cells of its mosaics, its exchange cells and its outlets
abbrev pub counts_line : List ℕ → Counts → List ℕ
counts_line words counts = words ++ numbers_line (counts.air ∷ counts.land ∷ counts.ocean ∷ counts.exchange ∷ counts.outlets ∷ [])

-- what is printed for a run of so many steps on so many cells and exchange cells
abbrev pub done_line : (steps cells exchange : ℕ) → List ℕ
done_line steps cells exchange = codes "done" ++ numbers_line (steps ∷ cells ∷ exchange ∷ [])
