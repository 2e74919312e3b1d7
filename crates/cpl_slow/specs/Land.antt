-- Cells of the land in lists, and what cells gain.
use Rattle.std.specs.Prelude.{ℕ, List, ℤ, pos, slice_index_or}
use Rattle.cpl_fixed.specs.Amounts.{at}
use Rattle.cpl_fixed.specs.declared.gain.Gain.{Gain}
use Rattle.cpl_land.specs.declared.cell.LandCell.{LandCell}

-- a cell by lists of heat, water and area
abbrev pub cell_of_lists : (heat water area : List ℤ) → ℕ → LandCell
cell_of_lists heat water area n = record { heat = at heat n; water = at water n; area = at area n }

abbrev pub no_gain : Gain
no_gain = record { heat = pos 0; water = pos 0 }

-- what stands at a place of a list of gains
abbrev pub gain_at : List Gain → ℕ → Gain
gain_at gains n = slice_index_or gains n no_gain
