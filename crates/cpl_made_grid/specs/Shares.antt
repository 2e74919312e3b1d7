-- Sizes, and which cells of the ocean a cell of the air overlaps.
use Rattle.std.specs.Prelude.{ℕ, ◌+◌, ◌-◌, ◌*◌, ◌/◌, ◌≤◌}
use Rattle.cpl_made_grid.specs.declared.shapes.TheConstants.{MOST_SIZE}

-- a size of a made input
pub record IsSized (size : ℕ) : Type 0 where
  pub least : 1 ≤ size
  pub most : size ≤ MOST_SIZE

-- the part behind the last of `oceans` parts of a line that the a-th of `airs` parts overlaps
abbrev pub end_under : (airs oceans a : ℕ) → ℕ
end_under airs oceans a = ((a + 1) * oceans - 1) / airs + 1
