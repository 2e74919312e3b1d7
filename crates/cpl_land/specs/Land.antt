-- The land: gains of a fast step, and runoff.
use Rattle.std.specs.Prelude.{ℕ, ◌-◌, ◌*◌, ◌/◌, min, ℤ, pos, ◌+ℤ◌, ◌-ℤ◌}
pub use Rattle.cpl_fixed.specs.Amounts.{amount}
use Rattle.cpl_fixed.specs.Ranges.{IsFromℤ}
use Rattle.cpl_fixed.specs.declared.limits.TheConstants.{MOST_AREA, MOST_TOTAL, WATER_HEAT}
use Rattle.cpl_fixed.specs.declared.gain.Gain.{Gain}
use Rattle.cpl_fixed.specs.declared.rates.Rates.{Rates}
use Rattle.cpl_land.specs.declared.cell.LandCell.{LandCell}

-- a cell of the land
pub record IsLandCell (cell : LandCell) : Type 0 where
  pub heat : IsFromℤ 0 MOST_TOTAL cell.heat
  pub water : IsFromℤ 0 MOST_TOTAL cell.water
  pub area : IsFromℤ 0 MOST_AREA cell.area

-- a loss is at most what is there, and a gain leaves it in range
pub record CanGain (cell : LandCell) (gain : Gain) : Type 0 where
  pub heat : IsFromℤ 0 MOST_TOTAL (cell.heat +ℤ gain.heat)
  pub water : IsFromℤ 0 MOST_TOTAL (cell.water +ℤ gain.water)

-- the cell with what it gains
abbrev pub gained : LandCell → Gain → LandCell
gained cell gain = record { heat = cell.heat +ℤ gain.heat; water = cell.water +ℤ gain.water; area = cell.area }

-- the water above what the area holds
abbrev pub runoff_water : Rates → LandCell → ℕ
runoff_water rates cell = amount cell.water - amount rates.cap * amount cell.area

-- that water, with its heat at freezing and at most half of the cell's
abbrev pub runoff : Rates → LandCell → Gain
runoff rates cell = record {
  heat = pos (min (amount WATER_HEAT * runoff_water rates cell) (amount cell.heat / 2));
  water = pos (runoff_water rates cell);
}

-- the cell without its runoff
abbrev pub dried : Rates → LandCell → LandCell
dried rates cell = record {
  heat = cell.heat -ℤ (runoff rates cell).heat;
  water = cell.water -ℤ (runoff rates cell).water;
  area = cell.area;
}
