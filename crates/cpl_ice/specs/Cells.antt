-- Cells of the ice: what they hold, and what they take and gain.
use Rattle.std.specs.Prelude.{◌≡◌, ℕ, zero, suc, ◌+ℤ◌, ℤ, pos, All, slice_set, slice_index_or}
pub use Rattle.cpl_fixed.specs.Amounts.{IsAmount}
use Rattle.cpl_fixed.specs.Ranges.{IsFrom, IsFromℤ}
use Rattle.cpl_fixed.specs.Totals.{total_of}
use Rattle.cpl_fixed.specs.declared.limits.TheConstants.{MOST_AREA, MOST_CATEGORIES, PARTS}
use Rattle.cpl_fixed.specs.declared.gain.Gain.{Gain}
use Rattle.cpl_ice.specs.declared.cell.IceCell.{IceCell}
use Rattle.cpl_ice.specs.declared.parts.Salty.{Salty}
use Rattle.cpl_ice.specs.declared.parts.ToIce.{ToIce}

-- water with heat and salt
pub record IsSalty (it : Salty) : Type 0 where
  pub water : IsAmount it.water
  pub heat : IsAmount it.heat
  pub salt : IsAmount it.salt

-- a flight from the ocean
pub record IsFlight (flight : ToIce) : Type 0 where
  pub frazil_water : IsAmount flight.frazil_water
  pub frazil_heat : IsAmount flight.frazil_heat
  pub skin : IsSalty flight.skin

-- a cell with water below it
pub record IsIceCell (cell : IceCell) : Type 0 where
  pub area : IsFromℤ 1 MOST_AREA cell.area
  pub categories : IsFrom 1 MOST_CATEGORIES cell.categories
  pub parts : All IsAmount cell.parts
  pub whole : total_of cell.parts ≡ PARTS
  pub ice : All IsAmount cell.ice
  pub heat : All IsAmount cell.heat
  pub frazil_water : IsAmount cell.frazil_water
  pub frazil_heat : IsAmount cell.frazil_heat
  pub skin : IsSalty cell.skin

-- nothing, as water with heat and salt
abbrev pub nothing : Salty
nothing = record { water = pos 0; heat = pos 0; salt = pos 0 }

-- neither frazil nor skin
pub record HasNoFlight (cell : IceCell) : Type 0 where
  pub frazil_water : cell.frazil_water ≡ pos 0
  pub frazil_heat : cell.frazil_heat ≡ pos 0
  pub skin : cell.skin ≡ nothing

-- the cell with the flight
abbrev pub taken : IceCell → ToIce → IceCell
taken cell flight = record cell {
  frazil_water = flight.frazil_water;
  frazil_heat = flight.frazil_heat;
  skin = flight.skin;
}

-- the heat of a category, counted from 0
abbrev pub heat_at : IceCell → ℕ → ℤ
heat_at cell n = slice_index_or cell.heat n (pos 0)

-- the skin gains heat and water
abbrev pub skin_gained : Salty → Gain → Salty
skin_gained skin gain = record { water = skin.water +ℤ gain.water; heat = skin.heat +ℤ gain.heat; salt = skin.salt }

-- place 0 is the skin, place k is the category k
abbrev pub gained : IceCell → ℕ → Gain → IceCell
gained cell zero gain = record cell { skin = skin_gained cell.skin gain }
gained cell (suc n) gain = record cell { heat = slice_set cell.heat n (heat_at cell n +ℤ gain.heat) }

-- a loss is at most what is there, a gain leaves it in range, and a category gains no water
abbrev pub CanGain : IceCell → ℕ → Gain → Type 0
CanGain cell zero gain = IsAmount (cell.skin.water +ℤ gain.water) × IsAmount (cell.skin.heat +ℤ gain.heat)
CanGain cell (suc n) gain = (gain.water ≡ pos 0) × IsAmount (heat_at cell n +ℤ gain.heat)
