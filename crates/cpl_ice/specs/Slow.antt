-- The slow step of the ice: frazil, ridging up the categories, melt, and what goes back to the ocean.
use Rattle.std.specs.Prelude.{ℕ, zero, suc, ◌+◌, ◌-◌, ◌*◌, ◌/◌, ◌==◌, ◌≤ℤ◌, ◌+ℤ◌, ◌-ℤ◌, neg_ℤ, ℤ, pos, min, nat_lt, Bool, false, List, slice_set, if◌then◌else◌}
pub use Rattle.cpl_fixed.specs.Amounts.{amount, at}
use Rattle.cpl_fixed.specs.Totals.{total_of}
use Rattle.cpl_fixed.specs.declared.limits.TheConstants.{ICE_HEAT, MELT_HEAT, WATER_HEAT, PARTS, MOST_TOTAL}
use Rattle.cpl_fixed.specs.declared.gain.Gain.{Gain}
use Rattle.cpl_fixed.specs.declared.rates.Rates.{Rates}
use Rattle.cpl_ice.specs.declared.cell.IceCell.{IceCell}
use Rattle.cpl_ice.specs.declared.parts.Salty.{Salty}
use Rattle.cpl_ice.specs.Cells.{nothing}

-- the list with x more at a place
abbrev pub added : List ℤ → ℕ → ℤ → List ℤ
added xs n x = slice_set xs n (at xs n +ℤ x)

-- the list where x moves from one place to another
abbrev pub moved : List ℤ → (from to : ℕ) → ℤ → List ℤ
moved xs from to x = added (added xs from (neg_ℤ x)) to x

-- the part of the area that the frazil closes, which is open water
abbrev pub closed_part : Rates → IceCell → ℤ
closed_part rates cell =
    pos (min (amount (at cell.parts 0)) (amount cell.frazil_water * amount PARTS / (amount rates.h0 * amount cell.area)))

-- first, the frazil joins category 1 with its heat
abbrev pub frozen : Rates → IceCell → IceCell
frozen rates cell = record cell {
  parts = moved cell.parts 0 1 (closed_part rates cell);
  ice = added cell.ice 0 cell.frazil_water;
  heat = added cell.heat 0 cell.frazil_heat;
  frazil_water = pos 0;
  frazil_heat = pos 0;
}

-- whether the category at n, which has a part, is thicker than its bound
abbrev pub is_thick : Rates → IceCell → ℕ → Bool
is_thick rates cell n =
    if amount (at cell.parts (n + 1)) == 0
    then false
    else nat_lt (amount (at rates.bounds n) * amount (at cell.parts (n + 1)) * amount cell.area) (amount (at cell.ice n) * amount PARTS)

-- the category at n joins the next with ice, heat and part
abbrev pub joined : IceCell → ℕ → IceCell
joined cell n = record cell {
  parts = moved cell.parts (n + 1) (n + 2) (at cell.parts (n + 1));
  ice = moved cell.ice n (n + 1) (at cell.ice n);
  heat = moved cell.heat n (n + 1) (at cell.heat n);
}

abbrev pub ridged_at : Rates → IceCell → ℕ → IceCell
ridged_at rates cell n = if is_thick rates cell n then joined cell n else cell

-- second, the categories below n ridge in rising order, each with what joined it
abbrev pub ridged : Rates → IceCell → ℕ → IceCell
ridged rates cell zero = cell
ridged rates cell (suc n) = ridged_at rates (ridged rates cell n) n

-- what melts of ice with this heat
abbrev pub melting : (ice heat : ℕ) → ℕ
melting ice heat = min ice ((heat - amount ICE_HEAT * ice) / amount MELT_HEAT)

-- what melts of the category at n
abbrev pub melting_at : IceCell → ℕ → ℕ
melting_at cell n = melting (amount (at cell.ice n)) (amount (at cell.heat n))

-- a category that has no ice left loses all its heat, and its part becomes open water
abbrev pub emptied : IceCell → ℕ → IceCell
emptied cell n = record cell {
  parts = moved cell.parts (n + 1) 0 (at cell.parts (n + 1));
  ice = added cell.ice n (neg_ℤ (at cell.ice n));
  heat = added cell.heat n (neg_ℤ (at cell.heat n));
}

-- another loses what melts, as water at freezing
abbrev pub thinned : IceCell → ℕ → IceCell
thinned cell n = record cell {
  ice = added cell.ice n (neg_ℤ (pos (melting_at cell n)));
  heat = added cell.heat n (neg_ℤ (pos (amount WATER_HEAT * melting_at cell n)));
}

abbrev pub melted_at : IceCell → ℕ → IceCell
melted_at cell n = if melting_at cell n == amount (at cell.ice n) then emptied cell n else thinned cell n

-- third, the categories below n melt
abbrev pub melted : IceCell → ℕ → IceCell
melted cell zero = cell
melted cell (suc n) = melted_at (melted cell n) n

-- the cell before its ice melts
abbrev pub before_melt : Rates → IceCell → IceCell
before_melt rates cell = ridged rates (frozen rates cell) (cell.categories - 1)

-- the cell after its ice has melted
abbrev pub after_melt : Rates → IceCell → IceCell
after_melt rates cell = melted (before_melt rates cell) cell.categories

-- the cell after the slow step, whose skin has left
abbrev pub slowed : Rates → IceCell → IceCell
slowed rates cell = record (after_melt rates cell) { skin = nothing }

-- last, the skin, what left by melting and the runoff that arrived go back to the ocean
abbrev pub returned : Rates → IceCell → Gain → Salty
returned rates cell runoff = record {
  water = cell.skin.water +ℤ (total_of (before_melt rates cell).ice -ℤ total_of (after_melt rates cell).ice) +ℤ runoff.water;
  heat = cell.skin.heat +ℤ (total_of (before_melt rates cell).heat -ℤ total_of (after_melt rates cell).heat) +ℤ runoff.heat;
  salt = cell.skin.salt;
}

-- all water of the cell, as ice, frazil and skin
abbrev pub water_of : IceCell → ℤ
water_of cell = total_of cell.ice +ℤ cell.frazil_water +ℤ cell.skin.water

-- all its heat
abbrev pub heat_of : IceCell → ℤ
heat_of cell = total_of cell.heat +ℤ cell.frazil_heat +ℤ cell.skin.heat

-- runoff isn't negative, and with it the cell's water and heat are in range
pub record CanSlow (cell : IceCell) (runoff : Gain) : Type 0 where
  pub runoff_water : pos 0 ≤ℤ runoff.water
  pub runoff_heat : pos 0 ≤ℤ runoff.heat
  pub water : (water_of cell +ℤ runoff.water) ≤ℤ pos MOST_TOTAL
  pub heat : (heat_of cell +ℤ runoff.heat) ≤ℤ pos MOST_TOTAL

-- the ice and its heat are in range
pub record AreBounded (cell : IceCell) : Type 0 where
  pub water : total_of cell.ice ≤ℤ pos MOST_TOTAL
  pub heat : total_of cell.heat ≤ℤ pos MOST_TOTAL
