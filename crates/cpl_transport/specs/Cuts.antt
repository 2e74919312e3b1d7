-- What leaves the top layer of the ocean at the end of a coupling step: frazil, and then the skin.
use Rattle.std.specs.Prelude.{ℕ, ◌-◌, ◌*◌, ◌/◌, min, pos, ◌-ℤ◌}
use Rattle.cpl_fixed.specs.Amounts.{amount}
use Rattle.cpl_fixed.specs.declared.limits.TheConstants.{ICE_HEAT, MELT_HEAT, WATER_HEAT}
use Rattle.cpl_ice.specs.declared.parts.Salty.{Salty}
use Rattle.cpl_ice.specs.declared.parts.ToIce.{ToIce}
use Rattle.cpl_transport.specs.Salts.{without}

-- the water that freezes: what the missing heat asks for, at most half of the water, and what the heat can fill
abbrev pub frazil : (water heat : ℕ) → ℕ
frazil water heat =
    min (min ((amount WATER_HEAT * water - heat) / amount MELT_HEAT) (water / 2)) (heat / amount ICE_HEAT)

abbrev pub frazil_of : Salty → ℕ
frazil_of top = frazil (amount top.water) (amount top.heat)

-- the layer without its frazil, which keeps its salt
abbrev pub unfrozen : Salty → Salty
unfrozen top = record {
  water = top.water -ℤ pos (frazil_of top);
  heat = top.heat -ℤ pos (amount ICE_HEAT * frazil_of top);
  salt = top.salt;
}

-- a quarter of water, heat and salt
abbrev pub skin_of : Salty → Salty
skin_of it = record { water = pos (amount it.water / 4); heat = pos (amount it.heat / 4); salt = pos (amount it.salt / 4) }

-- what leaves: frazil with the heat of ice, then the skin of what the frazil left
abbrev pub cut_of : Salty → ToIce
cut_of top = record {
  frazil_water = pos (frazil_of top);
  frazil_heat = pos (amount ICE_HEAT * frazil_of top);
  skin = skin_of (unfrozen top);
}

-- what stays
abbrev pub uncut : Salty → Salty
uncut top = without (unfrozen top) (skin_of (unfrozen top))
