-- What ridging and melt leave as it was.
use Rattle.std.proofs.Common.{◌≡◌, refl, ℕ, zero, suc}
use Rattle.std.specs.Prelude.{Bool, true, false, ◌==◌, if◌then◌else◌}
use Rattle.cpl_fixed.specs.declared.rates.Rates.{Rates}
use Rattle.cpl_ice.specs.declared.cell.IceCell.{IceCell}
use Rattle.cpl_ice.specs.Slow.{amount, at, emptied, is_thick, joined, melted, melting_at, ridged, thinned}

-- neither skin nor frazil changes, and there are as many categories
pub record Keeps (old new : IceCell) : Type 0 where
  pub skin : new.skin ≡ old.skin
  pub frazil_water : new.frazil_water ≡ old.frazil_water
  pub frazil_heat : new.frazil_heat ≡ old.frazil_heat
  pub categories : new.categories ≡ old.categories

keeps_either : (b : Bool) (cell x y : IceCell) → Keeps cell x → Keeps cell y → Keeps cell (if b then x else y)
keeps_either true cell x y h k = h
keeps_either false cell x y h k = k

pub ridged_keeps : (rates : Rates) (cell : IceCell) (n : ℕ) → Keeps cell (ridged rates cell n)
ridged_keeps rates cell zero = record { skin = refl; frazil_water = refl; frazil_heat = refl; categories = refl }
ridged_keeps rates cell (suc n) =
    let past = ridged_keeps rates cell n in
    keeps_either (is_thick rates (ridged rates cell n) n) cell (joined (ridged rates cell n) n) (ridged rates cell n)
    (record { skin = past.skin; frazil_water = past.frazil_water; frazil_heat = past.frazil_heat; categories = past.categories })
    past

pub melted_keeps : (cell : IceCell) (n : ℕ) → Keeps cell (melted cell n)
melted_keeps cell zero = record { skin = refl; frazil_water = refl; frazil_heat = refl; categories = refl }
melted_keeps cell (suc n) =
    let past = melted_keeps cell n in
    keeps_either (melting_at (melted cell n) n == amount (at (melted cell n).ice n)) cell (emptied (melted cell n) n) (thinned (melted cell n) n)
    (record { skin = past.skin; frazil_water = past.frazil_water; frazil_heat = past.frazil_heat; categories = past.categories })
    (record { skin = past.skin; frazil_water = past.frazil_water; frazil_heat = past.frazil_heat; categories = past.categories })
