-- The ocean's top layer: what it adds when a coupling step begins, and what it cuts off for the ice when it ends.
use Rattle.std.specs.Prelude.{ℕ, ◌+◌, ◌*◌, List, [], ◌∷◌, ◌++◌, map, drop, ℤ}
use Rattle.std.specs.List.{flat_map, range_with_len}
use Rattle.cpl_fixed.specs.Amounts.{at}
use Rattle.cpl_mosaic.specs.declared.mosaic.Mesh.{Mesh}
use Rattle.cpl_ice.specs.declared.parts.Salty.{Salty}
use Rattle.cpl_ice.specs.declared.parts.ToIce.{ToIce}
use Rattle.cpl_transport.specs.Cuts.{cut_of, uncut}
use Rattle.cpl_transport.specs.Salts.{joined}
use Rattle.cpl_state.specs.Diffusion.{cell_count}
use Rattle.cpl_state.specs.Transport.{Sea, cell_in}

-- the ocean with another top layer
abbrev pub with_top : Mesh → Sea → (ℕ → Salty) → Sea
with_top mesh sea top = record sea {
  water = map (λ n. (top n).water) (range_with_len 0 (cell_count mesh)) ++ drop (cell_count mesh) sea.water;
  heat = map (λ n. (top n).heat) (range_with_len 0 (cell_count mesh)) ++ drop (cell_count mesh) sea.heat;
  salt = map (λ n. (top n).salt) (range_with_len 0 (cell_count mesh)) ++ drop (cell_count mesh) sea.salt;
}

-- the flight to the ocean of cell n
abbrev pub to_ocean_at : List ℤ → ℕ → Salty
to_ocean_at to_ocean n = record { water = at to_ocean (3 * n); heat = at to_ocean (3 * n + 1); salt = at to_ocean (3 * n + 2) }

-- the ocean with the flight to it in its top layer
unfoldable pub with_flight : Mesh → Sea → (to_ocean : List ℤ) → Sea
with_flight mesh sea to_ocean = with_top mesh sea (λ n. joined (cell_in mesh sea 0 n) (to_ocean_at to_ocean n))

-- what cell n cuts off its top layer: nothing where it is dry, since it holds nothing
abbrev pub cut_at : Mesh → Sea → ℕ → ToIce
cut_at mesh sea n = cut_of (cell_in mesh sea 0 n)

-- a flight to the ice, as its numbers
abbrev pub to_ice_numbers : ToIce → List ℤ
to_ice_numbers flight = flight.frazil_water ∷ flight.frazil_heat ∷ flight.skin.water ∷ flight.skin.heat ∷ flight.skin.salt ∷ []

-- what all cells cut off
unfoldable pub cut_off : Mesh → Sea → List ℤ
cut_off mesh sea = flat_map (λ n. to_ice_numbers (cut_at mesh sea n)) (range_with_len 0 (cell_count mesh))

-- what is left
unfoldable pub after_cut : Mesh → Sea → Sea
after_cut mesh sea = with_top mesh sea (λ n. uncut (cell_in mesh sea 0 n))
