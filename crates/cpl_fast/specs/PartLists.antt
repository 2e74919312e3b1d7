-- The parts of a surface, by the lists of a state: the first part of each cell, land or open water, and then its categories of ice.
use Rattle.std.specs.Prelude.{◌≡◌, ℕ, zero, suc, ◌+◌, ◌*◌, ◌<◌, length, ℤ}
use Rattle.cpl_fixed.specs.Amounts.{at}
use Rattle.cpl_flux.specs.declared.parts.Kind.{Kind}
use Rattle.cpl_flux.specs.declared.parts.Kind.TheVariants as kind
use Rattle.cpl_flux.specs.declared.parts.Part.{Part}
use Rattle.cpl_mosaic.specs.Contacts.{cells_of}
use Rattle.cpl_xgrid.specs.declared.parts.Surface.{Surface}
use Rattle.cpl_state.specs.Elements.{element_count, tiles_of}
use Rattle.cpl_state.specs.FastStep.{Before, surface_part}
use Rattle.cpl_fast.specs.declared.part_lists.PartLists.{PartLists}
use Rattle.cpl_fast.specs.Places.{place_in}

-- a part by its numbers
abbrev pub part_by : Kind → (heat mass area : ℤ) → Part
part_by kind heat mass area = record { kind = kind; heat = heat; mass = mass; area = area }

-- the area of part k of cell n
abbrev pub area_of_part : PartLists → (n k : ℕ) → ℤ
area_of_part lists n k = at lists.area.now (place_in (length lists.heat.now) n k)

-- part k of cell n
unfoldable pub part_in : PartLists → (n k : ℕ) → Part
part_in lists n zero = part_by lists.first (at lists.heat.now n) (at lists.water.now n) (area_of_part lists n zero)
part_in lists n (suc k) = part_by kind.Ice (at lists.ice_heat.now (n * lists.categories + k)) (at lists.ice.now (n * lists.categories + k)) (area_of_part lists n (suc k))

-- there is a number for each
pub record HaveCounts (lists : PartLists) : Type 0 where
  pub water : length lists.water.now ≡ length lists.heat.now
  pub ice_heat : length lists.ice_heat.now ≡ length lists.heat.now * lists.categories
  pub ice : length lists.ice.now ≡ length lists.heat.now * lists.categories
  pub area : length lists.area.now ≡ length lists.heat.now * (lists.categories + 1)

-- the parts of a surface before a step
pub record AreParts (s : Before) (list : Surface) (lists : PartLists) : Type 0 where
  pub cells : length lists.heat.now ≡ cells_of (tiles_of s.grid list)
  pub categories : element_count s.grid list ≡ lists.categories + 1
  pub counts : HaveCounts lists
  pub each : (n k : ℕ) → n < cells_of (tiles_of s.grid list) → k < element_count s.grid list → part_in lists n k ≡ surface_part s.grid s.mid list n k
