-- The land and the ice together are the slow part.
use Rattle.std.proofs.Common.{◌≡◌, ◌∙◌, sym, ap, subst, ◌*◌, ◌/◌, ◌%◌, ◌<◌, arith, List}
use Rattle.cpl_fixed.specs.Amounts.{at}
use Rattle.cpl_fixed.specs.declared.gain.Gain.{Gain}
use Rattle.cpl_fixed.specs.declared.rates.Rates.{Rates}
use Rattle.cpl_xgrid.specs.declared.grid.Grid.{Grid}
use Rattle.cpl_xgrid.proofs.Offsets.{same_range}
use Rattle.cpl_ice.specs.Slow.{CanSlow}
use Rattle.cpl_state.specs.declared.whole.Whole.{Whole}
use Rattle.cpl_state.specs.declared.whole.Mid.{Mid}
use Rattle.cpl_state.specs.States.{IsMid, categories, ice_cell, ocean_cells, part_count}
use Rattle.cpl_state.specs.Slow.{for_each_place, returned_at, returned_if_wet, slow_after, slow_cell, to_ocean_number}
use Rattle.cpl_state.specs.SlowLaws.{KeepsSlow}
use Rattle.cpl_slow.specs.Ice.{AllCanSlow, back_of}
use Rattle.cpl_slow.specs.Steps.{HasArrived, HasIce, with_dry_land, with_slow_ice}

module _ (grid : Grid) (rates : Rates) (mid : Mid) (whole : Whole) (gains : List Gain) (dry : whole ≡ with_dry_land grid rates mid.whole) (come : HasArrived grid rates mid.whole gains) where
  -- the ice's cells are as before the land drained, and each can slow with what arrives
  pub ready : KeepsSlow grid rates mid → AllCanSlow grid (record mid { whole = whole }) gains
  ready keeps =
      subst (λ (w : Whole). AllCanSlow grid (record mid { whole = w }) gains) (sym dry)
      (come.count, λ n l wet. (keeps.ice n (l, wet), subst (CanSlow (ice_cell grid mid n)) (sym (come.each n l)) (keeps.can_slow n (l, wet))))

  pub has_ice : IsMid grid mid → HasIce grid (record mid { whole = whole })
  has_ice is =
      subst (λ (w : Whole). HasIce grid (record mid { whole = w })) (sym dry) (record {
        skins = record { skin_water = is.skin_water; skin_heat = is.skin_heat; skin_salt = is.skin_salt; frazil_water = is.frazil_water; frazil_heat = is.frazil_heat };
        parts = is.whole.lengths.parts;
        ice = is.whole.lengths.ice;
        ice_heat = is.whole.lengths.ice_heat;
        to_ocean = is.whole.lengths.to_ocean;
      })

  -- what flies to the ocean
  flights : for_each_place grid 3 (λ n k. to_ocean_number (back_of grid rates mid gains n) k) ≡ for_each_place grid 3 (λ n k. to_ocean_number (returned_at grid rates mid n) k)
  unfolding returned_at
  flights =
      same_range (λ i. to_ocean_number (back_of grid rates mid gains (i / 3)) (i % 3)) (λ i. to_ocean_number (returned_at grid rates mid (i / 3)) (i % 3)) (3 * ocean_cells grid)
      (λ i l.
      let within : i / 3 < ocean_cells grid = omega arith in
      ap (λ (gain : Gain). to_ocean_number (returned_if_wet rates (ice_cell grid mid (i / 3)) gain) (i % 3)) (come.each (i / 3) within))

  pub slow_is : with_slow_ice grid rates (record mid { whole = whole }) gains ≡ record mid { whole = slow_after grid rates mid }
  unfolding slow_after slow_cell
  slow_is =
      ap (λ (w : Whole). with_slow_ice grid rates (record mid { whole = w }) gains) dry
      ∙ (λ i. record mid {
        whole = record (with_dry_land grid rates mid.whole) {
          parts = for_each_place grid (part_count grid) (λ n k. at (slow_cell grid rates mid n).parts k);
          ice = for_each_place grid (categories grid) (λ n k. at (slow_cell grid rates mid n).ice k);
          ice_heat = for_each_place grid (categories grid) (λ n k. at (slow_cell grid rates mid n).heat k);
          to_ocean = flights i;
        };
      })
