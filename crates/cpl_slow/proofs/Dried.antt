-- The lists of the land after its cells have run off.
use Rattle.std.proofs.Common.{◌≡◌, ◌∙◌, sym, ap, subst, ℕ, ◌<◌, arith, List, length}
use Rattle.std.specs.Prelude.{ℤ, pos}
use Rattle.std.proofs.lemmas.List.FromFn.{fill_by_all}
use Rattle.cpl_fixed.specs.Amounts.{at}
use Rattle.cpl_fixed.specs.declared.gain.Gain.{Gain}
use Rattle.cpl_fixed.specs.declared.rates.Rates.{Rates}
use Rattle.cpl_land.specs.declared.cell.LandCell.{LandCell}
use Rattle.cpl_land.specs.Land.{IsLandCell, dried, runoff}
use Rattle.cpl_xgrid.specs.declared.grid.Grid.{Grid}
use Rattle.cpl_xgrid.specs.Grids.{IsGrid}
use Rattle.cpl_state.specs.declared.whole.Whole.{Whole}
use Rattle.cpl_state.specs.States.{land_cell, land_cells}
use Rattle.cpl_state.specs.FastStep.{for_each}
use Rattle.cpl_state.specs.Slow.{runoff_of}
use Rattle.cpl_slow.specs.Land.{cell_of_lists, gain_at}
use Rattle.cpl_slow.specs.Steps.{CanDrain}

module _ (grid : Grid) (is : IsGrid grid) (rates : Rates) (whole : Whole) (can : CanDrain grid rates whole) (heat water area : List ℤ) (heat_is : heat ≡ whole.land_heat) (water_is : water ≡ whole.land_water) (area_is : area ≡ grid.land.area) where
  same_cell : (n : ℕ) → cell_of_lists heat water area n ≡ land_cell grid whole n
  same_cell n = λ i. record { heat = at (heat_is i) n; water = at (water_is i) n; area = at (area_is i) n }

  pub area_long : length area ≡ land_cells grid
  area_long = ap length area_is ∙ is.land.count

  pub cells_are : (n : ℕ) → n < length area → IsLandCell (cell_of_lists heat water area n)
  cells_are n l = subst IsLandCell (sym (same_cell n)) (can.cell n (omega (arith, area_long)))

  pub heats_after : (new : List ℤ) → length new ≡ length heat → ((n : ℕ) → n < length area → at new n ≡ (dried rates (cell_of_lists heat water area n)).heat)
      → new ≡ for_each (land_cells grid) (λ n. (dried rates (land_cell grid whole n)).heat)
  heats_after new count h =
      fill_by_all (λ n. (dried rates (land_cell grid whole n)).heat) new (land_cells grid) (pos 0) (count ∙ ap length heat_is ∙ can.heat_count)
      (λ n l. h n (omega (arith, area_long)) ∙ ap (λ (cell : LandCell). (dried rates cell).heat) (same_cell n))

  pub waters_after : (new : List ℤ) → length new ≡ length water → ((n : ℕ) → n < length area → at new n ≡ (dried rates (cell_of_lists heat water area n)).water)
      → new ≡ for_each (land_cells grid) (λ n. (dried rates (land_cell grid whole n)).water)
  waters_after new count h =
      fill_by_all (λ n. (dried rates (land_cell grid whole n)).water) new (land_cells grid) (pos 0) (count ∙ ap length water_is ∙ can.water_count)
      (λ n l. h n (omega (arith, area_long)) ∙ ap (λ (cell : LandCell). (dried rates cell).water) (same_cell n))

  pub runoffs_after : (gains new : List Gain) → gains ≡ new → ((n : ℕ) → n < length area → gain_at new n ≡ runoff rates (cell_of_lists heat water area n))
      → (n : ℕ) → n < land_cells grid → gain_at gains n ≡ runoff_of grid rates whole n
  unfolding runoff_of
  runoffs_after gains new e h n l = ap (λ (xs : List Gain). gain_at xs n) e ∙ h n (omega (arith, area_long)) ∙ ap (runoff rates) (same_cell n)
