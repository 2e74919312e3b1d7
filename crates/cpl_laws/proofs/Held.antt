-- What a state holds is nowhere below 0, and numbers of cells as lists.
use Rattle.std.proofs.Common.{◌≡◌, ℕ, ◌+◌, ◌*◌, ◌<◌, arith, inl, inr, List, length}
use Rattle.std.specs.Prelude.{ℤ, pos, ◌≤ℤ◌, All}
use Rattle.std.specs.List.{range_with_len}
use Rattle.std.proofs.lemmas.Int.{ints}
use Rattle.std.proofs.lemmas.Bool.{cases_lt}
use Rattle.std.proofs.lemmas.List.{get_or_past}
use Rattle.std.proofs.lemmas.List.Elements.{All-map}
use Rattle.std.proofs.lemmas.List.FromFn.{get_or-map-range_with_len}
use Rattle.cpl_fixed.specs.Amounts.{IsAmount, at}
use Rattle.cpl_fixed.specs.Totals.{total_of}
use Rattle.cpl_fixed.specs.declared.limits.TheConstants.{MOST_TOTAL}
use Rattle.cpl_fixed.specs.declared.words.Quantity.{Quantity}
use Rattle.cpl_fixed.specs.declared.words.Quantity.TheVariants.{Heat, Water, Salt}
use Rattle.cpl_xgrid.specs.declared.grid.Grid.{Grid}
use Rattle.cpl_state.specs.declared.whole.Whole.{Whole}
use Rattle.cpl_state.specs.Stored.{IsStored}
use Rattle.cpl_state.specs.States.{ocean_cells, of_cell, AreStored}
use Rattle.cpl_state.specs.Stocks.{flying_to_ice, flying_to_ocean}
use Rattle.cpl_state.specs.FastStep.{for_each}
use Rattle.cpl_diffusion.proofs.Sums.{sum_to-above, total_of-sum_to}
use Rattle.cpl_laws.proofs.Groups.{all_range}
use Rattle.cpl_laws.proofs.Flows.{stored_natural}
use Rattle.cpl_laws.proofs.FastRanges.{cells_natural, stored_total}

module _ (grid : Grid) (whole : Whole) (are : AreStored whole) where
  ice_number : (n k : ℕ) → pos 0 ≤ℤ of_cell 5 n k whole.to_ice
  ice_number n k = stored_natural whole.to_ice are.to_ice (n * 5 + k)

  ocean_number : (n k : ℕ) → pos 0 ≤ℤ of_cell 3 n k whole.to_ocean
  ocean_number n k = stored_natural whole.to_ocean are.to_ocean (n * 3 + k)

  pub flights_to_ice : (q : Quantity) → pos 0 ≤ℤ flying_to_ice grid whole q
  flights_to_ice Heat = cells_natural _ (ocean_cells grid) (λ n l. let a = ice_number n 1 in let b = ice_number n 3 in omega (arith, ints, a, b))
  flights_to_ice Water = cells_natural _ (ocean_cells grid) (λ n l. let a = ice_number n 0 in let b = ice_number n 2 in omega (arith, ints, a, b))
  flights_to_ice Salt = cells_natural _ (ocean_cells grid) (λ n l. ice_number n 4)

  pub flights_to_ocean : (q : Quantity) → pos 0 ≤ℤ flying_to_ocean grid whole q
  flights_to_ocean Heat = cells_natural _ (ocean_cells grid) (λ n l. ocean_number n 1)
  flights_to_ocean Water = cells_natural _ (ocean_cells grid) (λ n l. ocean_number n 0)
  flights_to_ocean Salt = cells_natural _ (ocean_cells grid) (λ n l. ocean_number n 2)

-- no number of a list is above its total
pub stored_most : (xs : List ℤ) → All IsStored xs → (n : ℕ) → at xs n ≤ℤ total_of xs
stored_most xs all n = elim (cases_lt n (length xs)) [
  | inl l ↦
      let most = sum_to-above (at xs) (length xs) (λ i h. stored_natural xs all i) n l in
      let sum = total_of-sum_to xs in
      omega (arith, ints, most, sum)
  | inr past ↦
      let none = get_or_past xs n (pos 0) past in
      let least = stored_total xs all in
      omega (arith, ints, none, least)
]

-- where the total is in range, so is each number
pub stored_amount : (xs : List ℤ) → All IsStored xs → total_of xs ≤ℤ pos MOST_TOTAL → (n : ℕ) → IsAmount (at xs n)
stored_amount xs all most n = let own = stored_most xs all n in (stored_natural xs all n, omega (arith, ints, own, most))

-- an amount can be stored
pub stored : (x : ℤ) → IsAmount x → IsStored x
stored x is = (is.0, omega (arith, ints, is.1))

-- numbers of cells, each an amount
pub all_amounts : (f : ℕ → ℤ) (n : ℕ) → ((i : ℕ) → i < n → IsAmount (f i)) → All IsStored (for_each n f)
all_amounts f n h = All-map IsStored f (range_with_len 0 n) (all_range (λ i. IsStored (f i)) n (λ i l. stored (f i) (h i l)))

pub read_cell : (f : ℕ → ℤ) (n i : ℕ) → i < n → at (for_each n f) i ≡ f i
read_cell f n i l = get_or-map-range_with_len f 0 n i i (pos 0) l (omega arith)
