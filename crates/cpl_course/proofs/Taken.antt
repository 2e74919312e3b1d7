-- All that flies is taken: by what lies over the ice, and by the top layer of the ocean.
use Rattle.std.proofs.Common.{◌≡◌, ◌∙◌, ap, ℕ, ◌+◌, ◌*◌, ◌<◌, ◌≤◌, arith, List, length}
use Rattle.std.specs.Prelude.{ℤ, ◌+ℤ◌, ◌-ℤ◌}
use Rattle.std.proofs.lemmas.Int.{ints}
use Rattle.std.proofs.Math.Nat.{mul-le-mul_left}
use Rattle.cpl_fixed.specs.Amounts.{at}
use Rattle.cpl_fixed.specs.Totals.{total_of}
use Rattle.cpl_fixed.specs.declared.words.Quantity.{Quantity}
use Rattle.cpl_fixed.specs.declared.words.Quantity.TheVariants.{Heat, Water, Salt}
use Rattle.cpl_xgrid.specs.declared.grid.Grid.{Grid}
use Rattle.cpl_state.specs.declared.whole.Whole.{Whole}
use Rattle.cpl_state.specs.States.{ocean_cells, layers, of_cell, HasLengths}
use Rattle.cpl_state.specs.FastStep.{for_each}
use Rattle.cpl_state.specs.Stocks.{flying_to_ice, flying_to_ocean, quantity_of}
use Rattle.cpl_state.specs.Cut.{with_flight}
use Rattle.cpl_state.specs.CouplingStep.{taken, over_ice, added_at}
use Rattle.cpl_laws.proofs.Sums.{cells_same}
use Rattle.cpl_laws.proofs.Held.{read_cell}
use Rattle.cpl_sea.proofs.TopTotals.{new_top, in_top}

module _ (grid : Grid) (whole : Whole) where
  abbrev C : ℕ
  C = ocean_cells grid

  pub ice_took : (q : Quantity) → total_of (for_each C (λ n. quantity_of q (over_ice (taken grid whole) n))) ≡ flying_to_ice grid whole q
  unfolding taken
  ice_took Heat = cells_same _ _ C (λ n l. let a = read_cell (λ n. of_cell 5 n 1 whole.to_ice) C n l in let b = read_cell (λ n. of_cell 5 n 3 whole.to_ice) C n l in λ i. a i +ℤ b i)
  ice_took Water = cells_same _ _ C (λ n l. let a = read_cell (λ n. of_cell 5 n 0 whole.to_ice) C n l in let b = read_cell (λ n. of_cell 5 n 2 whole.to_ice) C n l in λ i. a i +ℤ b i)
  ice_took Salt = cells_same _ _ C (λ n l. read_cell (λ n. of_cell 5 n 4 whole.to_ice) C n l)

  module _ (some : 1 ≤ layers grid) (lengths : HasLengths grid whole) where
    -- a number of the top layer has that of the flight more
    top_added : (xs : List ℤ) → length xs ≡ layers grid * C → (place : ℕ → ℕ) (n : ℕ) → n < C
        → at (new_top C (λ n. at xs (0 * C + n) +ℤ at whole.to_ocean (place n)) xs) (0 * C + n) -ℤ at xs (0 * C + n) ≡ at whole.to_ocean (place n)
    top_added xs long place n l =
        let f = λ (n : ℕ). at xs (0 * C + n) +ℤ at whole.to_ocean (place n) in
        let more : C * 1 ≤ C * layers grid = mul-le-mul_left C some in
        let within : C ≤ length xs = omega (arith, more, long) in
        let e : 0 * C + n ≡ n = omega arith in
        let here = ap (at (new_top C f xs)) e ∙ in_top C f xs within n l in
        omega (arith, ints, here)

    pub ocean_took : (q : Quantity) → total_of (for_each C (λ n. quantity_of q (added_at grid whole n))) ≡ flying_to_ocean grid whole q
    unfolding with_flight
    ocean_took Heat = cells_same _ _ C (λ n l. top_added whole.heat lengths.heat (λ n. 3 * n + 1) n l ∙ ap (at whole.to_ocean) (let e : 3 * n + 1 ≡ n * 3 + 1 = omega arith in e))
    ocean_took Water = cells_same _ _ C (λ n l. top_added whole.water lengths.water (λ n. 3 * n) n l ∙ ap (at whole.to_ocean) (let e : 3 * n ≡ n * 3 + 0 = omega arith in e))
    ocean_took Salt = cells_same _ _ C (λ n l. top_added whole.salt lengths.salt (λ n. 3 * n + 2) n l ∙ ap (at whole.to_ocean) (let e : 3 * n + 2 ≡ n * 3 + 2 = omega arith in e))
