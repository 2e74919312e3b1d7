-- What flies to the ocean is in range.
use Rattle.std.proofs.Common.{subst, ℕ, zero, suc, ◌+◌, ◌*◌, ◌/◌, ◌%◌, ◌<◌, arith}
use Rattle.std.specs.Prelude.{pos, ◌≤ℤ◌, All}
use Rattle.std.proofs.lemmas.Int.{ints}
use Rattle.std.proofs.lemmas.Nat.{div-add-mod', div_below, mod_below}
use Rattle.std.proofs.lemmas.List.Elements.{All-from_get_or}
use Rattle.cpl_fixed.specs.Amounts.{IsAmount, at}
use Rattle.cpl_fixed.specs.Totals.{total_of}
use Rattle.cpl_fixed.specs.declared.limits.TheConstants.{MOST_TOTAL}
use Rattle.cpl_fixed.specs.declared.words.Quantity.{Quantity}
use Rattle.cpl_fixed.specs.declared.words.Quantity.TheVariants.{Heat, Water, Salt}
use Rattle.cpl_namelist.specs.declared.names.Names.{Names}
use Rattle.cpl_namelist.specs.Ranges.{AreNames}
use Rattle.cpl_xgrid.specs.declared.grid.Grid.{Grid}
use Rattle.cpl_state.specs.declared.whole.Whole.{Whole}
use Rattle.cpl_state.specs.States.{ocean_cells, of_cell, IsWhole}
use Rattle.cpl_state.specs.FastStep.{for_each}
use Rattle.cpl_state.specs.Stocks.{held}
use Rattle.cpl_laws.proofs.Flows.{stored_natural}
use Rattle.cpl_laws.proofs.FastRanges.{one_of_cells, stored_total}
use Rattle.cpl_course.specs.Course.{IsGround}
use Rattle.cpl_course.proofs.Oceans.{sea_room}

module _ (grid : Grid) (names : Names) (whole : Whole) (ground : IsGround grid) (are : AreNames names) (lawful : IsWhole grid whole) (room : (q : Quantity) → held grid whole q ≤ℤ pos MOST_TOTAL) where
  abbrev C : ℕ
  C = ocean_cells grid

  kind_most : (k : ℕ) → k < 3 → total_of (for_each C (λ n. of_cell 3 n k whole.to_ocean)) ≤ℤ pos MOST_TOTAL
  kind_most zero l =
      let both = sea_room grid names whole ground are lawful room Water in
      let own = stored_total whole.water lawful.stored.water in
      omega (arith, ints, both, own)
  kind_most (suc zero) l =
      let both = sea_room grid names whole ground are lawful room Heat in
      let own = stored_total whole.heat lawful.stored.heat in
      omega (arith, ints, both, own)
  kind_most (suc (suc zero)) l =
      let both = sea_room grid names whole ground are lawful room Salt in
      let own = stored_total whole.salt lawful.stored.salt in
      omega (arith, ints, both, own)
  kind_most (suc (suc (suc k))) l = absurd (omega arith)

  one_amount : (n k : ℕ) → n < C → k < 3 → IsAmount (of_cell 3 n k whole.to_ocean)
  one_amount n k l h =
      let least = stored_natural whole.to_ocean lawful.stored.to_ocean (n * 3 + k) in
      let most = one_of_cells (λ n. of_cell 3 n k whole.to_ocean) C (λ i j. stored_natural whole.to_ocean lawful.stored.to_ocean (i * 3 + k)) n l in
      let all = kind_most k h in
      (least, omega (arith, ints, most, all))

  pub flight_amounts : All IsAmount whole.to_ocean
  flight_amounts = All-from_get_or IsAmount whole.to_ocean (pos 0) (λ i l.
      let within : i < C * 3 = (let e = lawful.lengths.to_ocean in omega arith) in
      subst (λ (j : ℕ). IsAmount (at whole.to_ocean j)) (div-add-mod' i 3) (one_amount (i / 3) (i % 3) (div_below i 3 C (omega arith) within) (mod_below i 3 (omega arith))))
