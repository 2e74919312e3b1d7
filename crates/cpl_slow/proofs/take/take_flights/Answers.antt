use Rattle.std.proofs.Common.{◌≡◌, ◌∙◌, ap, ℕ, ◌*◌, arith, length}
use Rattle.std.specs.Prelude.{pos}
use Rattle.std.proofs.lemmas.List.{get_or-replicate, length-replicate}
use Rattle.std.proofs.lemmas.List.FromFn.{fill_by_all}
use lib.ListN.{replicate}
use Rattle.cpl_fixed.proofs.Lending.{overwritten_is}
use Rattle.cpl_state.specs.States.{ocean_cells, of_cell}
use Rattle.cpl_state.specs.FastStep.{for_each}
use Rattle.cpl_state.specs.CouplingStep.{no_flights, taken}
use Rattle.cpl_slow.proofs.take.take_flights.Goals as goal

-- so many zeros
zeros_are : (n m : ℕ) → n ≡ m → replicate n (pos 0) ≡ no_flights m
zeros_are n m e =
    fill_by_all (λ n. pos 0) (replicate n (pos 0)) m (pos 0) (length-replicate n (pos 0) ∙ e) (λ k l. get_or-replicate n k (pos 0) (pos 0) (omega (arith, e)))

pub returns-clause-value : goal.returns-clause-value
unfolding taken
returns-clause-value c =
    let can = c.requires.can in
    let mid = c.args.mid.now in
    let count = ocean_cells c.args.grid.now in
    let new = c.spread.new in
    let flights = c.as_mut_slice.ensures.value in
    let cells : length c.as_mut_slice-2.result.now ≡ count = ap length c.as_mut_slice-2.ensures.value ∙ can.frazil_water in
    let each : (place : ℕ) → for_each (length c.as_mut_slice-2.result.now) (λ n. of_cell 5 n place c.as_mut_slice.result.now) ≡ for_each count (λ n. of_cell 5 n place mid.whole.to_ice) = λ place i. for_each (cells i) (λ n. of_cell 5 n place (flights i)) in
    let frazil_water = overwritten_is mid.frazil_water new.frazil_water (c.spread.auto.frazil_water ∙ ap length c.as_mut_slice-2.ensures.value) ∙ c.spread.ensures.frazil_water ∙ each 0 in
    let frazil_heat = overwritten_is mid.frazil_heat new.frazil_heat (c.spread.auto.frazil_heat ∙ ap length c.as_mut_slice-3.ensures.value) ∙ c.spread.ensures.frazil_heat ∙ each 1 in
    let skin_water = overwritten_is mid.skin_water new.skin_water (c.spread.auto.skin_water ∙ ap length c.as_mut_slice-4.ensures.value) ∙ c.spread.ensures.skin_water ∙ each 2 in
    let skin_heat = overwritten_is mid.skin_heat new.skin_heat (c.spread.auto.skin_heat ∙ ap length c.as_mut_slice-5.ensures.value) ∙ c.spread.ensures.skin_heat ∙ each 3 in
    let skin_salt = overwritten_is mid.skin_salt new.skin_salt (c.spread.auto.skin_salt ∙ ap length c.as_mut_slice-6.ensures.value) ∙ c.spread.ensures.skin_salt ∙ each 4 in
    let to_ice = overwritten_is mid.whole.to_ice new.flights (c.spread.auto.flights ∙ ap length flights) ∙ c.spread.ensures.flights ∙ ap no_flights (ap length flights ∙ can.to_ice) in
    let to_ocean = c.swap.ensures.list ∙ c.fill.ensures.items (λ y e. e) ∙ zeros_are _ (3 * count) (omega (arith, c.requires.count, c.args.flight.now.ok.0)) in
    λ i. record {
      whole = record mid.whole { to_ice = to_ice i; to_ocean = to_ocean i };
      skin_water = skin_water i;
      skin_heat = skin_heat i;
      skin_salt = skin_salt i;
      frazil_water = frazil_water i;
      frazil_heat = frazil_heat i;
    }
