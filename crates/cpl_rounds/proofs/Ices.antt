-- The rounds of the ice.
use Rattle.std.proofs.Common.{◌≡◌, ◌∙◌, refl, sym, ap, ℕ, zero, suc, ◌+◌, ◌<◌, ◌≤◌, arith, inl, inr, List}
use Rattle.std.specs.Prelude.{true, ℤ, pos, negsuc, ◌≢◌, ◌+ℤ◌, nat_lt, slice_set}
use Rattle.std.proofs.lemmas.Int.{ints}
use Rattle.std.proofs.lemmas.Bool.{cases_eq, lt-ltb, cond-true}
use Rattle.std.proofs.lemmas.List.{get_or-set_same, get_or-set_other}
use Rattle.cpl_fixed.specs.Amounts.{amount, at}
use Rattle.cpl_fixed.specs.declared.limits.TheConstants.{MOST_CATEGORIES}
use Rattle.cpl_fixed.specs.declared.gain.Gain.{Gain}
use Rattle.cpl_fixed.specs.declared.rates.Rates.{Rates}
use Rattle.cpl_ice.specs.declared.cell.IceCell.{IceCell}
use Rattle.cpl_ice.specs.Cells.{nothing, skin_gained, gained, taken as with_flight_in}
use Rattle.cpl_ice.specs.Slow.{slowed}
use Rattle.cpl_xgrid.specs.declared.grid.Grid.{Grid}
use Rattle.cpl_xgrid.specs.declared.parts.Surface.TheVariants.{Ocean}
use Rattle.cpl_xgrid.specs.Lists.{IsColumn}
use Rattle.cpl_state.specs.declared.whole.Whole.{Whole}
use Rattle.cpl_state.specs.declared.whole.Mid.{Mid}
use Rattle.cpl_state.specs.States.{ocean_cells, categories, part_count, of_cell, ice_cell, flight_to_ice, flight_to_ocean, IsWet}
use Rattle.cpl_state.specs.FastStep.{Before, category_heat_after, category_taken, fast_after, for_each_category, part_absorbed, skin_after}
use Rattle.cpl_state.specs.Slow.{arrived, returned_at, returned_if_wet, slow_after, slow_cell, slowed_if_wet, to_ocean_number}
use Rattle.cpl_state.specs.CouplingStep.{after_fast, step_after, taken}
use Rattle.cpl_rounds.specs.Rounds.{PlanParts, state_at, mid_at, fast_step, ice_at, without_flight, part_gain, gained_by, to_ice_at, to_ocean_at}
use Rattle.cpl_rounds.proofs.States.{read_cell, read_place, state_next, mid_first, mid_next, mid_last}
use Rattle.cpl_rounds.proofs.Shapes.{filled, IsFilled, filled_at, is_filled, as_filled, set_filled, HasShape, either, slowed_shape, no_frazil_water, no_frazil_heat}

-- THE FLIGHT

taken_cell : (grid : Grid) (whole : Whole) (c : ℕ) → c < ocean_cells grid
    → ice_cell grid (taken grid whole) c ≡ with_flight_in (without_flight (ice_cell grid (taken grid whole) c)) (flight_to_ice whole c)
unfolding taken
taken_cell grid whole c l =
    let C = ocean_cells grid in
    λ t. record (ice_cell grid (taken grid whole) c) {
      frazil_water = read_cell (λ n. (flight_to_ice whole n).frazil_water) C c l t;
      frazil_heat = read_cell (λ n. (flight_to_ice whole n).frazil_heat) C c l t;
      skin = record {
        water = read_cell (λ n. (flight_to_ice whole n).skin.water) C c l t;
        heat = read_cell (λ n. (flight_to_ice whole n).skin.heat) C c l t;
        salt = read_cell (λ n. (flight_to_ice whole n).skin.salt) C c l t;
      };
    }

pub ice_flight : (plan : PlanParts) (n c : ℕ) → c < ocean_cells plan.grid → ice_at plan n 1 c ≡ with_flight_in (ice_at plan n 0 c) (to_ice_at plan n c)
unfolding ice_at
ice_flight plan n c l =
    ap (λ (mid : Mid). ice_cell plan.grid mid c) (mid_first plan n)
    ∙ taken_cell plan.grid (state_at plan n) c l
    ∙ ap (λ (mid : Mid). with_flight_in (without_flight (ice_cell plan.grid mid c)) (to_ice_at plan n c)) (sym (mid_first plan n))

-- FAST STEPS

-- heats of categories of which the first have gained
heats_by : (count : ℕ) → (gain : ℕ → Gain) → List ℤ → List ℤ
heats_by zero gain heats = heats
heats_by (suc k) gain heats = slice_set (heats_by k gain heats) k (at (heats_by k gain heats) k +ℤ (gain (suc k)).heat)

gained_is : (k : ℕ) (gain : ℕ → Gain) (cell : IceCell) → gained_by (suc k) gain cell ≡ record cell { heat = heats_by k gain cell.heat; skin = skin_gained cell.skin (gain 0) }
unfolding heats_by
gained_is zero gain cell = refl
gained_is (suc k) gain cell = ap (λ (it : IceCell). gained it (suc k) (gain (suc k))) (gained_is k gain cell)

-- such heats: each that has gained is more, and the others are as they were
record HaveGained (K k : ℕ) (gain : ℕ → Gain) (f : ℕ → ℤ) (heats : List ℤ) : Type 0 where
  filled : IsFilled 5 K heats
  more : (j : ℕ) → j < k → at heats j ≡ f j +ℤ (gain (suc j)).heat
  same : (j : ℕ) → k ≤ j → j < K → at heats j ≡ f j

have_gained : (K k : ℕ) (gain : ℕ → Gain) (f : ℕ → ℤ) → k ≤ K → K ≤ 5 → HaveGained K k gain f (heats_by k gain (filled 5 K f))
unfolding heats_by
have_gained K zero gain f l few = record {
  filled = is_filled 5 K f;
  more = λ j h. absurd (omega arith);
  same = λ j h i. filled_at 5 K f j i few;
}
have_gained K (suc k) gain f l few =
    let past = have_gained K k gain f (omega arith) few in
    let heats = heats_by k gain (filled 5 K f) in
    let x = at heats k +ℤ (gain (suc k)).heat in
    let long = past.filled.long in
    record {
      filled = set_filled 5 K heats k x past.filled (omega arith);
      more = λ j h. elim (cases_eq j k) [
        | inl e ↦
            ap (at (slice_set heats k x)) e
            ∙ get_or-set_same heats k x (pos 0) (omega arith)
            ∙ ap (λ (was : ℤ). was +ℤ (gain (suc k)).heat) (past.same k (omega arith) (omega arith))
            ∙ ap (λ (m : ℕ). f m +ℤ (gain (suc m)).heat) (sym e)
        | inr other ↦ get_or-set_other heats k j x (pos 0) other ∙ past.more j (omega arith)
      ];
      same = λ j h i. get_or-set_other heats k j x (pos 0) (λ e. omega arith) ∙ past.same j (omega arith) i;
    }

-- heat, sun and what was there, in either order
with_both : (a b c : ℤ) → a +ℤ (b +ℤ c) ≡ a +ℤ b +ℤ c
with_both a b c = omega (arith, ints)

fast_cell : (s : Before) (c : ℕ) → IsColumn s.grid.column → c < ocean_cells s.grid
    → ice_cell s.grid (fast_after s) c ≡ gained_by (part_count s.grid) (part_gain s c) (ice_cell s.grid s.mid c)
unfolding fast_after
fast_cell s c column l =
    let C = ocean_cells s.grid in
    let K = categories s.grid in
    let cell = ice_cell s.grid s.mid c in
    let f : ℕ → ℤ = λ k. of_cell K c k s.mid.whole.ice_heat in
    let few : K ≤ 5 = column.categories.1 in
    let now = have_gained K K (part_gain s c) f (omega arith) few in
    let heats : heats_by K (part_gain s c) cell.heat ≡ filled 5 K (λ k. of_cell K c k (for_each_category s.grid (category_heat_after s))) =
    as_filled 5 K (heats_by K (part_gain s c) cell.heat) (λ k. of_cell K c k (for_each_category s.grid (category_heat_after s))) now.filled
    (λ k h. now.more k h ∙ with_both (f k) (category_taken s c k) (part_absorbed s Ocean c (k + 1)) ∙ sym (read_place s.grid K (category_heat_after s) c k l h)) in
    let all : suc K ≡ part_count s.grid = omega arith in
    (λ t. record cell {
      heat = sym heats t;
      skin = record {
        water = read_cell (λ m. (skin_after s m).water) C c l t;
        heat = read_cell (λ m. (skin_after s m).heat) C c l t;
        salt = at s.mid.skin_salt c;
      };
    })
    ∙ sym (gained_is K (part_gain s c) cell)
    ∙ ap (λ (m : ℕ). gained_by m (part_gain s c) cell) all

pub ice_fast : (plan : PlanParts) (n i c : ℕ) → IsColumn plan.grid.column → c < ocean_cells plan.grid
    → ice_at plan n (i + 2) c ≡ gained_by (part_count plan.grid) (part_gain (fast_step plan n i) c) (ice_at plan n (i + 1) c)
unfolding ice_at
ice_fast plan n i c column l =
    let later : i + 2 ≡ suc (i + 1) = omega arith in
    let next : suc i ≡ i + 1 = omega arith in
    ap (λ (r : ℕ). ice_at plan n r c) later
    ∙ ap (λ (mid : Mid). ice_cell plan.grid mid c) (mid_next plan n i)
    ∙ fast_cell (fast_step plan n i) c column l
    ∙ ap (λ (r : ℕ). gained_by (part_count plan.grid) (part_gain (fast_step plan n i) c) (ice_at plan n r c)) next

-- THE SLOW STEP

-- a cell of the ice has the shape of its grid
cell_shape : (grid : Grid) (mid : Mid) (c : ℕ) → HasShape (categories grid) (at grid.ocean.area c) (ice_cell grid mid c)
cell_shape grid mid c = record {
  count = refl;
  area = refl;
  parts = is_filled (MOST_CATEGORIES + 1) (part_count grid) (λ k. of_cell (part_count grid) c k mid.whole.parts);
  ice = is_filled MOST_CATEGORIES (categories grid) (λ k. of_cell (categories grid) c k mid.whole.ice);
  heat = is_filled MOST_CATEGORIES (categories grid) (λ k. of_cell (categories grid) c k mid.whole.ice_heat);
}

slow_shape : (grid : Grid) (rates : Rates) (mid : Mid) (c : ℕ) → IsColumn grid.column → HasShape (categories grid) (at grid.ocean.area c) (slow_cell grid rates mid c)
unfolding slow_cell
slow_shape grid rates mid c column =
    let K = categories grid in
    let a = at grid.ocean.area c in
    let own = cell_shape grid mid c in
    either (HasShape K a) (nat_lt 0 (amount a)) (slowed rates (ice_cell grid mid c)) (ice_cell grid mid c) (slowed_shape rates K a column.categories.0 (ice_cell grid mid c) own) own

-- what the next coupling step finds of a cell of the ice
slow_next : (grid : Grid) (rates : Rates) (mid : Mid) (next : Whole) (c : ℕ) → IsColumn grid.column → c < ocean_cells grid
    → next.parts ≡ (slow_after grid rates mid).parts → next.ice ≡ (slow_after grid rates mid).ice → next.ice_heat ≡ (slow_after grid rates mid).ice_heat
    → without_flight (slow_cell grid rates mid c) ≡ without_flight (ice_cell grid (taken grid next) c)
unfolding taken slow_after
slow_next grid rates mid next c column l parts_are ice_is heat_is =
    let K = categories grid in
    let cell = slow_cell grid rates mid c in
    let shape = slow_shape grid rates mid c column in
    let parts : cell.parts ≡ filled 6 (K + 1) (λ k. of_cell (K + 1) c k next.parts) =
    as_filled 6 (K + 1) cell.parts (λ k. of_cell (K + 1) c k next.parts) shape.parts
    (λ k h. sym (ap (of_cell (K + 1) c k) parts_are ∙ read_place grid (K + 1) (λ n k. at (slow_cell grid rates mid n).parts k) c k l h)) in
    let ice : cell.ice ≡ filled 5 K (λ k. of_cell K c k next.ice) =
    as_filled 5 K cell.ice (λ k. of_cell K c k next.ice) shape.ice
    (λ k h. sym (ap (of_cell K c k) ice_is ∙ read_place grid K (λ n k. at (slow_cell grid rates mid n).ice k) c k l h)) in
    let heat : cell.heat ≡ filled 5 K (λ k. of_cell K c k next.ice_heat) =
    as_filled 5 K cell.heat (λ k. of_cell K c k next.ice_heat) shape.heat
    (λ k h. sym (ap (of_cell K c k) heat_is ∙ read_place grid K (λ n k. at (slow_cell grid rates mid n).heat k) c k l h)) in
    λ t. record {
      area = shape.area t;
      categories = shape.count t;
      parts = parts t;
      ice = ice t;
      heat = heat t;
      frazil_water = pos 0;
      frazil_heat = pos 0;
      skin = nothing;
    }

-- the slow part with another ocean after it leaves the ice as it is
step_ice : (plan : PlanParts) (n c : ℕ) → IsColumn plan.grid.column → c < ocean_cells plan.grid
    → without_flight (slow_cell plan.grid plan.names.rates (after_fast plan.grid plan.names (state_at plan n)) c)
    ≡ without_flight (ice_cell plan.grid (taken plan.grid (step_after plan.grid plan.names (state_at plan n))) c)
unfolding step_after
step_ice plan n c column l =
    slow_next plan.grid plan.names.rates (after_fast plan.grid plan.names (state_at plan n)) (step_after plan.grid plan.names (state_at plan n)) c column l refl refl refl

pub ice_last : (plan : PlanParts) (n c : ℕ) → IsColumn plan.grid.column → c < ocean_cells plan.grid
    → without_flight (slowed_if_wet plan.names.rates (ice_at plan n (plan.names.fast + 1) c)) ≡ ice_at plan (n + 1) 0 c
unfolding ice_at slow_cell
ice_last plan n c column l =
    let last : plan.names.fast + 1 ≡ suc plan.names.fast = omega arith in
    ap (λ (r : ℕ). without_flight (slowed_if_wet plan.names.rates (ice_at plan n r c))) last
    ∙ ap (λ (mid : Mid). without_flight (slow_cell plan.grid plan.names.rates mid c)) (mid_last plan n)
    ∙ step_ice plan n c column l
    ∙ ap (λ (whole : Whole). without_flight (ice_cell plan.grid (taken plan.grid whole) c)) (sym (state_next plan n))
    ∙ ap (λ (mid : Mid). without_flight (ice_cell plan.grid mid c)) (sym (mid_first plan (n + 1)))

-- an area makes a cell wet
some_area : (a : ℤ) → a ≢ pos 0 → nat_lt 0 (amount a) ≡ true
some_area (pos zero) some = absurd (some refl)
some_area (pos (suc n)) some = lt-ltb 0 (suc n) (omega arith)
some_area (negsuc n) some = lt-ltb 0 (suc n) (omega arith)

-- the slow step leaves neither frazil nor skin
used_up : (rates : Rates) (cell : IceCell) → slowed rates cell ≡ without_flight (slowed rates cell)
used_up rates cell = λ t. record (slowed rates cell) { frazil_water = no_frazil_water rates cell t; frazil_heat = no_frazil_heat rates cell t; skin = nothing }

wet_cell : (rates : Rates) (cell : IceCell) → cell.area ≢ pos 0 → slowed rates cell ≡ without_flight (slowed_if_wet rates cell)
wet_cell rates cell some = used_up rates cell ∙ ap without_flight (sym (cond-true _ _ _ (some_area cell.area some)))

own_area : (plan : PlanParts) (n i c : ℕ) → (ice_at plan n (i + 1) c).area ≡ at plan.grid.ocean.area c
unfolding ice_at
own_area plan n i c = let next : i + 1 ≡ suc i = omega arith in ap (λ (r : ℕ). (ice_at plan n r c).area) next

pub ice_wet : (plan : PlanParts) (n c : ℕ) → IsColumn plan.grid.column → IsWet plan.grid.ocean c
    → slowed plan.names.rates (ice_at plan n (plan.names.fast + 1) c) ≡ ice_at plan (n + 1) 0 c
ice_wet plan n c column wet = wet_cell plan.names.rates (ice_at plan n (plan.names.fast + 1) c) (λ e. wet.1 (sym (own_area plan n plan.names.fast c) ∙ e)) ∙ ice_last plan n c column wet.0

-- THE RETURN

step_back : (plan : PlanParts) (n c : ℕ) → c < ocean_cells plan.grid
    → returned_at plan.grid plan.names.rates (after_fast plan.grid plan.names (state_at plan n)) c ≡ flight_to_ocean (step_after plan.grid plan.names (state_at plan n)) c
unfolding step_after slow_after
step_back plan n c l =
    let f : ℕ → ℕ → ℤ = λ m k. to_ocean_number (returned_at plan.grid plan.names.rates (after_fast plan.grid plan.names (state_at plan n)) m) k in
    λ t. record {
      water = sym (read_place plan.grid 3 f c 0 l (omega arith)) t;
      heat = sym (read_place plan.grid 3 f c 1 l (omega arith)) t;
      salt = sym (read_place plan.grid 3 f c 2 l (omega arith)) t;
    }

pub flight_back : (plan : PlanParts) (n c : ℕ) → c < ocean_cells plan.grid → returned_at plan.grid plan.names.rates (mid_at plan n plan.names.fast) c ≡ to_ocean_at plan (n + 1) c
flight_back plan n c l =
    ap (λ (mid : Mid). returned_at plan.grid plan.names.rates mid c) (mid_last plan n)
    ∙ step_back plan n c l
    ∙ ap (λ (whole : Whole). flight_to_ocean whole c) (sym (state_next plan n))

pub ice_back : (plan : PlanParts) (n c : ℕ) → c < ocean_cells plan.grid
    → returned_if_wet plan.names.rates (ice_at plan n (plan.names.fast + 1) c) (arrived plan.grid plan.names.rates (mid_at plan n plan.names.fast).whole c)
    ≡ to_ocean_at plan (n + 1) c
unfolding ice_at returned_at
ice_back plan n c l =
    let last : plan.names.fast + 1 ≡ suc plan.names.fast = omega arith in
    ap (λ (r : ℕ). returned_if_wet plan.names.rates (ice_at plan n r c) (arrived plan.grid plan.names.rates (mid_at plan n plan.names.fast).whole c)) last
    ∙ flight_back plan n c l
