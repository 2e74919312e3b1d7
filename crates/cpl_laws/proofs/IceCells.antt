-- The cells of the ice of a lawful state, and what its slow step makes of each.
use Rattle.std.proofs.Common.{◌≡◌, ◌∙◌, refl, sym, ap, subst, true, false, ℕ, zero, suc, ◌+◌, ◌-◌, ◌*◌, ◌/◌, ◌%◌, ◌<◌, ◌≤◌, arith, inl, inr, List, length}
use Rattle.std.specs.Prelude.{ℤ, pos, negsuc, ◌⊎◌, ◌≢◌, ◌+ℤ◌, ◌≤ℤ◌, nat_lt, if◌then◌else◌}
use Rattle.std.proofs.lemmas.Int.{ints}
use Rattle.std.proofs.lemmas.Nat.{div-mul-add, mod-mul-add, mul-add-lt}
use Rattle.std.proofs.lemmas.Bool.{cases_Bool, cases_lt, lt-ltb, le-ltb, ltb-true, ltb-false, cond-true, cond-false}
use Rattle.std.proofs.lemmas.List.{get_or_past}
use Rattle.std.proofs.lemmas.List.FromFn.{length-map-range_with_len, get_or-map-range_with_len}
use Rattle.cpl_fixed.specs.Amounts.{amount, at}
use Rattle.cpl_fixed.specs.Totals.{total_of}
use Rattle.cpl_fixed.specs.declared.limits.TheConstants.{PARTS, MOST_CATEGORIES}
use Rattle.cpl_fixed.specs.declared.rates.Rates.{Rates}
use Rattle.cpl_ice.specs.declared.cell.IceCell.{IceCell}
use Rattle.cpl_ice.specs.Cells.{nothing}
use Rattle.cpl_ice.specs.Slow.{slowed, returned, water_of, heat_of}
use Rattle.cpl_xgrid.specs.declared.grid.Grid.{Grid}
use Rattle.cpl_state.specs.declared.whole.Mid.{Mid}
use Rattle.cpl_state.specs.States.{ocean_cells, categories, part_count, of_cell, filled_up, ice_cell, IsWet, IsDry, IsMid}
use Rattle.cpl_state.specs.FastStep.{for_each}
use Rattle.cpl_state.specs.Slow.{arrived, slow_cell, returned_at, for_each_place}
use Rattle.cpl_diffusion.proofs.Sums.{sum_to, sum_to-same, sum_to-none, total_of-sum_to}
use Rattle.cpl_laws.specs.Once.{IsNumbered}
use Rattle.cpl_laws.proofs.Sums.{total_range, sum_to-split, blocks, in_blocks}
use Rattle.cpl_laws.proofs.Flows.{stored_natural}
use Rattle.cpl_laws.proofs.IceSteps.{IsBlock, IsSound, IsSlowed, is_slowed}

-- LISTS OF A CELL

-- what a block sums to
pub block_sum : (count bound : ℕ) (xs : List ℤ) → IsBlock count bound xs → bound ≤ count → total_of xs ≡ sum_to (at xs) bound
block_sum count bound xs is within =
    let whole : count ≡ bound + (count - bound) = omega arith in
    let split = sum_to-split (at xs) bound (count - bound) in
    let rest = sum_to-none (λ k. at xs (bound + k)) (count - bound) (λ k l. is.none (bound + k) (omega arith)) in
    let all = total_of-sum_to xs ∙ ap (sum_to (at xs)) (is.long ∙ whole) in
    omega (arith, ints, split, rest, all)

-- no number of a block is above its sum
pub filled_at : (most width n : ℕ) (xs : List ℤ) (k : ℕ) → k < width → width ≤ most → at (filled_up most width n xs) k ≡ of_cell width n k xs
filled_at most width n xs k l within =
    get_or-map-range_with_len (λ k. if nat_lt k width then of_cell width n k xs else pos 0) 0 most k k (pos 0) (omega arith) (omega arith)
    ∙ cond-true _ _ _ (lt-ltb k width l)

filled_none : (most width n : ℕ) (xs : List ℤ) (k : ℕ) → width ≤ k → at (filled_up most width n xs) k ≡ pos 0
filled_none most width n xs k l = elim (cases_lt k most) [
  | inl inside ↦
      get_or-map-range_with_len (λ k. if nat_lt k width then of_cell width n k xs else pos 0) 0 most k k (pos 0) inside (omega arith)
      ∙ cond-false _ _ _ (le-ltb k width l)
  | inr past ↦ get_or_past (filled_up most width n xs) k (pos 0) (let e = length-map-range_with_len (λ k. if nat_lt k width then of_cell width n k xs else pos 0) 0 most in omega arith)
]

pub filled_block : (most width n : ℕ) (xs : List ℤ) → width ≤ most → ((i : ℕ) → pos 0 ≤ℤ at xs i) → IsBlock most width (filled_up most width n xs)
filled_block most width n xs within least = record {
  long = length-map-range_with_len (λ k. if nat_lt k width then of_cell width n k xs else pos 0) 0 most;
  least = λ k. elim (cases_lt k width) [
    | inl l ↦ let e = filled_at most width n xs k l within in let h = least (n * width + k) in omega (arith, ints, e, h)
    | inr past ↦ let e = filled_none most width n xs k past in omega (arith, ints, e)
  ];
  none = λ k l. filled_none most width n xs k l;
}

pub filled_sum : (most width n : ℕ) (xs : List ℤ) → width ≤ most → ((i : ℕ) → pos 0 ≤ℤ at xs i) → total_of (filled_up most width n xs) ≡ sum_to (λ k. of_cell width n k xs) width
filled_sum most width n xs within least =
    block_sum most width (filled_up most width n xs) (filled_block most width n xs within least) within
    ∙ sum_to-same (at (filled_up most width n xs)) (λ k. of_cell width n k xs) width (λ k l. filled_at most width n xs k l within)

-- LISTS OF ALL CELLS

-- a list in which each cell has as many numbers in turn
pub of_cells : (grid : Grid) (width : ℕ) (xs : List ℤ) → 0 < width → length xs ≡ width * ocean_cells grid
    → total_of xs ≡ total_of (for_each (ocean_cells grid) (λ n. sum_to (λ k. of_cell width n k xs) width))
of_cells grid width xs some long =
    let C = ocean_cells grid in
    total_of-sum_to xs
    ∙ ap (sum_to (at xs)) long
    ∙ sym (in_blocks (at xs) width C)
    ∙ blocks (λ n k. of_cell width n k xs) width C some
    ∙ sym (total_range (λ n. sum_to (λ k. of_cell width n k xs) width) C)

pub places_sum : (grid : Grid) (width : ℕ) (f : ℕ → ℕ → ℤ) → 0 < width → total_of (for_each_place grid width f) ≡ total_of (for_each (ocean_cells grid) (λ n. sum_to (f n) width))
places_sum grid width f some =
    total_range (λ i. f (i / width) (i % width)) (width * ocean_cells grid)
    ∙ blocks f width (ocean_cells grid) some
    ∙ sym (total_range (λ n. sum_to (f n) width) (ocean_cells grid))

pub read_place : (grid : Grid) (width : ℕ) (f : ℕ → ℕ → ℤ) (n k : ℕ) → n < ocean_cells grid → k < width → of_cell width n k (for_each_place grid width f) ≡ f n k
read_place grid width f n k l h =
    let inside : n * width + k < width * ocean_cells grid = (let e = mul-add-lt n width k (ocean_cells grid) l h in omega arith) in
    get_or-map-range_with_len (λ i. f (i / width) (i % width)) 0 (width * ocean_cells grid) (n * width + k) (n * width + k) (pos 0) inside (omega arith)
    ∙ (λ i. f (div-mul-add n width k h i) (mod-mul-add n width k h i))

-- CELLS

pub natural_zero : (a : ℤ) → pos 0 ≤ℤ a → nat_lt 0 (amount a) ≡ false → a ≡ pos 0
natural_zero (pos zero) h e = refl
natural_zero (pos (suc n)) h e = let t = ltb-false 0 (suc n) e in absurd (omega arith)
natural_zero (negsuc n) h e = absurd (omega (arith, ints, h))

some_amount : (a : ℤ) → nat_lt 0 (amount a) ≡ true → a ≢ pos 0
some_amount a e z = let t = ltb-true 0 (amount a) e in let none : amount a ≡ 0 = ap amount z in absurd (omega arith)

module _ (grid : Grid) (rates : Rates) (mid : Mid) (is : IsNumbered grid) (lawful : IsMid grid mid) where
  abbrev pub K : ℕ
  K = categories grid

  pub some : 1 ≤ K
  some = is.rules.column.categories.0

  pub few : K ≤ 5
  few = is.rules.column.categories.1

  parts_least : (i : ℕ) → pos 0 ≤ℤ at mid.whole.parts i
  parts_least i = stored_natural mid.whole.parts lawful.whole.stored.parts i

  ice_least : (i : ℕ) → pos 0 ≤ℤ at mid.whole.ice i
  ice_least i = stored_natural mid.whole.ice lawful.whole.stored.ice i

  heat_least : (i : ℕ) → pos 0 ≤ℤ at mid.whole.ice_heat i
  heat_least i = stored_natural mid.whole.ice_heat lawful.whole.stored.ice_heat i

  pub area_natural : (n : ℕ) → n < ocean_cells grid → pos 0 ≤ℤ at grid.ocean.area n
  area_natural n l = (is.rules.ocean.each n (pos 0) (let e = is.rules.ocean.count in omega arith)).0

  pub parts_block : (n : ℕ) → IsBlock 6 (K + 1) (ice_cell grid mid n).parts
  parts_block n = filled_block (MOST_CATEGORIES + 1) (part_count grid) n mid.whole.parts (omega (arith, few)) parts_least

  pub ice_block : (n : ℕ) → IsBlock 5 K (ice_cell grid mid n).ice
  ice_block n = filled_block MOST_CATEGORIES K n mid.whole.ice few ice_least

  pub heat_block : (n : ℕ) → IsBlock 5 K (ice_cell grid mid n).heat
  heat_block n = filled_block MOST_CATEGORIES K n mid.whole.ice_heat few heat_least

  -- a cell with water below it
  pub sound : (n : ℕ) → IsWet grid.ocean n → IsSound K (ice_cell grid mid n)
  sound n wet = record {
    count = refl;
    parts = parts_block n;
    whole = filled_sum (MOST_CATEGORIES + 1) (part_count grid) n mid.whole.parts (omega (arith, few)) parts_least
        ∙ sym (total_range (λ k. of_cell (part_count grid) n k mid.whole.parts) (part_count grid)) ∙ lawful.whole.parts n wet;
    ice = ice_block n;
    heat = heat_block n;
  }

  -- the numbers of a cell without an area
  pub no_parts : (n k : ℕ) → IsDry grid.ocean n → k < part_count grid → at (ice_cell grid mid n).parts k ≡ pos 0
  no_parts n k dry h = filled_at (MOST_CATEGORIES + 1) (part_count grid) n mid.whole.parts k h (omega (arith, few)) ∙ (lawful.whole.dry_ocean n dry).parts k h

  pub no_ice : (n k : ℕ) → IsDry grid.ocean n → k < K → at (ice_cell grid mid n).ice k ≡ pos 0
  no_ice n k dry h = filled_at MOST_CATEGORIES K n mid.whole.ice k h few ∙ (lawful.whole.dry_ocean n dry).ice k h

  pub no_heat : (n k : ℕ) → IsDry grid.ocean n → k < K → at (ice_cell grid mid n).heat k ≡ pos 0
  no_heat n k dry h = filled_at MOST_CATEGORIES K n mid.whole.ice_heat k h few ∙ (lawful.whole.dry_ocean n dry).ice_heat k h

  -- a cell has an area or none
  pub wet_or_dry : (n : ℕ) → n < ocean_cells grid → IsWet grid.ocean n ⊎ IsDry grid.ocean n
  wet_or_dry n l = elim (cases_Bool (nat_lt 0 (amount (at grid.ocean.area n)))) [
    | inl some_area ↦ inl (l, some_amount (at grid.ocean.area n) some_area)
    | inr no_area ↦ inr (l, natural_zero (at grid.ocean.area n) (area_natural n l) no_area)
  ]

  pub ice_sum : (n : ℕ) → total_of (ice_cell grid mid n).ice ≡ sum_to (λ k. of_cell K n k mid.whole.ice) K
  ice_sum n = filled_sum MOST_CATEGORIES K n mid.whole.ice few ice_least

  pub heat_sum : (n : ℕ) → total_of (ice_cell grid mid n).heat ≡ sum_to (λ k. of_cell K n k mid.whole.ice_heat) K
  heat_sum n = filled_sum MOST_CATEGORIES K n mid.whole.ice_heat few heat_least

  -- What the slow step makes of a cell: blocks as before, as much water and heat with what arrived as with what goes back, and
  -- nothing below 0. The parts of a wet cell are the whole; a dry cell stays empty and gives nothing back.
  pub record IsSlowCell (n : ℕ) : Type 0 where
    pub parts : IsBlock 6 (K + 1) (slow_cell grid rates mid n).parts
    pub ice : IsBlock 5 K (slow_cell grid rates mid n).ice
    pub heat : IsBlock 5 K (slow_cell grid rates mid n).heat
    pub water : water_of (ice_cell grid mid n) +ℤ (arrived grid rates mid.whole n).water ≡ total_of (slow_cell grid rates mid n).ice +ℤ (returned_at grid rates mid n).water
    pub warmth : heat_of (ice_cell grid mid n) +ℤ (arrived grid rates mid.whole n).heat ≡ total_of (slow_cell grid rates mid n).heat +ℤ (returned_at grid rates mid n).heat
    pub salt : (returned_at grid rates mid n).salt ≡ at mid.skin_salt n
    pub water_least : pos 0 ≤ℤ (returned_at grid rates mid n).water
    pub heat_least : pos 0 ≤ℤ (returned_at grid rates mid n).heat
    pub wet : IsWet grid.ocean n → total_of (slow_cell grid rates mid n).parts ≡ PARTS
    pub dry : IsDry grid.ocean n → (slow_cell grid rates mid n ≡ ice_cell grid mid n) × (returned_at grid rates mid n ≡ nothing)

  module _ (arrive : (m : ℕ) → (pos 0 ≤ℤ (arrived grid rates mid.whole m).water) × (pos 0 ≤ℤ (arrived grid rates mid.whole m).heat))
      (arrive_wet : (m : ℕ) → IsDry grid.ocean m → ((arrived grid rates mid.whole m).water ≡ pos 0) × ((arrived grid rates mid.whole m).heat ≡ pos 0)) where
    pub step : (n : ℕ) → IsWet grid.ocean n → IsSlowed rates K some few (ice_cell grid mid n) (arrived grid rates mid.whole n)
    step n wet =
        is_slowed rates K some few (ice_cell grid mid n) (arrived grid rates mid.whole n) (sound n wet)
        (stored_natural mid.frazil_water lawful.frazil_water.stored n) (stored_natural mid.frazil_heat lawful.frazil_heat.stored n)
        (stored_natural mid.skin_water lawful.skin_water.stored n) (stored_natural mid.skin_heat lawful.skin_heat.stored n) (arrive n).0 (arrive n).1

    wet_cell : (n : ℕ) → IsWet grid.ocean n → nat_lt 0 (amount (at grid.ocean.area n)) ≡ true → IsSlowCell n
    unfolding slow_cell returned_at
    wet_cell n wet e =
        let done = step n wet in
        let cell : slow_cell grid rates mid n ≡ slowed rates (ice_cell grid mid n) = cond-true _ _ _ e in
        let back : returned_at grid rates mid n ≡ returned rates (ice_cell grid mid n) (arrived grid rates mid.whole n) = cond-true _ _ _ e in
        let ice = ap (λ (c : IceCell). total_of c.ice) cell in
        let heat = ap (λ (c : IceCell). total_of c.heat) cell in
        let salty_water = ap (λ r. r.water) back in
        let salty_heat = ap (λ r. r.heat) back in
        let salty_salt = ap (λ r. r.salt) back in
        record {
          parts = subst (λ (c : IceCell). IsBlock 6 (K + 1) c.parts) (sym cell) done.sound.parts;
          ice = subst (λ (c : IceCell). IsBlock 5 K c.ice) (sym cell) done.sound.ice;
          heat = subst (λ (c : IceCell). IsBlock 5 K c.heat) (sym cell) done.sound.heat;
          water = omega (arith, ints, done.water, ice, salty_water);
          warmth = omega (arith, ints, done.heat, heat, salty_heat);
          salt = salty_salt;
          water_least = omega (arith, ints, done.water_least, salty_water);
          heat_least = omega (arith, ints, done.heat_least, salty_heat);
          wet = λ w. ap (λ (c : IceCell). total_of c.parts) cell ∙ done.sound.whole;
          dry = λ d. absurd (wet.1 d.1);
        }

    dry_cell : (n : ℕ) → IsDry grid.ocean n → nat_lt 0 (amount (at grid.ocean.area n)) ≡ false → IsSlowCell n
    unfolding slow_cell returned_at
    dry_cell n dry e =
        let cell : slow_cell grid rates mid n ≡ ice_cell grid mid n = cond-false _ _ _ e in
        let back : returned_at grid rates mid n ≡ nothing = cond-false _ _ _ e in
        let none = lawful.whole.dry_ocean n dry in
        let ice = ap (λ (c : IceCell). total_of c.ice) cell in
        let heat = ap (λ (c : IceCell). total_of c.heat) cell in
        let zero_ice = ice_sum n ∙ sum_to-none (λ k. of_cell K n k mid.whole.ice) K none.ice in
        let zero_heat = heat_sum n ∙ sum_to-none (λ k. of_cell K n k mid.whole.ice_heat) K none.ice_heat in
        let salty_water = ap (λ r. r.water) back in
        let salty_heat = ap (λ r. r.heat) back in
        let salty_salt = ap (λ r. r.salt) back in
        let skin_water = lawful.skin_water.dry n dry in
        let skin_heat = lawful.skin_heat.dry n dry in
        let frazil_water = lawful.frazil_water.dry n dry in
        let frazil_heat = lawful.frazil_heat.dry n dry in
        let no_arrival = arrive_wet n dry in
        record {
          parts = subst (λ (c : IceCell). IsBlock 6 (K + 1) c.parts) (sym cell) (parts_block n);
          ice = subst (λ (c : IceCell). IsBlock 5 K c.ice) (sym cell) (ice_block n);
          heat = subst (λ (c : IceCell). IsBlock 5 K c.heat) (sym cell) (heat_block n);
          water = omega (arith, ints, ice, zero_ice, salty_water, skin_water, frazil_water, no_arrival.0);
          warmth = omega (arith, ints, heat, zero_heat, salty_heat, skin_heat, frazil_heat, no_arrival.1);
          salt = salty_salt ∙ sym (lawful.skin_salt.dry n dry);
          water_least = omega (arith, ints, salty_water);
          heat_least = omega (arith, ints, salty_heat);
          wet = λ w. absurd (w.1 dry.1);
          dry = λ d. (cell, back);
        }

    pub slow_cell_is : (n : ℕ) → n < ocean_cells grid → IsSlowCell n
    slow_cell_is n l = elim (cases_Bool (nat_lt 0 (amount (at grid.ocean.area n)))) [
      | inl some_area ↦ wet_cell n (l, some_amount (at grid.ocean.area n) some_area) some_area
      | inr no_area ↦ dry_cell n (l, natural_zero (at grid.ocean.area n) (area_natural n l) no_area) no_area
    ]
