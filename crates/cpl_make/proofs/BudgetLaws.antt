-- No rule of layouts, date and budget is broken by a made input.
use Rattle.std.proofs.Common.{◌≡◌, refl, ◌∙◌, ap, false, ℕ, ◌+◌, ◌-◌, ◌*◌, ◌/◌, ◌≤◌, arith, List, [], ◌∷◌, map, None}
use Rattle.std.specs.Prelude.{ℤ, pos, negsuc, ◌+ℤ◌, ◌*ℤ◌, ◌≤ℤ◌, All, int_lt, unsigned_abs}
use Rattle.std.specs.Option.{option_map}
use Rattle.std.proofs.lemmas.Int.{ints}
use Rattle.std.proofs.lemmas.Bool.{cond-false}
use Rattle.std.proofs.lemmas.List.Elements.{All-tail}
use Rattle.std.proofs.Math.Nat.{mul-le-mul}
use Rattle.std.proofs.Math.IntN.{pos-*ℤ-pos}
use Rattle.cpl_fixed.specs.Amounts.{amount}
use Rattle.cpl_fixed.specs.Shares.{part_of}
use Rattle.cpl_fixed.specs.Totals.{total_of}
use Rattle.cpl_fixed.specs.declared.limits.TheConstants.{MOST_TOTAL, MOST_STEPS}
use Rattle.cpl_fixed.specs.declared.words.Component.TheVariants.{Atmos, Land, Ice, Ocean}
use Rattle.cpl_fixed.specs.declared.words.Quantity.{Quantity}
use Rattle.cpl_fixed.specs.declared.words.Quantity.TheVariants.{Heat, Water, Salt}
use Rattle.cpl_fixed.proofs.Parts.{part_pos}
use Rattle.cpl_xgrid.specs.Lists.{IsArea}
use Rattle.cpl_state.specs.Stored.{IsStored}
use Rattle.cpl_state.specs.States.{ocean_cells, flight_to_ice, flight_to_ocean}
use Rattle.cpl_state.specs.Stocks.{stocks_of, quantity_of, whole_flight, flying_to_ice, flying_to_ocean}
use Rattle.cpl_state.specs.Budget.{budget_of, budget_fault, sun_to_come}
use Rattle.cpl_plan.specs.declared.error.PlanError.TheVariants as fault
use Rattle.cpl_plan.specs.Faults.{or_else, layouts_fault, date_fault, over_budget, plan_fault}
use Rattle.cpl_plan.proofs.Dates.{date_fits}
use Rattle.cpl_made_grid.specs.declared.recipe.Recipe.{Recipe}
use Rattle.cpl_made_grid.specs.Shapes.{sphere_tiles, ocean_tiles, air_count, ocean_count}
use Rattle.cpl_made_grid.specs.Shares.{IsSized}
use Rattle.cpl_made_grid.specs.Areas.{land_areas, ocean_areas}
use Rattle.cpl_made_grid.specs.Grids.{made_grid}
use Rattle.cpl_made_grid.proofs.Mosaics.{counts, sphere_sizes, ocean_sizes}
use Rattle.cpl_made_grid.proofs.Ranges.{total_nothing}
use Rattle.cpl_made_grid.proofs.GridLaws.{air_is, land_is, ocean_is}
use Rattle.cpl_made_grid.proofs.TotalLaws.{total_replicate, areas_sum}
use Rattle.cpl_make.specs.declared.sections.Section.TheVariants as section
use Rattle.cpl_make.specs.Sections.{made_section}
use Rattle.cpl_make.specs.Starts.{made_start, zeros, air_areas}
use Rattle.cpl_make.specs.Texts.{made_names}
use Rattle.cpl_make.proofs.SectionLaws.{area_amount, section_stored, zeros_at}
use Rattle.cpl_make.proofs.PlanLaws.{layout_none, year_from, section_total}

-- LAYOUTS

layouts_none : (recipe : Recipe) (steps : ℕ) → IsSized recipe.size → layouts_fault (made_grid recipe) (made_names steps) ≡ None
unfolding made_grid made_names
layouts_none recipe steps sized =
    let sphere = layout_none (sphere_tiles recipe.size) (sphere_sizes recipe.size sized) in
    let ocean = layout_none (ocean_tiles recipe.size) (ocean_sizes recipe.size sized) in
    λ i. or_else (option_map (fault.Layout Atmos) (sphere i)) (or_else (option_map (fault.Layout Land) (sphere i)) (or_else (option_map (fault.Layout Ice) (ocean i)) (option_map (fault.Layout Ocean) (ocean i))))

-- THE DATE

run_seconds : (steps : ℕ) → (pos 0 +ℤ (pos steps *ℤ pos 3600)) ≡ pos (steps * 3600)
run_seconds steps = let e = pos-*ℤ-pos steps 3600 in omega (arith, ints, e)

date_none : (recipe : Recipe) (steps : ℕ) → steps ≤ MOST_STEPS → date_fault (made_names steps) (made_start recipe) ≡ None
unfolding made_names made_start
date_none recipe steps few =
    let run = run_seconds steps in
    let seconds : unsigned_abs (pos 0 +ℤ (pos steps *ℤ pos 3600)) ≡ steps * 3600 = ap unsigned_abs run in
    let days = 1 - 1 + (3600 * 0 + 60 * 0 + 0 + unsigned_abs (pos 0 +ℤ (pos steps *ℤ pos 3600))) / 86400 in
    let year = year_from days 2001 1 days in
    date_fits (made_names steps) (made_start recipe) (omega (arith, ints, run, few)) (omega arith)

-- SUMS

natural_total : (areas : List ℤ) → All IsArea areas → (total : ℕ) × (total_of areas ≡ pos total)
natural_total [] are = (0, refl)
natural_total (a ∷ areas) are =
    let rest = natural_total areas (All-tail IsArea a areas are) in
    let first = area_amount a (are 0 a (omega arith)) in
    let own = first.0 in
    let others = rest.1 in
    (amount a + rest.0, omega (arith, ints, own, others))

no_total : (n : ℕ) → total_of (zeros n) ≡ pos 0
no_total n = total_replicate n 0 ∙ ap pos (omega arith)

-- the sun of a cell in a month of the usual strength is its sun
record HasSun (suns : List ℤ) : Type 0 where
  total : ℕ
  is : total_of (map (λ sun. part_of sun (pos 1000) (pos 1000)) suns) ≡ pos total
  most : pos total ≤ℤ total_of suns

sun_part : (sun : ℤ) → IsStored sun → (n : ℕ) × (part_of sun (pos 1000) (pos 1000) ≡ pos n) × (pos n ≤ℤ sun)
sun_part (pos n) is = (n * 1000 / 1000, part_pos n 1000 1000, omega (arith, ints))
sun_part (negsuc n) is = absurd (omega (arith, ints, is.0))

has_sun : (suns : List ℤ) → All IsStored suns → HasSun suns
has_sun [] are = record { total = 0; is = refl; most = omega (arith, ints) }
has_sun (sun ∷ suns) are =
    let own = sun_part sun (are 0 sun (omega arith)) in
    let rest = has_sun suns (All-tail IsStored sun suns are) in
    let own_is = own.1 in
    let own_most = own.2 in
    let rest_is = rest.is in
    let rest_most = rest.most in
    record { total = own.0 + rest.total; is = omega (arith, ints, own_is, rest_is); most = omega (arith, ints, own_most, rest_most) }

-- THE BUDGET

lt_false : (x y : ℤ) → y ≤ℤ x → int_lt x y ≡ false
lt_false x y h = grind (arith, ints)

module _ (recipe : Recipe) (steps : ℕ) (sized : IsSized recipe.size) (few : steps ≤ MOST_STEPS) where
  abbrev size : ℕ
  size = recipe.size

  abbrev line : ℕ
  line = air_count size * ocean_count size

  line_most : line ≤ 2958557184
  line_most = let are = counts size sized in mul-le-mul {n₁ = air_count size} {m₁ = ocean_count size} {n₂ = 24576} {m₂ = 120384} are.airs_few are.oceans_few

  air_total : total_of (air_areas size) ≡ pos line
  air_total = total_replicate (air_count size) (ocean_count size)

  -- the areas of the land and of the ocean
  record Grounds : Type 0 where
    land : ℕ
    ocean : ℕ
    land_is : total_of (land_areas recipe) ≡ pos land
    ocean_is : total_of (ocean_areas recipe) ≡ pos ocean
    sum : land + ocean ≡ line

  grounds : Grounds
  grounds =
      let lands = natural_total (land_areas recipe) (land_is recipe sized).each in
      let oceans = natural_total (ocean_areas recipe) (ocean_is recipe sized).each in
      let a = lands.1 in
      let b = oceans.1 in
      let both = areas_sum recipe sized in
      record { land = lands.0; ocean = oceans.0; land_is = a; ocean_is = b; sum = omega (arith, ints, a, b, both) }

  ice_none : (quantity : Quantity) → flying_to_ice (made_grid recipe) (made_start recipe) quantity ≡ pos 0
  unfolding made_start
  ice_none Heat = total_nothing (λ n. quantity_of Heat (whole_flight (flight_to_ice (made_start recipe) n))) 0 (ocean_cells (made_grid recipe)) (λ n le lt. let a = zeros_at (5 * ocean_count size) (n * 5 + 1) in let b = zeros_at (5 * ocean_count size) (n * 5 + 3) in omega (arith, ints, a, b))
  ice_none Water = total_nothing (λ n. quantity_of Water (whole_flight (flight_to_ice (made_start recipe) n))) 0 (ocean_cells (made_grid recipe)) (λ n le lt. let a = zeros_at (5 * ocean_count size) (n * 5 + 0) in let b = zeros_at (5 * ocean_count size) (n * 5 + 2) in omega (arith, ints, a, b))
  ice_none Salt = total_nothing (λ n. quantity_of Salt (whole_flight (flight_to_ice (made_start recipe) n))) 0 (ocean_cells (made_grid recipe)) (λ n le lt. zeros_at (5 * ocean_count size) (n * 5 + 4))

  ocean_none : (quantity : Quantity) → flying_to_ocean (made_grid recipe) (made_start recipe) quantity ≡ pos 0
  unfolding made_start
  ocean_none Heat = total_nothing (λ n. quantity_of Heat (flight_to_ocean (made_start recipe) n)) 0 (ocean_cells (made_grid recipe)) (λ n le lt. zeros_at (3 * ocean_count size) (n * 3 + 1))
  ocean_none Water = total_nothing (λ n. quantity_of Water (flight_to_ocean (made_start recipe) n)) 0 (ocean_cells (made_grid recipe)) (λ n le lt. zeros_at (3 * ocean_count size) (n * 3 + 0))
  ocean_none Salt = total_nothing (λ n. quantity_of Salt (flight_to_ocean (made_start recipe) n)) 0 (ocean_cells (made_grid recipe)) (λ n le lt. zeros_at (3 * ocean_count size) (n * 3 + 2))

  -- the sun of all fast steps
  sun_most : sun_to_come steps (made_names steps) (made_start recipe) ≤ℤ pos 4437835776000000000
  unfolding made_names made_start
  sun_most =
      let air = (air_is size sized).each in
      let suns = made_section recipe.number section.Sun 1 (air_areas size) in
      let sun = has_sun (made_section recipe.number section.Sun 1 (air_areas size)) (section_stored recipe.number section.Sun 1 (air_areas size) air) in
      let most = section_total recipe.number section.Sun 1 (air_areas size) line air air_total in
      let upto = line_most in
      let sun_is = sun.is in
      let sun_upto = sun.most in
      let total : sun.total ≤ 221891788800000 = omega (arith, ints, most, upto, sun_upto) in
      let product = pos-*ℤ-pos (steps * 2) sun.total in
      let times = mul-le-mul {n₁ = steps * 2} {m₁ = sun.total} {n₂ = 20000} {m₂ = 221891788800000} (omega arith) total in
      let same : (pos (steps * 2) *ℤ total_of (map (λ sun. part_of sun (pos 1000) (pos 1000)) suns)) ≡ pos (steps * 2) *ℤ pos sun.total = ap (λ (z : ℤ). pos (steps * 2) *ℤ z) sun_is in
      omega (arith, ints, same, product, times)

  heat_most : budget_of steps (made_grid recipe) (made_names steps) (made_start recipe) Heat ≤ℤ pos MOST_TOTAL
  unfolding budget_of stocks_of made_start
  heat_most =
      let ground = grounds in
      let sum = ground.sum in
      let upto = line_most in
      let air = section_total recipe.number section.AirHeat 1 (air_areas size) line (air_is size sized).each air_total in
      let land = section_total recipe.number section.LandHeat 1 (land_areas recipe) ground.land (land_is recipe sized).each ground.land_is in
      let ocean = section_total recipe.number section.OceanHeat 2 (ocean_areas recipe) ground.ocean (ocean_is recipe sized).each ground.ocean_is in
      let ice = no_total (3 * ocean_count size) in
      let to_ice = ice_none Heat in
      let to_ocean = ocean_none Heat in
      let sun = sun_most in
      omega (arith, ints, air, land, ocean, ice, to_ice, to_ocean, sun, sum, upto)

  water_most : budget_of steps (made_grid recipe) (made_names steps) (made_start recipe) Water ≤ℤ pos MOST_TOTAL
  unfolding budget_of stocks_of made_start
  water_most =
      let ground = grounds in
      let sum = ground.sum in
      let upto = line_most in
      let air = section_total recipe.number section.Vapour 1 (air_areas size) line (air_is size sized).each air_total in
      let land = section_total recipe.number section.LandWater 1 (land_areas recipe) ground.land (land_is recipe sized).each ground.land_is in
      let ocean = section_total recipe.number section.OceanWater 2 (ocean_areas recipe) ground.ocean (ocean_is recipe sized).each ground.ocean_is in
      let ice = no_total (3 * ocean_count size) in
      let to_ice = ice_none Water in
      let to_ocean = ocean_none Water in
      omega (arith, ints, air, land, ocean, ice, to_ice, to_ocean, sum, upto)

  salt_most : budget_of steps (made_grid recipe) (made_names steps) (made_start recipe) Salt ≤ℤ pos MOST_TOTAL
  unfolding budget_of stocks_of made_start
  salt_most =
      let ground = grounds in
      let sum = ground.sum in
      let upto = line_most in
      let ocean = section_total recipe.number section.Salt 2 (ocean_areas recipe) ground.ocean (ocean_is recipe sized).each ground.ocean_is in
      let to_ice = ice_none Salt in
      let to_ocean = ocean_none Salt in
      omega (arith, ints, ocean, to_ice, to_ocean, sum, upto)

  budget_none : budget_fault (made_grid recipe) (made_names steps) (made_start recipe) ≡ None
  unfolding made_names
  budget_none =
      let heat = lt_false (pos MOST_TOTAL) (budget_of steps (made_grid recipe) (made_names steps) (made_start recipe) Heat) heat_most in
      let water = lt_false (pos MOST_TOTAL) (budget_of steps (made_grid recipe) (made_names steps) (made_start recipe) Water) water_most in
      let salt = lt_false (pos MOST_TOTAL) (budget_of steps (made_grid recipe) (made_names steps) (made_start recipe) Salt) salt_most in
      cond-false _ _ _ heat ∙ cond-false _ _ _ water ∙ cond-false _ _ _ salt

  -- no rule of layouts, date and budget is broken
  pub plan_none : plan_fault (made_grid recipe) (made_names steps) (made_start recipe) ≡ None
  plan_none =
      let layouts = layouts_none recipe steps sized in
      let date = date_none recipe steps few in
      let budget = budget_none in
      λ i. or_else (layouts i) (or_else (date i) (option_map over_budget (budget i)))
