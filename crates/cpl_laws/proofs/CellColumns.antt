-- The columns of the two tables are sums over cells.
use Rattle.std.proofs.Common.{◌≡◌, ◌∙◌, refl, sym, ap, ℕ, zero, suc, ◌+◌, ◌*◌, ◌/◌, ◌%◌, arith, List, ◌∷◌, length, drop}
use Rattle.std.specs.Prelude.{ℤ, pos, ◌+ℤ◌}
use Rattle.std.specs.List.{range_with_len}
use Rattle.std.proofs.lemmas.Int.{ints}
use Rattle.cpl_fixed.specs.Amounts.{at}
use Rattle.cpl_fixed.specs.Totals.{total_of}
use Rattle.cpl_fixed.specs.declared.words.Quantity.{Quantity}
use Rattle.cpl_fixed.specs.declared.words.Quantity.TheVariants.{Heat, Water, Salt}
use Rattle.cpl_namelist.specs.declared.names.Names.{Names}
use Rattle.cpl_xgrid.specs.declared.grid.Grid.{Grid}
use Rattle.cpl_xgrid.specs.declared.parts.Surface.{Surface}
use Rattle.cpl_xgrid.specs.declared.parts.Surface.TheVariants.{Land, Ocean}
use Rattle.cpl_state.specs.declared.whole.Whole.{Whole}
use Rattle.cpl_state.specs.declared.whole.Mid.{Mid}
use Rattle.cpl_state.specs.States.{HasLengths, air_cells, land_cells, ocean_cells, layers, categories, all_of_cell, column_of}
use Rattle.cpl_state.specs.FastStep.{Before, for_each, entered, left, heat_given, water_given, heat_to_land, water_to_land, heat_to_ice, water_to_ice, skin_taken, category_taken}
use Rattle.cpl_state.specs.Stocks.{stocks_of, flying_to_ice, flying_to_ocean}
use Rattle.cpl_state.specs.CouplingStep.{before, fast_by, month_of, over_fast, over_fast_steps, step_entered, step_gave, step_left, step_took, taken}
use Rattle.cpl_state.specs.Columns.{air_entered, air_gives, air_left, entered_at, gave_by_cells, ice_takes, land_takes, left_at, over_cells, stocks_by_cells, took_by_cells}
use Rattle.cpl_diffusion.proofs.Sums.{sum_to, sum_to-same, sum_to-none, total_of-sum_to}
use Rattle.cpl_laws.proofs.Sums.{blocks, in_blocks, total_add, total_range, total_swap}

-- LISTS

none_over : (cells : ℕ) → over_cells cells (λ n. pos 0) ≡ pos 0
none_over cells = total_range (λ n. pos 0) cells ∙ sum_to-none (λ n. pos 0) cells (λ n l. refl)

-- a number for each cell
by_cells : (xs : List ℤ) (cells : ℕ) → length xs ≡ cells → total_of xs ≡ over_cells cells (at xs)
by_cells xs cells count = total_of-sum_to xs ∙ ap (sum_to (at xs)) count ∙ sym (total_range (at xs) cells)

-- blocks of one width, which may be none
any_blocks : (f : ℕ → ℕ → ℤ) (width count : ℕ) → sum_to (λ i. f (i / width) (i % width)) (width * count) ≡ sum_to (λ n. sum_to (f n) width) count
any_blocks f zero count =
    let none : 0 * count ≡ 0 = omega arith in
    ap (sum_to (λ i. f (i / 0) (i % 0))) none ∙ sym (sum_to-none (λ n. sum_to (f n) 0) count (λ n l. refl))
any_blocks f (suc width) count = blocks f (suc width) count (omega arith)

-- as many numbers for each cell, the numbers of a cell in turn
by_blocks : (xs : List ℤ) (width cells : ℕ) → length xs ≡ width * cells → total_of xs ≡ over_cells cells (λ n. total_of (all_of_cell width n xs))
by_blocks xs width cells count =
    let f : ℕ → ℕ → ℤ = λ n k. at xs (n * width + k) in
    total_of-sum_to xs
    ∙ ap (sum_to (at xs)) count
    ∙ sym (in_blocks (at xs) width cells)
    ∙ any_blocks f width cells
    ∙ sum_to-same (λ n. sum_to (f n) width) (λ n. total_of (all_of_cell width n xs)) cells (λ n l. sym (total_range (f n) width))
    ∙ sym (total_range (λ n. total_of (all_of_cell width n xs)) cells)

-- a number for each cell of each layer, the layers in turn
by_layers : (xs : List ℤ) (layers cells : ℕ) → length xs ≡ layers * cells → total_of xs ≡ over_cells cells (λ n. total_of (column_of layers cells n xs))
by_layers xs layers cells count =
    let f : ℕ → ℕ → ℤ = λ layer n. at xs (layer * cells + n) in
    let turned : length xs ≡ cells * layers = omega arith in
    total_of-sum_to xs
    ∙ ap (sum_to (at xs)) turned
    ∙ sym (in_blocks (at xs) cells layers)
    ∙ any_blocks f cells layers
    ∙ sym (total_range (λ layer. sum_to (f layer) cells) layers)
    ∙ total_swap f cells (range_with_len 0 layers)
    ∙ sym (total_range (λ n. total_of (column_of layers cells n xs)) cells)

-- STOCKS

pub stocks_are : (grid : Grid) (whole : Whole) (quantity : Quantity) → HasLengths grid whole → stocks_of grid whole quantity ≡ stocks_by_cells grid whole quantity
unfolding stocks_of
stocks_are grid whole Heat is =
    let air = by_cells whole.air_heat (air_cells grid) is.air_heat in
    let land = by_cells whole.land_heat (land_cells grid) is.land_heat in
    let ice = by_blocks whole.ice_heat (categories grid) (ocean_cells grid) is.ice_heat in
    let ocean = by_layers whole.heat (layers grid) (ocean_cells grid) is.heat in
    λ i. record { air = air i; land = land i; ice = ice i; ocean = ocean i; to_ice = flying_to_ice grid whole Heat; to_ocean = flying_to_ocean grid whole Heat }
stocks_are grid whole Water is =
    let air = by_cells whole.air_vapour (air_cells grid) is.air_vapour in
    let land = by_cells whole.land_water (land_cells grid) is.land_water in
    let ice = by_blocks whole.ice (categories grid) (ocean_cells grid) is.ice in
    let ocean = by_layers whole.water (layers grid) (ocean_cells grid) is.water in
    λ i. record { air = air i; land = land i; ice = ice i; ocean = ocean i; to_ice = flying_to_ice grid whole Water; to_ocean = flying_to_ocean grid whole Water }
stocks_are grid whole Salt is =
    let air = sym (none_over (air_cells grid)) in
    let land = sym (none_over (land_cells grid)) in
    let ice = sym (none_over (ocean_cells grid)) in
    let ocean = by_layers whole.salt (layers grid) (ocean_cells grid) is.salt in
    λ i. record { air = air i; land = land i; ice = ice i; ocean = ocean i; to_ice = flying_to_ice grid whole Salt; to_ocean = flying_to_ocean grid whole Salt }

-- FAST STEPS

-- a tally that is a sum over cells in each fast step is one over all fast steps
module _ (grid : Grid) (names : Names) (month : ℕ) (start : Mid) where
  fast_by_cells : (tally : Before → ℤ) (cells : ℕ) (column : ℕ → Before → ℤ) → ((mid : Mid) → tally (before grid names month mid) ≡ over_cells cells (λ n. column n (before grid names month mid)))
      → (n : ℕ) → over_fast tally n grid names month start ≡ over_cells cells (λ c. over_fast (column c) n grid names month start)
  fast_by_cells tally cells column each zero = sym (none_over cells)
  fast_by_cells tally cells column each (suc n) =
      let rest = fast_by_cells tally cells column each n in
      let own = each (fast_by n grid names month start) in
      (λ i. rest i +ℤ own i)
      ∙ sym (total_add (λ c. over_fast (column c) n grid names month start) (λ c. column c (before grid names month (fast_by n grid names month start))) (range_with_len 0 cells))

  nothing_fast : (n : ℕ) → over_fast (λ s. pos 0) n grid names month start ≡ pos 0
  nothing_fast zero = refl
  nothing_fast (suc n) = let rest = nothing_fast n in omega (arith, ints, rest)

-- skin and categories of a cell together
ice_heat_by_cells : (s : Before) → heat_to_ice s ≡ over_cells (ocean_cells s.grid) (λ n. ice_takes Heat n s)
unfolding heat_to_ice
ice_heat_by_cells s =
    let count = categories s.grid in
    let cells = ocean_cells s.grid in
    let f = category_taken s in
    let blocks = total_range (λ i. f (i / count) (i % count)) (count * cells)
    ∙ any_blocks f count cells
    ∙ sum_to-same (λ n. sum_to (f n) count) (λ n. total_of (for_each count (f n))) cells (λ n l. sym (total_range (f n) count))
    ∙ sym (total_range (λ n. total_of (for_each count (f n))) cells) in
    ap (λ (z : ℤ). over_cells cells (λ n. (skin_taken s n).heat) +ℤ z) blocks
    ∙ sym (total_add (λ n. (skin_taken s n).heat) (λ n. total_of (for_each count (f n))) (range_with_len 0 cells))

-- A COUPLING STEP

module _ (grid : Grid) (names : Names) (whole : Whole) where
  over_steps : (tally : Before → ℤ) (cells : ℕ) (column : ℕ → Before → ℤ) → ((mid : Mid) → tally (before grid names (month_of names whole) mid) ≡ over_cells cells (λ n. column n (before grid names (month_of names whole) mid)))
      → over_fast_steps tally grid names whole ≡ over_cells cells (λ n. over_fast_steps (column n) grid names whole)
  over_steps tally cells column each = fast_by_cells grid names (month_of names whole) (taken grid whole) tally cells column each names.fast

  no_salt : (cells : ℕ) → pos 0 ≡ over_cells cells (λ n. over_fast_steps (λ s. pos 0) grid names whole)
  no_salt cells = sym (ap (λ (x : ℤ). over_cells cells (λ n. x)) (nothing_fast grid names (month_of names whole) (taken grid whole) names.fast) ∙ none_over cells)

  pub entered_is : step_entered grid names whole ≡ over_cells (air_cells grid) (entered_at grid names whole)
  unfolding step_entered entered
  entered_is = over_steps entered (air_cells grid) air_entered (λ mid. refl)

  pub left_is : step_left grid names whole ≡ over_cells (air_cells grid) (left_at grid names whole)
  unfolding step_left left
  left_is = over_steps left (air_cells grid) air_left (λ mid. refl)

  given_heat : (list : Surface) → over_fast_steps (λ s. heat_given s list) grid names whole ≡ over_cells (air_cells grid) (λ n. over_fast_steps (air_gives list Heat n) grid names whole)
  unfolding heat_given
  given_heat list = over_steps (λ s. heat_given s list) (air_cells grid) (air_gives list Heat) (λ mid. refl)

  given_water : (list : Surface) → over_fast_steps (λ s. water_given s list) grid names whole ≡ over_cells (air_cells grid) (λ n. over_fast_steps (air_gives list Water n) grid names whole)
  unfolding water_given
  given_water list = over_steps (λ s. water_given s list) (air_cells grid) (air_gives list Water) (λ mid. refl)

  pub gave_is : step_gave grid names whole ≡ gave_by_cells grid names whole
  unfolding step_gave gave_by_cells
  gave_is =
      let land_heat = given_heat Land in
      let land_water = given_water Land in
      let ice_heat = given_heat Ocean in
      let ice_water = given_water Ocean in
      let salt = no_salt (air_cells grid) in
      λ i. land_heat i ∷ land_water i ∷ salt i ∷ ice_heat i ∷ ice_water i ∷ salt i ∷ drop 6 (step_gave grid names whole)

  land_heat_is : over_fast_steps heat_to_land grid names whole ≡ over_cells (land_cells grid) (λ n. over_fast_steps (land_takes Heat n) grid names whole)
  unfolding heat_to_land
  land_heat_is = over_steps heat_to_land (land_cells grid) (land_takes Heat) (λ mid. refl)

  land_water_is : over_fast_steps water_to_land grid names whole ≡ over_cells (land_cells grid) (λ n. over_fast_steps (land_takes Water n) grid names whole)
  unfolding water_to_land
  land_water_is = over_steps water_to_land (land_cells grid) (land_takes Water) (λ mid. refl)

  ice_heat_is : over_fast_steps heat_to_ice grid names whole ≡ over_cells (ocean_cells grid) (λ n. over_fast_steps (ice_takes Heat n) grid names whole)
  ice_heat_is = over_steps heat_to_ice (ocean_cells grid) (ice_takes Heat) (λ mid. ice_heat_by_cells (before grid names (month_of names whole) mid))

  ice_water_is : over_fast_steps water_to_ice grid names whole ≡ over_cells (ocean_cells grid) (λ n. over_fast_steps (ice_takes Water n) grid names whole)
  unfolding water_to_ice
  ice_water_is = over_steps water_to_ice (ocean_cells grid) (ice_takes Water) (λ mid. refl)

  pub took_is : step_took grid names whole ≡ took_by_cells grid names whole
  unfolding step_took took_by_cells
  took_is =
      let land_heat = land_heat_is in
      let land_water = land_water_is in
      let ice_heat = ice_heat_is in
      let ice_water = ice_water_is in
      let land_salt = no_salt (land_cells grid) in
      let ice_salt = no_salt (ocean_cells grid) in
      λ i. land_heat i ∷ land_water i ∷ land_salt i ∷ ice_heat i ∷ ice_water i ∷ ice_salt i ∷ drop 6 (step_took grid names whole)
