-- What the cells of the air give in a fast step, and what the cells of the surface take, are the same sums over exchange cells.
use Rattle.std.proofs.Common.{◌≡◌, ◌∙◌, refl, sym, ap, ℕ, suc, ◌+◌, ◌*◌, ◌/◌, ◌%◌, ◌<◌, arith, List, [], ◌∷◌, map, length}
use Rattle.std.specs.Prelude.{ℤ, pos, ◌+ℤ◌, ◌-ℤ◌, ◌*ℤ◌}
use Rattle.std.specs.List.{range_with_len}
use Rattle.std.proofs.lemmas.Int.{ints}
use Rattle.cpl_fixed.specs.Totals.{total_of}
use Rattle.cpl_fixed.specs.declared.limits.TheConstants.{VAPOUR_HEAT, WATER_HEAT}
use Rattle.cpl_mosaic.specs.Contacts.{cells_of}
use Rattle.cpl_xgrid.specs.declared.grid.Grid.{Grid}
use Rattle.cpl_xgrid.specs.declared.parts.XRef.{XRef}
use Rattle.cpl_xgrid.specs.declared.parts.Surface.{Surface}
use Rattle.cpl_xgrid.specs.declared.parts.Surface.TheVariants.{Land, Ocean}
use Rattle.cpl_xgrid.specs.Rows.{air_cell, other_cell, rows_of}
use Rattle.cpl_state.specs.States.{air_cells, land_cells, ocean_cells, categories, part_count}
use Rattle.cpl_state.specs.Elements.{tiles_of, refs_of_air_cell, refs_between, refs_of_surface_cell, over_elements, over_all, over_part}
use Rattle.cpl_state.specs.FastStep.{Before, heat_down, water_up, rain_on, for_each, for_each_category, heat_given, water_given, land_taken, heat_to_land, water_to_land, rain_on_ice, skin_taken, category_taken, heat_to_ice, water_to_ice, gave, took}
use Rattle.cpl_diffusion.proofs.Sums.{sum_to, sum_to-same, sum_to-add, sum_to-first}
use Rattle.cpl_laws.specs.Once.{IsNumbered, over_list}
use Rattle.cpl_laws.proofs.Sums.{total_range, total_swap, total_add, cells_same, sum_to-times, blocks}
use Rattle.cpl_laws.proofs.Groups.{total_same, total_zeros}
use Rattle.cpl_laws.proofs.Rows.{air_cells_are, other_cells_are}
use Rattle.cpl_laws.proofs.Once.{list_counted, counted_once}
use Rattle.cpl_laws.proofs.Elements.{ref_in, surface_numbers, each_of_surface}
use Rattle.cpl_laws.proofs.Flows.{dry_ice}

-- over all elements of a list
abbrev pub over_rows : Grid → Surface → (XRef → ℕ → ℤ) → ℤ
over_rows grid list f = over_list list (rows_of grid.xgrid list) (over_elements grid f)

-- ANYTHING THAT ELEMENTS HAVE

module _ (grid : Grid) (is : IsNumbered grid) (f : XRef → ℕ → ℤ) where
  pub air_sum : total_of (for_each (air_cells grid) (λ n. over_all grid f (refs_of_air_cell grid n))) ≡ over_rows grid Land f +ℤ over_rows grid Ocean f
  unfolding refs_of_air_cell
  air_sum = (counted_once grid is).air (over_elements grid f)

  pub between_sum : (list : Surface) → total_of (for_each (air_cells grid) (λ n. over_all grid f (refs_between grid list n))) ≡ over_rows grid list f
  unfolding refs_between
  between_sum list = list_counted grid.air.mosaic.tiles air_cell list (rows_of grid.xgrid list) (over_elements grid f) is.air (air_cells_are grid is.rules list)

  surface_sum : (list : Surface) (F : XRef → ℤ) → total_of (for_each (cells_of (tiles_of grid list)) (λ n. total_of (map F (refs_of_surface_cell grid list n)))) ≡ over_list list (rows_of grid.xgrid list) F
  unfolding refs_of_surface_cell
  surface_sum list F = list_counted (tiles_of grid list) other_cell list (rows_of grid.xgrid list) F (surface_numbers grid is list) (other_cells_are grid is.rules list)

  pub land_sum : total_of (for_each (land_cells grid) (λ n. over_part f 0 (refs_of_surface_cell grid Land n))) ≡ over_rows grid Land f
  land_sum =
      surface_sum Land (λ ref. f ref 0)
      ∙ total_same (λ m. f (ref_in Land m) 0) (λ m. over_elements grid f (ref_in Land m)) (range_with_len 0 (length grid.xgrid.land_rows)) (λ k d l. omega (arith, ints))

  pub ocean_sum : total_of (for_each (ocean_cells grid) (λ n. sum_to (λ k. over_part f k (refs_of_surface_cell grid Ocean n)) (part_count grid))) ≡ over_rows grid Ocean f
  ocean_sum =
      let count = part_count grid in
      let F = λ (ref : XRef). sum_to (f ref) count in
      cells_same (λ n. sum_to (λ k. over_part f k (refs_of_surface_cell grid Ocean n)) count) (λ n. total_of (map F (refs_of_surface_cell grid Ocean n))) (ocean_cells grid) (λ n l. sym (total_swap f count (refs_of_surface_cell grid Ocean n)))
      ∙ surface_sum Ocean F
      ∙ total_same (λ m. F (ref_in Ocean m)) (λ m. over_elements grid f (ref_in Ocean m)) (range_with_len 0 (length grid.xgrid.ocean_rows)) (λ k d l. sym (total_range (f (ref_in Ocean _)) count))

-- WHAT ELEMENTS TAKE, WHATEVER RAINS ON THEM

module _ (s : Before) (wet : XRef → ℕ → ℤ) where
  abbrev pub heat_with : XRef → ℕ → ℤ
  heat_with ref k = heat_down s ref k -ℤ (VAPOUR_HEAT *ℤ water_up s ref k) +ℤ (WATER_HEAT *ℤ wet ref k)

  abbrev pub water_with : XRef → ℕ → ℤ
  water_with ref k = wet ref k -ℤ water_up s ref k

  -- the rain on the categories of a cell
  abbrev pub ice_wet : ℕ → ℤ
  ice_wet n = total_of (for_each (categories s.grid) (λ k. over_part wet (k + 1) (refs_of_surface_cell s.grid Ocean n)))

-- sums of such
pub total_with : {T : Type 0} (a b c : T → ℤ) (xs : List T)
    → total_of (map (λ x. a x -ℤ (VAPOUR_HEAT *ℤ b x) +ℤ (WATER_HEAT *ℤ c x)) xs) ≡ total_of (map a xs) -ℤ (VAPOUR_HEAT *ℤ total_of (map b xs)) +ℤ (WATER_HEAT *ℤ total_of (map c xs))
total_with a b c [] = refl
total_with a b c (x ∷ xs) = let e = total_with a b c xs in omega (arith, ints, e)

pub total_less : {T : Type 0} (a b : T → ℤ) (xs : List T) → total_of (map (λ x. a x -ℤ b x) xs) ≡ total_of (map a xs) -ℤ total_of (map b xs)
total_less a b [] = refl
total_less a b (x ∷ xs) = let e = total_less a b xs in omega (arith, ints, e)

module _ (s : Before) (is : IsNumbered s.grid) (wet : XRef → ℕ → ℤ) where
  pub all_with : (refs : List XRef) → over_all s.grid (heat_with s wet) refs
      ≡ over_all s.grid (heat_down s) refs -ℤ (VAPOUR_HEAT *ℤ over_all s.grid (water_up s) refs) +ℤ (WATER_HEAT *ℤ over_all s.grid wet refs)
  all_with refs =
      total_same (over_elements s.grid (heat_with s wet)) (λ ref. over_elements s.grid (heat_down s) ref -ℤ (VAPOUR_HEAT *ℤ over_elements s.grid (water_up s) ref) +ℤ (WATER_HEAT *ℤ over_elements s.grid wet ref)) refs
      (λ j d l. total_with (heat_down s _) (water_up s _) (wet _) _)
      ∙ total_with (over_elements s.grid (heat_down s)) (over_elements s.grid (water_up s)) (over_elements s.grid wet) refs

  pub all_water_with : (refs : List XRef) → over_all s.grid (water_with s wet) refs ≡ over_all s.grid wet refs -ℤ over_all s.grid (water_up s) refs
  all_water_with refs =
      total_same (over_elements s.grid (water_with s wet)) (λ ref. over_elements s.grid wet ref -ℤ over_elements s.grid (water_up s) ref) refs
      (λ j d l. total_less (wet _) (water_up s _) _)
      ∙ total_less (over_elements s.grid wet) (over_elements s.grid (water_up s)) refs

  -- a category takes heat alone, and its rain goes to the skin
  ice_heat_with : (n k : ℕ) → n < ocean_cells s.grid
      → over_part (heat_with s wet) (suc k) (refs_of_surface_cell s.grid Ocean n)
      ≡ over_part (heat_down s) (k + 1) (refs_of_surface_cell s.grid Ocean n) +ℤ (WATER_HEAT *ℤ over_part wet (k + 1) (refs_of_surface_cell s.grid Ocean n))
  ice_heat_with n k within =
      let refs = refs_of_surface_cell s.grid Ocean n in
      let dry = total_same (λ ref. water_up s ref (suc k)) (λ ref. pos 0) refs (each_of_surface s.grid is (λ ref. water_up s ref (suc k) ≡ pos 0) Ocean n within (λ m l e. dry_ice s m k)) in
      let none = total_zeros refs in
      let sum = total_with (λ ref. heat_down s ref (suc k)) (λ ref. water_up s ref (suc k)) (λ ref. wet ref (suc k)) refs in
      let e : suc k ≡ k + 1 = omega arith in
      let a = ap (λ (j : ℕ). over_part (heat_down s) j refs) e in
      let b = ap (λ (j : ℕ). over_part wet j refs) e in
      omega (arith, ints, dry, none, sum, a, b)

  ice_water_with : (n k : ℕ) → n < ocean_cells s.grid
      → over_part (water_with s wet) (suc k) (refs_of_surface_cell s.grid Ocean n) ≡ over_part wet (k + 1) (refs_of_surface_cell s.grid Ocean n)
  ice_water_with n k within =
      let refs = refs_of_surface_cell s.grid Ocean n in
      let dry = total_same (λ ref. water_up s ref (suc k)) (λ ref. pos 0) refs (each_of_surface s.grid is (λ ref. water_up s ref (suc k) ≡ pos 0) Ocean n within (λ m l e. dry_ice s m k)) in
      let none = total_zeros refs in
      let sum = total_less (λ ref. wet ref (suc k)) (λ ref. water_up s ref (suc k)) refs in
      let e : suc k ≡ k + 1 = omega arith in
      let b = ap (λ (j : ℕ). over_part wet j refs) e in
      omega (arith, ints, dry, none, sum, b)

  -- what a skin and the categories of its cell take
  cell_heat : (n : ℕ) → n < ocean_cells s.grid
      → (over_part (heat_with s wet) 0 (refs_of_surface_cell s.grid Ocean n) +ℤ (WATER_HEAT *ℤ ice_wet s wet n)) +ℤ sum_to (λ k. over_part (heat_down s) (k + 1) (refs_of_surface_cell s.grid Ocean n)) (categories s.grid)
      ≡ sum_to (λ k. over_part (heat_with s wet) k (refs_of_surface_cell s.grid Ocean n)) (part_count s.grid)
  cell_heat n within =
      let refs = refs_of_surface_cell s.grid Ocean n in
      let K = categories s.grid in
      let f = λ (k : ℕ). over_part (heat_with s wet) k refs in
      let e : suc K ≡ K + 1 = omega arith in
      let all = ap (sum_to f) e in
      let first = sum_to-first f K in
      let each = sum_to-same (λ k. f (suc k)) (λ k. over_part (heat_down s) (k + 1) refs +ℤ (WATER_HEAT *ℤ over_part wet (k + 1) refs)) K (λ k l. ice_heat_with n k within) in
      let split = sum_to-add (λ k. over_part (heat_down s) (k + 1) refs) (λ k. WATER_HEAT *ℤ over_part wet (k + 1) refs) K in
      let times = sum_to-times 1_426 (λ k. over_part wet (k + 1) refs) K in
      let rain = total_range (λ k. over_part wet (k + 1) refs) K in
      omega (arith, ints, all, first, each, split, times, rain)

  cell_water : (n : ℕ) → n < ocean_cells s.grid
      → over_part (water_with s wet) 0 (refs_of_surface_cell s.grid Ocean n) +ℤ ice_wet s wet n
      ≡ sum_to (λ k. over_part (water_with s wet) k (refs_of_surface_cell s.grid Ocean n)) (part_count s.grid)
  cell_water n within =
      let refs = refs_of_surface_cell s.grid Ocean n in
      let K = categories s.grid in
      let f = λ (k : ℕ). over_part (water_with s wet) k refs in
      let e : suc K ≡ K + 1 = omega arith in
      let all = ap (sum_to f) e in
      let first = sum_to-first f K in
      let each = sum_to-same (λ k. f (suc k)) (λ k. over_part wet (k + 1) refs) K (λ k l. ice_water_with n k within) in
      let rain = total_range (λ k. over_part wet (k + 1) refs) K in
      omega (arith, ints, all, first, each, rain)

  -- all skins and categories
  pub ice_heat_sum : 0 < categories s.grid
      → total_of (for_each (ocean_cells s.grid) (λ n. over_part (heat_with s wet) 0 (refs_of_surface_cell s.grid Ocean n) +ℤ (WATER_HEAT *ℤ ice_wet s wet n)))
      +ℤ total_of (for_each_category s.grid (λ n k. over_part (heat_down s) (k + 1) (refs_of_surface_cell s.grid Ocean n)))
      ≡ over_rows s.grid Ocean (heat_with s wet)
  ice_heat_sum some =
      let C = ocean_cells s.grid in
      let K = categories s.grid in
      let skin = λ (n : ℕ). over_part (heat_with s wet) 0 (refs_of_surface_cell s.grid Ocean n) +ℤ (WATER_HEAT *ℤ ice_wet s wet n) in
      let ice = λ (n k : ℕ). over_part (heat_down s) (k + 1) (refs_of_surface_cell s.grid Ocean n) in
      let all = λ (n : ℕ). sum_to (λ k. over_part (heat_with s wet) k (refs_of_surface_cell s.grid Ocean n)) (part_count s.grid) in
      let a = total_range (λ i. ice (i / K) (i % K)) (K * C) ∙ blocks ice K C some ∙ sym (total_range (λ n. sum_to (ice n) K) C) in
      let b = total_add skin (λ n. sum_to (ice n) K) (range_with_len 0 C) in
      let d = cells_same (λ n. skin n +ℤ sum_to (ice n) K) all C (λ n l. cell_heat n l) in
      let e = ocean_sum s.grid is (heat_with s wet) in
      omega (arith, ints, a, b, d, e)

  pub ice_water_sum : total_of (for_each (ocean_cells s.grid) (λ n. over_part (water_with s wet) 0 (refs_of_surface_cell s.grid Ocean n) +ℤ ice_wet s wet n)) ≡ over_rows s.grid Ocean (water_with s wet)
  ice_water_sum =
      cells_same (λ n. over_part (water_with s wet) 0 (refs_of_surface_cell s.grid Ocean n) +ℤ ice_wet s wet n) (λ n. sum_to (λ k. over_part (water_with s wet) k (refs_of_surface_cell s.grid Ocean n)) (part_count s.grid)) (ocean_cells s.grid) (λ n l. cell_water n l)
      ∙ ocean_sum s.grid is (water_with s wet)

-- WHAT WAS GIVEN WAS TAKEN

module _ (s : Before) (is : IsNumbered s.grid) where
  pub given_heat : (list : Surface) → heat_given s list ≡ over_rows s.grid list (heat_with s (rain_on s))
  unfolding heat_given
  given_heat list = between_sum s.grid is (heat_with s (rain_on s)) list

  pub given_water : (list : Surface) → water_given s list ≡ over_rows s.grid list (water_with s (rain_on s))
  unfolding water_given
  given_water list = between_sum s.grid is (water_with s (rain_on s)) list

  pub land_heat_taken : heat_to_land s ≡ over_rows s.grid Land (heat_with s (rain_on s))
  unfolding heat_to_land land_taken
  land_heat_taken = land_sum s.grid is (heat_with s (rain_on s))

  pub land_water_taken : water_to_land s ≡ over_rows s.grid Land (water_with s (rain_on s))
  unfolding water_to_land land_taken
  land_water_taken = land_sum s.grid is (water_with s (rain_on s))

  pub ice_heat_taken : 0 < categories s.grid → heat_to_ice s ≡ over_rows s.grid Ocean (heat_with s (rain_on s))
  unfolding heat_to_ice skin_taken category_taken rain_on_ice
  ice_heat_taken some = ice_heat_sum s is (rain_on s) some

  pub ice_water_taken : water_to_ice s ≡ over_rows s.grid Ocean (water_with s (rain_on s))
  unfolding water_to_ice skin_taken rain_on_ice
  ice_water_taken = ice_water_sum s is (rain_on s)

  pub given_is_taken : 0 < categories s.grid → gave s ≡ took s
  given_is_taken some =
      let a = given_heat Land ∙ sym land_heat_taken in
      let b = given_water Land ∙ sym land_water_taken in
      let d = given_heat Ocean ∙ sym (ice_heat_taken some) in
      let e = given_water Ocean ∙ sym ice_water_taken in
      λ i. a i ∷ b i ∷ d i ∷ e i ∷ []
