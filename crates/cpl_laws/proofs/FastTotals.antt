-- What a fast step does to the totals, and that no cell falls below 0, whatever rains on the elements.
use Rattle.std.proofs.Common.{◌≡◌, ◌∙◌, sym, ap, ℕ, suc, ◌+◌, ◌*◌, ◌/◌, ◌%◌, ◌<◌, arith, List, length}
use Rattle.std.specs.Prelude.{ℤ, pos, ◌+ℤ◌, ◌-ℤ◌, ◌*ℤ◌, ◌≤ℤ◌}
use Rattle.std.specs.List.{range_with_len}
use Rattle.std.proofs.lemmas.Int.{ints}
use Rattle.cpl_fixed.specs.Amounts.{at}
use Rattle.cpl_fixed.specs.Totals.{total_of}
use Rattle.cpl_fixed.specs.declared.limits.TheConstants.{WATER_HEAT}
use Rattle.cpl_mosaic.specs.Contacts.{cells_of}
use Rattle.cpl_xgrid.specs.declared.grid.Grid.{Grid}
use Rattle.cpl_xgrid.specs.declared.parts.XRef.{XRef}
use Rattle.cpl_xgrid.specs.declared.parts.Surface.{Surface}
use Rattle.cpl_xgrid.specs.declared.parts.Surface.TheVariants.{Land, Ocean}
use Rattle.cpl_state.specs.Diffusion.{IsAirMesh}
use Rattle.cpl_state.specs.States.{air_cells, land_cells, ocean_cells, categories, part_count, of_cell}
use Rattle.cpl_state.specs.Elements.{tiles_of, element_count, refs_of_air_cell, refs_of_surface_cell, over_all, over_part}
use Rattle.cpl_state.specs.FastStep.{Before, surface_part, heat_down, water_up, to_space, left, for_each, for_each_category}
use Rattle.cpl_state.specs.FastLaws.{CanStep}
use Rattle.cpl_diffusion.proofs.Sums.{sum_to, sum_to-same, sum_to-first}
use Rattle.cpl_laws.specs.Once.{IsNumbered}
use Rattle.cpl_laws.proofs.Sums.{total_range, total_add, total_sub, cells_same, blocks, in_blocks}
use Rattle.cpl_laws.proofs.Groups.{total_natural, all_range}
use Rattle.cpl_laws.proofs.Elements.{ref_in, rows_in, sum_at, each_of_surface}
use Rattle.cpl_laws.proofs.Flows.{part_heat, part_mass, part_gives_heat, part_gives_vapour, part_gives_water}
use Rattle.cpl_laws.proofs.FastSums.{over_rows, air_sum, land_sum, ocean_sum, heat_with, water_with, ice_wet, total_with, total_less, ice_heat_sum, ice_water_sum}

-- numbers of cells, with what is added in each
pub added_sum : (xs : List ℤ) (f : ℕ → ℤ) (n : ℕ) → length xs ≡ n → total_of (for_each n (λ i. at xs i +ℤ f i)) ≡ total_of xs +ℤ total_of (for_each n f)
added_sum xs f n e = total_add (at xs) f (range_with_len 0 n) ∙ ap (λ (z : ℤ). z +ℤ total_of (for_each n f)) (sum_at xs n e)

pub taken_sum : (xs : List ℤ) (f : ℕ → ℤ) (n : ℕ) → length xs ≡ n → total_of (for_each n (λ i. at xs i -ℤ f i)) ≡ total_of xs -ℤ total_of (for_each n f)
taken_sum xs f n e = total_sub (at xs) f (range_with_len 0 n) ∙ ap (λ (z : ℤ). z -ℤ total_of (for_each n f)) (sum_at xs n e)

-- the same of numbers that each cell has in turn
pub added_blocks : (grid : Grid) (xs : List ℤ) (f : ℕ → ℕ → ℤ) → length xs ≡ categories grid * ocean_cells grid
    → total_of (for_each_category grid (λ n k. of_cell (categories grid) n k xs +ℤ f n k)) ≡ total_of xs +ℤ total_of (for_each_category grid f)
added_blocks grid xs f e =
    let K = categories grid in
    let N = K * ocean_cells grid in
    let g = λ (i : ℕ). f (i / K) (i % K) in
    let own = total_range (λ i. at xs ((i / K) * K + i % K)) N ∙ in_blocks (at xs) K (ocean_cells grid) ∙ sym (total_range (at xs) N) ∙ sum_at xs N e in
    total_add (λ i. at xs ((i / K) * K + i % K)) g (range_with_len 0 N) ∙ ap (λ (z : ℤ). z +ℤ total_of (for_each N g)) own

-- what all skins and categories have in their elements
pub skin_and_ice : (grid : Grid) → IsNumbered grid → 0 < categories grid → (f : XRef → ℕ → ℤ)
    → total_of (for_each (ocean_cells grid) (λ n. over_part f 0 (refs_of_surface_cell grid Ocean n)))
    +ℤ total_of (for_each_category grid (λ n k. over_part f (k + 1) (refs_of_surface_cell grid Ocean n)))
    ≡ over_rows grid Ocean f
skin_and_ice grid is some f =
    let C = ocean_cells grid in
    let K = categories grid in
    let skin = λ (n : ℕ). over_part f 0 (refs_of_surface_cell grid Ocean n) in
    let ice = λ (n k : ℕ). over_part f (k + 1) (refs_of_surface_cell grid Ocean n) in
    let all = λ (n : ℕ). sum_to (λ k. over_part f k (refs_of_surface_cell grid Ocean n)) (part_count grid) in
    let e : suc K ≡ K + 1 = omega arith in
    let each = λ (n : ℕ). (let refs = refs_of_surface_cell grid Ocean n in
    let first = sum_to-first (λ k. over_part f k refs) K in
    let others = sum_to-same (λ k. over_part f (suc k) refs) (λ k. over_part f (k + 1) refs) K (λ k l. ap (λ (j : ℕ). over_part f j refs) (let z : suc k ≡ k + 1 = omega arith in z)) in
    let whole = ap (sum_to (λ k. over_part f k refs)) e in
    let goal : skin n +ℤ sum_to (ice n) K ≡ all n = omega (arith, ints, first, others, whole) in goal) in
    let a = total_range (λ i. ice (i / K) (i % K)) (K * C) ∙ blocks ice K C some ∙ sym (total_range (λ n. sum_to (ice n) K) C) in
    let b = total_add skin (λ n. sum_to (ice n) K) (range_with_len 0 C) in
    let d = cells_same (λ n. skin n +ℤ sum_to (ice n) K) all C (λ n l. each n) in
    let g = ocean_sum grid is f in
    omega (arith, ints, a, b, d, g)

-- THE CELLS AFTER IT, WITH NO SUN

module _ (s : Before) (wet : XRef → ℕ → ℤ) where
  abbrev pub air_heat_with : ℕ → ℤ
  air_heat_with n = at s.mid.whole.air_heat n -ℤ over_all s.grid (heat_with s wet) (refs_of_air_cell s.grid n) -ℤ to_space s n

  abbrev pub air_vapour_with : ℕ → ℤ
  air_vapour_with n = at s.mid.whole.air_vapour n -ℤ over_all s.grid (water_with s wet) (refs_of_air_cell s.grid n)

  abbrev pub land_heat_with : ℕ → ℤ
  land_heat_with n = at s.mid.whole.land_heat n +ℤ over_part (heat_with s wet) 0 (refs_of_surface_cell s.grid Land n)

  abbrev pub land_water_with : ℕ → ℤ
  land_water_with n = at s.mid.whole.land_water n +ℤ over_part (water_with s wet) 0 (refs_of_surface_cell s.grid Land n)

  abbrev pub skin_heat_with : ℕ → ℤ
  skin_heat_with n = at s.mid.skin_heat n +ℤ (over_part (heat_with s wet) 0 (refs_of_surface_cell s.grid Ocean n) +ℤ (WATER_HEAT *ℤ ice_wet s wet n))

  abbrev pub skin_water_with : ℕ → ℤ
  skin_water_with n = at s.mid.skin_water n +ℤ (over_part (water_with s wet) 0 (refs_of_surface_cell s.grid Ocean n) +ℤ ice_wet s wet n)

abbrev pub category_with : Before → (n k : ℕ) → ℤ
category_with s n k = of_cell (categories s.grid) n k s.mid.whole.ice_heat +ℤ over_part (heat_down s) (k + 1) (refs_of_surface_cell s.grid Ocean n)

module _ (s : Before) (is : IsNumbered s.grid) (air : IsAirMesh s.grid.air) (can : CanStep s) where
  pub some_category : 0 < categories s.grid
  some_category = is.rules.column.categories.0

  pub category_natural : (n k : ℕ) → n < ocean_cells s.grid → k < categories s.grid → pos 0 ≤ℤ category_with s n k
  category_natural n k l h =
      let own = part_heat s is air can Ocean n (suc k) in
      let gives = part_gives_heat s is air can Ocean n (suc k) l (omega arith) in
      let same = ap (λ (j : ℕ). over_part (heat_down s) j (refs_of_surface_cell s.grid Ocean n)) (let e : suc k ≡ k + 1 = omega arith in e) in
      omega (arith, ints, own, gives, same)

  module _ (wet : XRef → ℕ → ℤ) (wets : (list : Surface) (m k : ℕ) → m < length (rows_in s.grid is list) → pos 0 ≤ℤ wet (ref_in list m) k) where
    part_wet : (list : Surface) (n k : ℕ) → n < cells_of (tiles_of s.grid list) → pos 0 ≤ℤ over_part wet k (refs_of_surface_cell s.grid list n)
    part_wet list n k l = total_natural (λ ref. wet ref k) (refs_of_surface_cell s.grid list n) (each_of_surface s.grid is (λ ref. pos 0 ≤ℤ wet ref k) list n l (λ m h e. wets list m k h))

    part_keeps_heat : (list : Surface) (n k : ℕ) → n < cells_of (tiles_of s.grid list) → k < element_count s.grid list
        → pos 0 ≤ℤ ((surface_part s.grid s.mid list n k).heat +ℤ over_part (heat_with s wet) k (refs_of_surface_cell s.grid list n))
    part_keeps_heat list n k l h =
        let sum = total_with (λ ref. heat_down s ref k) (λ ref. water_up s ref k) (λ ref. wet ref k) (refs_of_surface_cell s.grid list n) in
        let own = part_heat s is air can list n k in
        let a = part_gives_heat s is air can list n k l h in
        let b = part_gives_vapour s is air can list n k l h in
        let c = part_wet list n k l in
        omega (arith, ints, sum, own, a, b, c)

    part_keeps_water : (list : Surface) (n k : ℕ) → n < cells_of (tiles_of s.grid list) → k < element_count s.grid list
        → pos 0 ≤ℤ ((surface_part s.grid s.mid list n k).mass +ℤ over_part (water_with s wet) k (refs_of_surface_cell s.grid list n))
    part_keeps_water list n k l h =
        let sum = total_less (λ ref. wet ref k) (λ ref. water_up s ref k) (refs_of_surface_cell s.grid list n) in
        let own = part_mass s is air can list n k in
        let b = part_gives_water s is air can list n k l h in
        let c = part_wet list n k l in
        omega (arith, ints, sum, own, b, c)

    ice_wet_natural : (n : ℕ) → n < ocean_cells s.grid → pos 0 ≤ℤ ice_wet s wet n
    ice_wet_natural n l =
        total_natural (λ k. over_part wet (k + 1) (refs_of_surface_cell s.grid Ocean n)) (range_with_len 0 (categories s.grid))
        (all_range (λ k. pos 0 ≤ℤ over_part wet (k + 1) (refs_of_surface_cell s.grid Ocean n)) (categories s.grid) (λ k h. part_wet Ocean n (k + 1) l))

    pub land_heat_natural : (n : ℕ) → n < land_cells s.grid → pos 0 ≤ℤ land_heat_with s wet n
    land_heat_natural n l = part_keeps_heat Land n 0 l (omega arith)

    pub land_water_natural : (n : ℕ) → n < land_cells s.grid → pos 0 ≤ℤ land_water_with s wet n
    land_water_natural n l = part_keeps_water Land n 0 l (omega arith)

    pub skin_heat_natural : (n : ℕ) → n < ocean_cells s.grid → pos 0 ≤ℤ skin_heat_with s wet n
    skin_heat_natural n l =
        let a = part_keeps_heat Ocean n 0 l (omega arith) in
        let b = ice_wet_natural n l in
        omega (arith, ints, a, b)

    pub skin_water_natural : (n : ℕ) → n < ocean_cells s.grid → pos 0 ≤ℤ skin_water_with s wet n
    skin_water_natural n l =
        let a = part_keeps_water Ocean n 0 l (omega arith) in
        let b = ice_wet_natural n l in
        omega (arith, ints, a, b)

    -- SUMS

    air_heat_sum : total_of (for_each (air_cells s.grid) (air_heat_with s wet)) ≡ total_of s.mid.whole.air_heat -ℤ (over_rows s.grid Land (heat_with s wet) +ℤ over_rows s.grid Ocean (heat_with s wet)) -ℤ left s
    unfolding left
    air_heat_sum =
        let f = λ (n : ℕ). over_all s.grid (heat_with s wet) (refs_of_air_cell s.grid n) in
        let a = total_sub (λ n. at s.mid.whole.air_heat n -ℤ f n) (to_space s) (range_with_len 0 (air_cells s.grid)) in
        let b = taken_sum s.mid.whole.air_heat f (air_cells s.grid) can.mid.whole.lengths.air_heat in
        let c = air_sum s.grid is (heat_with s wet) in
        omega (arith, ints, a, b, c)

    air_vapour_sum : total_of (for_each (air_cells s.grid) (air_vapour_with s wet)) ≡ total_of s.mid.whole.air_vapour -ℤ (over_rows s.grid Land (water_with s wet) +ℤ over_rows s.grid Ocean (water_with s wet))
    air_vapour_sum =
        let f = λ (n : ℕ). over_all s.grid (water_with s wet) (refs_of_air_cell s.grid n) in
        let b = taken_sum s.mid.whole.air_vapour f (air_cells s.grid) can.mid.whole.lengths.air_vapour in
        let c = air_sum s.grid is (water_with s wet) in
        omega (arith, ints, b, c)

    land_heat_sum : total_of (for_each (land_cells s.grid) (land_heat_with s wet)) ≡ total_of s.mid.whole.land_heat +ℤ over_rows s.grid Land (heat_with s wet)
    land_heat_sum =
        added_sum s.mid.whole.land_heat (λ n. over_part (heat_with s wet) 0 (refs_of_surface_cell s.grid Land n)) (land_cells s.grid) can.mid.whole.lengths.land_heat
        ∙ ap (λ (z : ℤ). total_of s.mid.whole.land_heat +ℤ z) (land_sum s.grid is (heat_with s wet))

    land_water_sum : total_of (for_each (land_cells s.grid) (land_water_with s wet)) ≡ total_of s.mid.whole.land_water +ℤ over_rows s.grid Land (water_with s wet)
    land_water_sum =
        added_sum s.mid.whole.land_water (λ n. over_part (water_with s wet) 0 (refs_of_surface_cell s.grid Land n)) (land_cells s.grid) can.mid.whole.lengths.land_water
        ∙ ap (λ (z : ℤ). total_of s.mid.whole.land_water +ℤ z) (land_sum s.grid is (water_with s wet))

    skin_heat_sum : total_of (for_each (ocean_cells s.grid) (skin_heat_with s wet)) +ℤ total_of (for_each_category s.grid (category_with s)) ≡ total_of s.mid.skin_heat +ℤ total_of s.mid.whole.ice_heat +ℤ over_rows s.grid Ocean (heat_with s wet)
    skin_heat_sum =
        let a = added_sum s.mid.skin_heat (λ n. over_part (heat_with s wet) 0 (refs_of_surface_cell s.grid Ocean n) +ℤ (WATER_HEAT *ℤ ice_wet s wet n)) (ocean_cells s.grid) can.mid.skin_heat.count in
        let b = added_blocks s.grid s.mid.whole.ice_heat (λ n k. over_part (heat_down s) (k + 1) (refs_of_surface_cell s.grid Ocean n)) can.mid.whole.lengths.ice_heat in
        let c = ice_heat_sum s is wet some_category in
        omega (arith, ints, a, b, c)

    skin_water_sum : total_of (for_each (ocean_cells s.grid) (skin_water_with s wet)) ≡ total_of s.mid.skin_water +ℤ over_rows s.grid Ocean (water_with s wet)
    skin_water_sum =
        let a = added_sum s.mid.skin_water (λ n. over_part (water_with s wet) 0 (refs_of_surface_cell s.grid Ocean n) +ℤ ice_wet s wet n) (ocean_cells s.grid) can.mid.skin_water.count in
        let c = ice_water_sum s is wet in
        omega (arith, ints, a, c)

    -- heat leaves to space alone, and water nowhere
    pub heat_kept : total_of (for_each (air_cells s.grid) (air_heat_with s wet)) +ℤ total_of (for_each (land_cells s.grid) (land_heat_with s wet))
        +ℤ (total_of (for_each (ocean_cells s.grid) (skin_heat_with s wet)) +ℤ total_of (for_each_category s.grid (category_with s)))
        ≡ total_of s.mid.whole.air_heat +ℤ total_of s.mid.whole.land_heat +ℤ total_of s.mid.skin_heat +ℤ total_of s.mid.whole.ice_heat -ℤ left s
    heat_kept =
        let a = air_heat_sum in
        let b = land_heat_sum in
        let c = skin_heat_sum in
        omega (arith, ints, a, b, c)

    pub water_kept : total_of (for_each (air_cells s.grid) (air_vapour_with s wet)) +ℤ total_of (for_each (land_cells s.grid) (land_water_with s wet)) +ℤ total_of (for_each (ocean_cells s.grid) (skin_water_with s wet))
        ≡ total_of s.mid.whole.air_vapour +ℤ total_of s.mid.whole.land_water +ℤ total_of s.mid.skin_water
    water_kept =
        let a = air_vapour_sum in
        let b = land_water_sum in
        let c = skin_water_sum in
        omega (arith, ints, a, b, c)
