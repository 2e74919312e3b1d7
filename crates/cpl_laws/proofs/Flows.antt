-- What flows through the elements of a lawful state: its signs, and how much each cell gives at most.
use Rattle.std.proofs.Common.{◌≡◌, ◌∙◌, refl, ap, subst, ℕ, zero, suc, ◌-◌, ◌*◌, ◌/◌, ◌<◌, ◌≤◌, arith, List, [], ◌∷◌, map, length}
use Rattle.std.specs.Prelude.{ℤ, pos, negsuc, neg_ℤ, ◌-ℤ◌, ◌*ℤ◌, ◌≤ℤ◌, All}
use Rattle.std.specs.List.{range_with_len}
use Rattle.std.proofs.lemmas.Int.{ints}
use Rattle.std.proofs.Math.Nat.{mul-div-le}
use Rattle.std.proofs.lemmas.List.Elements.{All-from_recursion}
use Rattle.cpl_fixed.specs.Amounts.{amount, at}
use Rattle.cpl_fixed.specs.Totals.{total_of}
use Rattle.cpl_fixed.specs.Shares.{part_of}
use Rattle.cpl_fixed.specs.Ranges.{IsFromℤ, AreRates}
use Rattle.cpl_fixed.specs.declared.limits.TheConstants.{VAPOUR_HEAT}
use Rattle.cpl_fixed.specs.declared.rates.Rates.{Rates}
use Rattle.cpl_fixed.proofs.Parts.{part_pos, part_grows, part_whole}
use Rattle.cpl_mosaic.specs.Contacts.{cells_of}
use Rattle.cpl_xgrid.specs.declared.parts.XRef.{XRef}
use Rattle.cpl_xgrid.specs.declared.parts.Surface.{Surface}
use Rattle.cpl_xgrid.specs.declared.parts.Surface.TheVariants.{Land, Ocean}
use Rattle.cpl_flux.specs.Elements.{eighth}
use Rattle.cpl_state.specs.Stored.{IsStored}
use Rattle.cpl_state.specs.Diffusion.{IsAirMesh}
use Rattle.cpl_state.specs.States.{air_cells, air_side, IsWhole}
use Rattle.cpl_state.specs.Elements.{tiles_of, air_number, surface_number, refs_of_air_cell, refs_of_surface_cell, element_count, element_area, over_elements, over_all, over_part, part_area, share_at}
use Rattle.cpl_state.specs.FastStep.{Before, surface_part, albedo, flux, heat_down, water_up, sun_on, absorbed, to_space, rain, rain_on}
use Rattle.cpl_state.specs.FastLaws.{CanStep}
use Rattle.cpl_diffusion.proofs.Conserved.{area_at}
use Rattle.cpl_laws.specs.Once.{IsNumbered}
use Rattle.cpl_laws.proofs.Groups.{total_same, total_natural, total_most, all_range}
use Rattle.cpl_laws.proofs.Fluxes.{is_eighth, together, IsWithin, one_within, sum_within, within_whole}
use Rattle.cpl_laws.proofs.Elements.{ref_in, at_natural, rows_in, each_of_surface, each_of_air}
use Rattle.cpl_laws.proofs.Areas.{element_natural, air_elements, part_natural}
use Rattle.cpl_laws.proofs.Shares.{share_natural, share_total}

-- parts of amounts
pub part_natural_of : (x weight : ℤ) (whole : ℕ) → pos 0 ≤ℤ x → pos 0 ≤ℤ weight → pos 0 ≤ℤ part_of x weight (pos whole)
part_natural_of (pos x) (pos weight) whole hx hw = let e = part_pos x weight whole in omega (arith, ints, e)
part_natural_of (negsuc x) weight whole hx hw = absurd (omega (arith, ints, hx))
part_natural_of x (negsuc weight) whole hx hw = absurd (omega (arith, ints, hw))

pub part_below : (x weight : ℤ) (whole : ℕ) → pos 0 ≤ℤ x → pos 0 ≤ℤ weight → weight ≤ℤ pos whole → 0 < whole → part_of x weight (pos whole) ≤ℤ x
part_below (pos x) (pos weight) whole hx hw most some =
    let e = part_pos x weight whole in
    let a = part_grows x weight whole whole some (omega (arith, ints, most)) in
    let b = part_whole x whole some in
    omega (arith, ints, e, a, b)
part_below (negsuc x) weight whole hx hw most some = absurd (omega (arith, ints, hx))
part_below x (negsuc weight) whole hx hw most some = absurd (omega (arith, ints, hw))

-- at most an eighth
part_eighth : (x weight : ℤ) → pos 0 ≤ℤ x → pos 0 ≤ℤ weight → weight ≤ℤ pos 131_072 → (pos 8 *ℤ part_of x weight (pos 1_048_576)) ≤ℤ x
part_eighth (pos x) (pos weight) hx hw most =
    let e = part_pos x weight 1_048_576 in
    let a = part_grows x weight 131_072 1_048_576 (omega arith) (omega (arith, ints, most)) in
    let b : 1_048_576 * (x * 131_072 / 1_048_576) ≤ x * 131_072 = mul-div-le (x * 131_072) 1_048_576 in
    omega (arith, ints, e, a, b)
part_eighth (negsuc x) weight hx hw most = absurd (omega (arith, ints, hx))
part_eighth x (negsuc weight) hx hw most = absurd (omega (arith, ints, hw))

pub stored_natural : (xs : List ℤ) → All IsStored xs → (n : ℕ) → pos 0 ≤ℤ at xs n
stored_natural xs all n = at_natural xs (λ k d l. (all k d l).0) n

-- sums of negatives and of multiples
total_neg : {T : Type 0} (f : T → ℤ) (xs : List T) → total_of (map (λ x. neg_ℤ (f x)) xs) ≡ neg_ℤ (total_of (map f xs))
total_neg f [] = refl
total_neg f (x ∷ xs) = let e = total_neg f xs in omega (arith, ints, e)

total_vapour : {T : Type 0} (f : T → ℤ) (xs : List T) → total_of (map (λ x. VAPOUR_HEAT *ℤ f x) xs) ≡ VAPOUR_HEAT *ℤ total_of (map f xs)
total_vapour f [] = refl
total_vapour f (x ∷ xs) = let e = total_vapour f xs in omega (arith, ints, e)

-- albedos are thousandths
pub albedo_range : (rates : Rates) → AreRates rates → (list : Surface) (k : ℕ) → IsFromℤ 0 1_000 (albedo rates list k)
albedo_range rates are Land k = are.land_albedo
albedo_range rates are Ocean zero = are.water_albedo
albedo_range rates are Ocean (suc k) = are.ice_albedo

-- the sun's strength in a month isn't negative
pub strength_least : (rates : Rates) → AreRates rates → (k : ℕ) → pos 0 ≤ℤ at rates.month k
strength_least rates are k = at_natural rates.month (λ j d l. (All-from_recursion (IsFromℤ 0 4_000) rates.month are.month j d l).0) k

-- nothing evaporates from ice
pub dry_ice : (s : Before) (m k : ℕ) → water_up s (ref_in Ocean m) (suc k) ≡ pos 0
unfolding flux
dry_ice s m k = refl

-- no water comes down as vapour
pub up_natural : (s : Before) (ref : XRef) (k : ℕ) → pos 0 ≤ℤ water_up s ref k
unfolding flux
up_natural s ref k = (is_eighth s.rates (air_side s.grid s.mid.whole (air_number s.grid ref)) (surface_part s.grid s.mid ref.list (surface_number s.grid ref) k) (element_area s.grid s.mid.whole ref k)).upward

module _ (s : Before) (is : IsNumbered s.grid) (air : IsAirMesh s.grid.air) (can : CanStep s) where
  abbrev lawful : IsWhole s.grid s.mid.whole
  lawful = can.mid.whole

  -- SUN AND RAIN

  strength_natural : pos 0 ≤ℤ at s.rates.month (s.month - 1)
  strength_natural = strength_least s.rates can.rates (s.month - 1)

  pub sun_natural : (n : ℕ) → pos 0 ≤ℤ sun_on s n
  unfolding sun_on
  sun_natural n = part_natural_of (at s.mid.whole.air_sun n) (at s.rates.month (s.month - 1)) 1_000 (stored_natural s.mid.whole.air_sun lawful.stored.air_sun n) strength_natural

  pub rain_natural : (n : ℕ) → pos 0 ≤ℤ rain s n
  unfolding rain
  rain_natural n = omega (arith, ints)

  pub rain_on_natural : (list : Surface) (m k : ℕ) → m < length (rows_in s.grid is list) → pos 0 ≤ℤ rain_on s (ref_in list m) k
  unfolding rain_on
  rain_on_natural list m k l = share_natural s.grid is s.mid.whole lawful air (rain s (air_number s.grid (ref_in list m))) (rain_natural (air_number s.grid (ref_in list m))) list m k l

  sun_share_natural : (list : Surface) (m k : ℕ) → m < length (rows_in s.grid is list) → pos 0 ≤ℤ share_at s.grid s.mid.whole (sun_on s (air_number s.grid (ref_in list m))) (ref_in list m) k
  sun_share_natural list m k l = share_natural s.grid is s.mid.whole lawful air (sun_on s (air_number s.grid (ref_in list m))) (sun_natural (air_number s.grid (ref_in list m))) list m k l

  pub absorbed_natural : (list : Surface) (m k : ℕ) → m < length (rows_in s.grid is list) → pos 0 ≤ℤ absorbed s (ref_in list m) k
  unfolding absorbed
  absorbed_natural list m k l =
      let range = albedo_range s.rates can.rates list k in
      part_natural_of (share_at s.grid s.mid.whole (sun_on s (air_number s.grid (ref_in list m))) (ref_in list m) k) (pos 1_000 -ℤ albedo s.rates list k) 1_000 (sun_share_natural list m k l) (omega (arith, ints, range.1))

  pub absorbed_most : (list : Surface) (m k : ℕ) → m < length (rows_in s.grid is list) → absorbed s (ref_in list m) k ≤ℤ share_at s.grid s.mid.whole (sun_on s (air_number s.grid (ref_in list m))) (ref_in list m) k
  unfolding absorbed
  absorbed_most list m k l =
      let range = albedo_range s.rates can.rates list k in
      part_below (share_at s.grid s.mid.whole (sun_on s (air_number s.grid (ref_in list m))) (ref_in list m) k) (pos 1_000 -ℤ albedo s.rates list k) 1_000 (sun_share_natural list m k l) (omega (arith, ints, range.1)) (omega (arith, ints, range.0)) (omega arith)

  -- the shares of the rain on a cell are its rain
  pub rain_total : (n : ℕ) → n < air_cells s.grid → over_all s.grid (rain_on s) (refs_of_air_cell s.grid n) ≡ rain s n
  unfolding rain_on
  rain_total n l =
      let f = over_elements s.grid (λ ref k. share_at s.grid s.mid.whole (rain s (air_number s.grid ref)) ref k) in
      let g = over_elements s.grid (share_at s.grid s.mid.whole (rain s n)) in
      total_same f g (refs_of_air_cell s.grid n) (each_of_air s.grid is (λ ref. f ref ≡ g ref) n l (λ list m h e. ap (λ (j : ℕ). over_elements s.grid (share_at s.grid s.mid.whole (rain s j)) (ref_in list m)) e))
      ∙ share_total s.grid is s.mid.whole lawful air (rain s n) (rain_natural n) n l

  -- what a cell's elements absorb is no more than the sun on it
  pub absorbed_total : (n : ℕ) → n < air_cells s.grid → (pos 0 ≤ℤ over_all s.grid (absorbed s) (refs_of_air_cell s.grid n)) × (over_all s.grid (absorbed s) (refs_of_air_cell s.grid n) ≤ℤ sun_on s n)
  absorbed_total n l =
      let g = λ (ref : XRef) (k : ℕ). share_at s.grid s.mid.whole (sun_on s n) ref k in
      let sum = share_total s.grid is s.mid.whole lawful air (sun_on s n) (sun_natural n) n l in
      let least = total_natural (over_elements s.grid (absorbed s)) (refs_of_air_cell s.grid n)
      (each_of_air s.grid is (λ ref. pos 0 ≤ℤ over_elements s.grid (absorbed s) ref) n l (λ list m h e.
      total_natural (absorbed s (ref_in list m)) (range_with_len 0 (element_count s.grid list)) (all_range (λ k. pos 0 ≤ℤ absorbed s (ref_in list m) k) (element_count s.grid list) (λ k i. absorbed_natural list m k h)))) in
      let most = total_most (over_elements s.grid (absorbed s)) (over_elements s.grid g) (refs_of_air_cell s.grid n)
      (each_of_air s.grid is (λ ref. over_elements s.grid (absorbed s) ref ≤ℤ over_elements s.grid g ref) n l (λ list m h e.
      total_most (absorbed s (ref_in list m)) (g (ref_in list m)) (range_with_len 0 (element_count s.grid list)) (all_range (λ k. absorbed s (ref_in list m) k ≤ℤ g (ref_in list m) k) (element_count s.grid list)
      (λ k i. subst (λ (j : ℕ). absorbed s (ref_in list m) k ≤ℤ share_at s.grid s.mid.whole (sun_on s j) (ref_in list m) k) e (absorbed_most list m k h))))) in
      (least, omega (arith, ints, most, sum))

  -- A CELL OF THE AIR

  heat_within : (list : Surface) (m k : ℕ) (n : ℕ) → m < length (rows_in s.grid is list) → air_number s.grid (ref_in list m) ≡ n
      → IsWithin (amount (at s.mid.whole.air_heat n)) (amount (at s.grid.air.area n)) (element_area s.grid s.mid.whole (ref_in list m) k) (heat_down s (ref_in list m) k)
  unfolding flux
  heat_within list m k n l e =
      let ref = ref_in list m in
      let b = element_area s.grid s.mid.whole ref k in
      let bound = is_eighth s.rates (air_side s.grid s.mid.whole (air_number s.grid ref)) (surface_part s.grid s.mid list (surface_number s.grid ref) k) b in
      subst (λ (j : ℕ). IsWithin (amount (at s.mid.whole.air_heat j)) (amount (at s.grid.air.area j)) b (heat_down s ref k)) e
      (one_within (amount (at s.mid.whole.air_heat (air_number s.grid ref))) (amount (at s.grid.air.area (air_number s.grid ref))) b (heat_down s ref k) (element_natural s.grid is s.mid.whole lawful list m k l) bound.from_air)

  pub air_gives : (n : ℕ) → n < air_cells s.grid → (pos 8 *ℤ over_all s.grid (heat_down s) (refs_of_air_cell s.grid n)) ≤ℤ at s.mid.whole.air_heat n
  air_gives n l =
      let there = amount (at s.mid.whole.air_heat n) in
      let whole = amount (at s.grid.air.area n) in
      let area = area_at s.grid.air air n l in
      let P = λ (ref : XRef). IsWithin there whole (over_elements s.grid (element_area s.grid s.mid.whole) ref) (over_elements s.grid (heat_down s) ref) in
      let rows = sum_within there whole (over_elements s.grid (element_area s.grid s.mid.whole)) (over_elements s.grid (heat_down s)) (refs_of_air_cell s.grid n)
      (each_of_air s.grid is P n l (λ list m h e.
      sum_within there whole (element_area s.grid s.mid.whole (ref_in list m)) (heat_down s (ref_in list m)) (range_with_len 0 (element_count s.grid list))
      (all_range (λ k. IsWithin there whole (element_area s.grid s.mid.whole (ref_in list m) k) (heat_down s (ref_in list m) k)) (element_count s.grid list) (λ k i. heat_within list m k n h e)))) in
      within_whole (at s.mid.whole.air_heat n) (at s.grid.air.area n) (over_all s.grid (heat_down s) (refs_of_air_cell s.grid n))
      (stored_natural s.mid.whole.air_heat lawful.stored.air_heat n) area.0
      (subst (λ (b : ℤ). IsWithin there whole b (over_all s.grid (heat_down s) (refs_of_air_cell s.grid n))) (air_elements s.grid is s.mid.whole lawful n l) rows)

  pub air_takes : (n : ℕ) → n < air_cells s.grid → pos 0 ≤ℤ over_all s.grid (water_up s) (refs_of_air_cell s.grid n)
  air_takes n l =
      total_natural (over_elements s.grid (water_up s)) (refs_of_air_cell s.grid n)
      (each_of_air s.grid is (λ ref. pos 0 ≤ℤ over_elements s.grid (water_up s) ref) n l (λ list m h e.
      total_natural (water_up s (ref_in list m)) (range_with_len 0 (element_count s.grid list)) (all_range (λ k. pos 0 ≤ℤ water_up s (ref_in list m) k) (element_count s.grid list) (λ k i. up_natural s (ref_in list m) k))))

  pub space_most : (n : ℕ) → (pos 0 ≤ℤ to_space s n) × ((pos 8 *ℤ to_space s n) ≤ℤ at s.mid.whole.air_heat n)
  unfolding to_space
  space_most n =
      let heat = stored_natural s.mid.whole.air_heat lawful.stored.air_heat n in
      (part_natural_of (at s.mid.whole.air_heat n) s.rates.ko 1_048_576 heat can.rates.ko.0, part_eighth (at s.mid.whole.air_heat n) s.rates.ko heat can.rates.ko.0 can.rates.ko.1)

  -- A PART OF THE SURFACE

  pub part_heat : (list : Surface) (n k : ℕ) → pos 0 ≤ℤ (surface_part s.grid s.mid list n k).heat
  part_heat Land n k = stored_natural s.mid.whole.land_heat lawful.stored.land_heat n
  part_heat Ocean n zero = stored_natural s.mid.skin_heat can.mid.skin_heat.stored n
  part_heat Ocean n (suc k) = stored_natural s.mid.whole.ice_heat lawful.stored.ice_heat _

  pub part_mass : (list : Surface) (n k : ℕ) → pos 0 ≤ℤ (surface_part s.grid s.mid list n k).mass
  part_mass Land n k = stored_natural s.mid.whole.land_water lawful.stored.land_water n
  part_mass Ocean n zero = stored_natural s.mid.skin_water can.mid.skin_water.stored n
  part_mass Ocean n (suc k) = stored_natural s.mid.whole.ice lawful.stored.ice _

  pub part_is : (list : Surface) (n k : ℕ) → k < element_count s.grid list → part_area s.grid s.mid.whole list n k ≡ (surface_part s.grid s.mid list n k).area
  part_is Land n zero l = refl
  part_is Land n (suc k) l = absurd (omega arith)
  part_is Ocean n zero l = refl
  part_is Ocean n (suc k) l = refl

  module _ (list : Surface) (n k : ℕ) (within : n < cells_of (tiles_of s.grid list)) (count : k < element_count s.grid list) where
    -- what each element of a part gives is no more than an eighth, so what all give together isn't either
    part_together : (there : ℤ) (g : XRef → ℤ) → pos 0 ≤ℤ there
        → ((m : ℕ) → m < length (rows_in s.grid is list) → surface_number s.grid (ref_in list m) ≡ n
        → g (ref_in list m) ≤ℤ pos (eighth (amount there) (amount (element_area s.grid s.mid.whole (ref_in list m) k)) (amount (surface_part s.grid s.mid list n k).area)))
        → (pos 8 *ℤ total_of (map g (refs_of_surface_cell s.grid list n))) ≤ℤ there
    unfolding part_area
    part_together there g least most =
        let area = part_is list n k count in
        let whole : pos 0 ≤ℤ (surface_part s.grid s.mid list n k).area = subst (λ (z : ℤ). pos 0 ≤ℤ z) area (part_natural s.grid is s.mid.whole lawful list n k within) in
        together there (surface_part s.grid s.mid list n k).area (λ ref. element_area s.grid s.mid.whole ref k) g (refs_of_surface_cell s.grid list n) least whole
        (each_of_surface s.grid is (λ ref. pos 0 ≤ℤ element_area s.grid s.mid.whole ref k) list n within (λ m l e. element_natural s.grid is s.mid.whole lawful list m k l))
        (each_of_surface s.grid is (λ ref. g ref ≤ℤ pos (eighth (amount there) (amount (element_area s.grid s.mid.whole ref k)) (amount (surface_part s.grid s.mid list n k).area))) list n within most)
        area

    heat_up : (m : ℕ) → surface_number s.grid (ref_in list m) ≡ n → neg_ℤ (heat_down s (ref_in list m) k) ≤ℤ pos (eighth (amount (surface_part s.grid s.mid list n k).heat) (amount (element_area s.grid s.mid.whole (ref_in list m) k)) (amount (surface_part s.grid s.mid list n k).area))
    unfolding flux
    heat_up m e =
        let b = element_area s.grid s.mid.whole (ref_in list m) k in
        subst (λ (j : ℕ). neg_ℤ (heat_down s (ref_in list m) k) ≤ℤ pos (eighth (amount (surface_part s.grid s.mid list j k).heat) (amount b) (amount (surface_part s.grid s.mid list j k).area))) e
        (is_eighth s.rates (air_side s.grid s.mid.whole (air_number s.grid (ref_in list m))) (surface_part s.grid s.mid list (surface_number s.grid (ref_in list m)) k) b).from_part

    vapour_up : (m : ℕ) → surface_number s.grid (ref_in list m) ≡ n → (VAPOUR_HEAT *ℤ water_up s (ref_in list m) k) ≤ℤ pos (eighth (amount (surface_part s.grid s.mid list n k).heat) (amount (element_area s.grid s.mid.whole (ref_in list m) k)) (amount (surface_part s.grid s.mid list n k).area))
    unfolding flux
    vapour_up m e =
        let b = element_area s.grid s.mid.whole (ref_in list m) k in
        subst (λ (j : ℕ). (VAPOUR_HEAT *ℤ water_up s (ref_in list m) k) ≤ℤ pos (eighth (amount (surface_part s.grid s.mid list j k).heat) (amount b) (amount (surface_part s.grid s.mid list j k).area))) e
        (is_eighth s.rates (air_side s.grid s.mid.whole (air_number s.grid (ref_in list m))) (surface_part s.grid s.mid list (surface_number s.grid (ref_in list m)) k) b).vapour_heat

    mass_up : (m : ℕ) → surface_number s.grid (ref_in list m) ≡ n → water_up s (ref_in list m) k ≤ℤ pos (eighth (amount (surface_part s.grid s.mid list n k).mass) (amount (element_area s.grid s.mid.whole (ref_in list m) k)) (amount (surface_part s.grid s.mid list n k).area))
    unfolding flux
    mass_up m e =
        let b = element_area s.grid s.mid.whole (ref_in list m) k in
        subst (λ (j : ℕ). water_up s (ref_in list m) k ≤ℤ pos (eighth (amount (surface_part s.grid s.mid list j k).mass) (amount b) (amount (surface_part s.grid s.mid list j k).area))) e
        (is_eighth s.rates (air_side s.grid s.mid.whole (air_number s.grid (ref_in list m))) (surface_part s.grid s.mid list (surface_number s.grid (ref_in list m)) k) b).water

    pub part_gives_heat : (neg_ℤ (pos 8 *ℤ over_part (heat_down s) k (refs_of_surface_cell s.grid list n))) ≤ℤ (surface_part s.grid s.mid list n k).heat
    part_gives_heat =
        let most = part_together (surface_part s.grid s.mid list n k).heat (λ ref. neg_ℤ (heat_down s ref k)) (part_heat list n k) (λ m l e. heat_up m e) in
        let sum = total_neg (λ ref. heat_down s ref k) (refs_of_surface_cell s.grid list n) in
        omega (arith, ints, most, sum)

    pub part_gives_vapour : (pos 8 *ℤ (VAPOUR_HEAT *ℤ over_part (water_up s) k (refs_of_surface_cell s.grid list n))) ≤ℤ (surface_part s.grid s.mid list n k).heat
    part_gives_vapour =
        let most = part_together (surface_part s.grid s.mid list n k).heat (λ ref. VAPOUR_HEAT *ℤ water_up s ref k) (part_heat list n k) (λ m l e. vapour_up m e) in
        let sum = total_vapour (λ ref. water_up s ref k) (refs_of_surface_cell s.grid list n) in
        omega (arith, ints, most, sum)

    pub part_gives_water : (pos 8 *ℤ over_part (water_up s) k (refs_of_surface_cell s.grid list n)) ≤ℤ (surface_part s.grid s.mid list n k).mass
    part_gives_water = part_together (surface_part s.grid s.mid list n k).mass (λ ref. water_up s ref k) (part_mass list n k) (λ m l e. mass_up m e)
