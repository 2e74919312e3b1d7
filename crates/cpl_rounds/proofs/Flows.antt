-- What flows in a fast step, by the cells before it.
use Rattle.std.proofs.Common.{◌≡◌, ◌∙◌, sym, ap, ℕ, ◌+◌, ◌-◌, ◌*◌, ◌<◌, List}
use Rattle.std.specs.Prelude.{ℤ, pos, ◌+ℤ◌, ◌-ℤ◌, ◌*ℤ◌}
use Rattle.cpl_fixed.specs.Amounts.{at}
use Rattle.cpl_fixed.specs.Shares.{part_of}
use Rattle.cpl_fixed.specs.declared.limits.TheConstants.{VAPOUR_HEAT}
use Rattle.cpl_flux.specs.declared.parts.AirSide.{AirSide}
use Rattle.cpl_flux.specs.Elements.{element}
use Rattle.cpl_xgrid.specs.declared.parts.XRef.{XRef}
use Rattle.cpl_xgrid.specs.declared.parts.Surface.TheVariants.{Land, Ocean}
use Rattle.cpl_xgrid.specs.Lists.{IsColumn}
use Rattle.cpl_state.specs.States.{part_count}
use Rattle.cpl_state.specs.Elements.{air_number, element_area, over_all, part_area, refs_of_air_cell, share_at, surface_number}
use Rattle.cpl_state.specs.FastStep.{absorbed, albedo, flux, heat_before_rain, heat_down, rain, rain_on, sun_on, to_space, vapour_before_rain, water_up}
use Rattle.cpl_state.specs.CouplingStep.{month_of}
use Rattle.cpl_rounds.specs.Rounds.{PlanParts, state_at, mid_at, fast_step, air_at, land_at, ice_at, land_seen, ice_seen}
use Rattle.cpl_rounds.specs.Values.{on_land, on_ocean}
use Rattle.cpl_rounds.proofs.Airs.{air_even, sun_is}
use Rattle.cpl_rounds.proofs.Areas.{areas_same, share_same, still_parts}
use Rattle.cpl_rounds.proofs.Seen.{land_is_seen, ice_is_seen}

-- the area of an element is that of the coupling step
pub still_area : (plan : PlanParts) (n i : ℕ) (ref : XRef) (k : ℕ) → element_area plan.grid (mid_at plan n i).whole ref k ≡ element_area plan.grid (state_at plan n) ref k
still_area plan n i ref k = ap (λ (areas : List ℤ). at areas k) (areas_same plan.grid (mid_at plan n i).whole (state_at plan n) ref (still_parts plan n i))

pub still_share : (plan : PlanParts) (n i : ℕ) (amount : ℤ) (ref : XRef) (k : ℕ) → share_at plan.grid (mid_at plan n i).whole amount ref k ≡ share_at plan.grid (state_at plan n) amount ref k
still_share plan n i amount ref k = share_same plan.grid (mid_at plan n i).whole (state_at plan n) amount ref k (still_parts plan n i)

pub land_flux : (plan : PlanParts) (n i row : ℕ) → flux (fast_step plan n i) (on_land row) 0
    ≡ element plan.names.rates (air_at plan n (2 * i) (air_number plan.grid (on_land row)))
    (land_seen (land_at plan n i (surface_number plan.grid (on_land row))) (part_area plan.grid (state_at plan n) Land (surface_number plan.grid (on_land row)) 0))
    (element_area plan.grid (state_at plan n) (on_land row) 0)
unfolding flux
land_flux plan n i row =
    let ref = on_land row in
    λ t. element plan.names.rates (sym (air_even plan n i (air_number plan.grid ref)) t) (land_is_seen plan n i (surface_number plan.grid ref) t) (still_area plan n i ref 0 t)

pub ice_flux : (plan : PlanParts) (n i row k : ℕ) → IsColumn plan.grid.column → k < part_count plan.grid → flux (fast_step plan n i) (on_ocean row) k
    ≡ element plan.names.rates (air_at plan n (2 * i) (air_number plan.grid (on_ocean row)))
    (ice_seen (ice_at plan n (i + 1) (surface_number plan.grid (on_ocean row))) (part_area plan.grid (state_at plan n) Ocean (surface_number plan.grid (on_ocean row)) k) k)
    (element_area plan.grid (state_at plan n) (on_ocean row) k)
unfolding flux
ice_flux plan n i row k column l =
    let ref = on_ocean row in
    λ t. element plan.names.rates (sym (air_even plan n i (air_number plan.grid ref)) t) (ice_is_seen plan n i (surface_number plan.grid ref) k column l t) (still_area plan n i ref k t)

pub sun_part : (plan : PlanParts) (n i c : ℕ) → sun_on (fast_step plan n i) c ≡ part_of (at plan.start.air_sun c) (at plan.names.rates.month (month_of plan.names (state_at plan n) - 1)) (pos 1_000)
unfolding sun_on
sun_part plan n i c = ap (λ (sun : List ℤ). part_of (at sun c) (at plan.names.rates.month (month_of plan.names (state_at plan n) - 1)) (pos 1_000)) (sun_is plan n i)

absorbed_by : (plan : PlanParts) (n i : ℕ) (ref : XRef) (k : ℕ) → absorbed (fast_step plan n i) ref k
    ≡ part_of (share_at plan.grid (state_at plan n) (part_of (at plan.start.air_sun (air_number plan.grid ref)) (at plan.names.rates.month (month_of plan.names (state_at plan n) - 1)) (pos 1_000)) ref k)
    (pos 1_000 -ℤ albedo plan.names.rates ref.list k) (pos 1_000)
unfolding absorbed
absorbed_by plan n i ref k =
    ap (λ (x : ℤ). part_of x (pos 1_000 -ℤ albedo plan.names.rates ref.list k) (pos 1_000))
    (ap (λ (sun : ℤ). share_at plan.grid (mid_at plan n i).whole sun ref k) (sun_part plan n i (air_number plan.grid ref)) ∙ still_share plan n i _ ref k)

pub absorbed_same : (plan : PlanParts) (n i : ℕ) (ref : XRef) (k : ℕ) → absorbed (fast_step plan n i) ref k ≡ absorbed (fast_step plan n 0) ref k
absorbed_same plan n i ref k = absorbed_by plan n i ref k ∙ sym (absorbed_by plan n 0 ref k)

pub space_part : (plan : PlanParts) (n i c : ℕ) → to_space (fast_step plan n i) c ≡ part_of (air_at plan n (2 * i) c).heat plan.names.rates.ko (pos 1_048_576)
unfolding to_space
space_part plan n i c = ap (λ (it : AirSide). part_of it.heat plan.names.rates.ko (pos 1_048_576)) (sym (air_even plan n i c))

pub heat_so_far : (plan : PlanParts) (n i c : ℕ) → heat_before_rain (fast_step plan n i) c
    ≡ (air_at plan n (2 * i) c).heat -ℤ over_all plan.grid (heat_down (fast_step plan n i)) (refs_of_air_cell plan.grid c)
    +ℤ (VAPOUR_HEAT *ℤ over_all plan.grid (water_up (fast_step plan n i)) (refs_of_air_cell plan.grid c)) -ℤ to_space (fast_step plan n i) c
unfolding heat_before_rain
heat_so_far plan n i c =
    ap (λ (it : AirSide). it.heat -ℤ over_all plan.grid (heat_down (fast_step plan n i)) (refs_of_air_cell plan.grid c)
    +ℤ (VAPOUR_HEAT *ℤ over_all plan.grid (water_up (fast_step plan n i)) (refs_of_air_cell plan.grid c)) -ℤ to_space (fast_step plan n i) c) (sym (air_even plan n i c))

pub vapour_so_far : (plan : PlanParts) (n i c : ℕ) → vapour_before_rain (fast_step plan n i) c
    ≡ (air_at plan n (2 * i) c).vapour +ℤ over_all plan.grid (water_up (fast_step plan n i)) (refs_of_air_cell plan.grid c)
unfolding vapour_before_rain
vapour_so_far plan n i c =
    ap (λ (it : AirSide). it.vapour +ℤ over_all plan.grid (water_up (fast_step plan n i)) (refs_of_air_cell plan.grid c)) (sym (air_even plan n i c))

pub rain_share : (plan : PlanParts) (n i : ℕ) (ref : XRef) (k : ℕ) → rain_on (fast_step plan n i) ref k ≡ share_at plan.grid (state_at plan n) (rain (fast_step plan n i) (air_number plan.grid ref)) ref k
unfolding rain_on
rain_share plan n i ref k = still_share plan n i (rain (fast_step plan n i) (air_number plan.grid ref)) ref k
