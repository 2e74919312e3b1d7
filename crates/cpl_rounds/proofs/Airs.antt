-- The rounds of the air and of the land.
use Rattle.std.proofs.Common.{◌≡◌, ◌∙◌, refl, sym, ap, ℕ, zero, suc, ◌+◌, ◌*◌, ◌<◌, arith}
use Rattle.std.specs.Prelude.{◌==◌, if◌then◌else◌}
use Rattle.std.proofs.lemmas.Nat.{div-mul-add, mod-mul-add}
use Rattle.cpl_fixed.specs.Amounts.{at}
use Rattle.cpl_xgrid.specs.declared.parts.Surface.TheVariants as surface
use Rattle.cpl_flux.specs.declared.parts.AirSide.{AirSide}
use Rattle.cpl_land.specs.Land.{dried, gained, runoff}
use Rattle.cpl_state.specs.declared.whole.Whole.{Whole}
use Rattle.cpl_state.specs.declared.whole.Mid.{Mid}
use Rattle.cpl_state.specs.Diffusion.{diffused}
use Rattle.cpl_state.specs.States.{air_cells, land_cells, air_side, land_cell}
use Rattle.cpl_state.specs.FastStep.{for_each, fast_after, air_heat_after, air_vapour_after, land_after, land_taken, part_absorbed, with_sun}
use Rattle.cpl_state.specs.Slow.{runoff_of, slow_after}
use Rattle.cpl_state.specs.CouplingStep.{after_fast, step_after, taken}
use Rattle.cpl_rounds.specs.Rounds.{PlanParts, state_at, mid_at, fast_step, air_at, air_before, air_between, land_at}
use Rattle.cpl_rounds.proofs.States.{read_cell, state_next, mid_first, mid_next, mid_last}

-- THE AIR

-- before a fast step, or in it
by_parity : PlanParts → (n c parity half : ℕ) → AirSide
by_parity plan n c parity half = if parity == 0 then air_before plan n half c else air_between plan n half c

at_parity : (plan : PlanParts) (n i c b : ℕ) → b < 2 → air_at plan n (i * 2 + b) c ≡ by_parity plan n c b i
unfolding air_at by_parity
at_parity plan n i c b l = λ t. by_parity plan n c (mod-mul-add i 2 b l t) (div-mul-add i 2 b l t)

pub air_even : (plan : PlanParts) (n i c : ℕ) → air_at plan n (2 * i) c ≡ air_before plan n i c
unfolding by_parity
air_even plan n i c = let e : 2 * i ≡ i * 2 + 0 = omega arith in ap (λ (r : ℕ). air_at plan n r c) e ∙ at_parity plan n i c 0 (omega arith)

pub air_odd : (plan : PlanParts) (n i c : ℕ) → air_at plan n (2 * i + 1) c ≡ air_between plan n i c
unfolding by_parity
air_odd plan n i c = let e : 2 * i + 1 ≡ i * 2 + 1 = omega arith in ap (λ (r : ℕ). air_at plan n r c) e ∙ at_parity plan n i c 1 (omega arith)

air_later : (plan : PlanParts) (n i c : ℕ) → air_at plan n (2 * i + 2) c ≡ air_side plan.grid (fast_after (fast_step plan n i)).whole c
air_later plan n i c =
    let e : 2 * i + 2 ≡ 2 * (i + 1) = omega arith in
    ap (λ (r : ℕ). air_at plan n r c) e ∙ air_even plan n (i + 1) c ∙ ap (λ (mid : Mid). air_side plan.grid mid.whole c) (mid_next plan n i)

pub air_heat : (plan : PlanParts) (n i c : ℕ) → (air_at plan n (2 * i + 2) c).heat ≡ at (diffused plan.grid.air (for_each (air_cells plan.grid) (λ c. (air_at plan n (2 * i + 1) c).heat))) c
unfolding fast_after air_heat_after
air_heat plan n i c =
    ap (λ (it : AirSide). it.heat) (air_later plan n i c)
    ∙ (λ t. at (diffused plan.grid.air (for_each (air_cells plan.grid) (λ c. (sym (air_odd plan n i c) t).heat))) c)

pub air_vapour : (plan : PlanParts) (n i c : ℕ) → (air_at plan n (2 * i + 2) c).vapour ≡ at (diffused plan.grid.air (for_each (air_cells plan.grid) (λ c. (air_at plan n (2 * i + 1) c).vapour))) c
unfolding fast_after air_vapour_after
air_vapour plan n i c =
    ap (λ (it : AirSide). it.vapour) (air_later plan n i c)
    ∙ (λ t. at (diffused plan.grid.air (for_each (air_cells plan.grid) (λ c. (sym (air_odd plan n i c) t).vapour))) c)

-- neither the slow part nor what the ice takes touches the air
slow_air : (plan : PlanParts) (n c : ℕ) → air_side plan.grid (after_fast plan.grid plan.names (state_at plan n)).whole c ≡ air_side plan.grid (taken plan.grid (step_after plan.grid plan.names (state_at plan n))).whole c
unfolding taken step_after slow_after
slow_air plan n c = refl

pub air_last : (plan : PlanParts) (n c : ℕ) → air_at plan n (2 * plan.names.fast) c ≡ air_at plan (n + 1) 0 c
air_last plan n c =
    air_even plan n plan.names.fast c
    ∙ ap (λ (mid : Mid). air_side plan.grid mid.whole c) (mid_last plan n)
    ∙ slow_air plan n c
    ∙ ap (λ whole. air_side plan.grid (taken plan.grid whole).whole c) (sym (state_next plan n))
    ∙ ap (λ (mid : Mid). air_side plan.grid mid.whole c) (sym (mid_first plan (n + 1)))
    ∙ sym (air_even plan (n + 1) 0 c)

-- the sun never changes
taken_sun : (plan : PlanParts) (n : ℕ) → (mid_at plan n 0).whole.air_sun ≡ (state_at plan n).air_sun
unfolding taken
taken_sun plan n = ap (λ (mid : Mid). mid.whole.air_sun) (mid_first plan n)

fast_sun : (plan : PlanParts) (n i : ℕ) → (mid_at plan n (i + 1)).whole.air_sun ≡ (mid_at plan n i).whole.air_sun
unfolding fast_after
fast_sun plan n i = ap (λ (mid : Mid). mid.whole.air_sun) (mid_next plan n i)

step_sun : (plan : PlanParts) (n : ℕ) → (state_at plan (n + 1)).air_sun ≡ (mid_at plan n plan.names.fast).whole.air_sun
unfolding step_after slow_after
step_sun plan n = ap (λ (whole : Whole). whole.air_sun) (state_next plan n) ∙ ap (λ (mid : Mid). mid.whole.air_sun) (sym (mid_last plan n))

mid_sun : (plan : PlanParts) (n i : ℕ) → (mid_at plan n i).whole.air_sun ≡ (state_at plan n).air_sun
mid_sun plan n zero = taken_sun plan n
mid_sun plan n (suc i) =
    let next : suc i ≡ i + 1 = omega arith in
    ap (λ (m : ℕ). (mid_at plan n m).whole.air_sun) next ∙ fast_sun plan n i ∙ mid_sun plan n i

state_sun : (plan : PlanParts) (n : ℕ) → (state_at plan n).air_sun ≡ plan.start.air_sun
unfolding state_at
state_sun plan zero = refl
state_sun plan (suc n) =
    let next : suc n ≡ n + 1 = omega arith in
    ap (λ (m : ℕ). (state_at plan m).air_sun) next ∙ step_sun plan n ∙ mid_sun plan n plan.names.fast ∙ state_sun plan n

pub sun_is : (plan : PlanParts) (n i : ℕ) → (mid_at plan n i).whole.air_sun ≡ plan.start.air_sun
sun_is plan n i = mid_sun plan n i ∙ state_sun plan n

-- THE LAND

pub land_next : (plan : PlanParts) (n i c : ℕ) → c < land_cells plan.grid
    → land_at plan n (i + 1) c ≡ gained (land_at plan n i c) (with_sun (land_taken (fast_step plan n i) c) (part_absorbed (fast_step plan n i) surface.Land c 0))
unfolding land_at fast_after
land_next plan n i c l =
    let s = fast_step plan n i in
    ap (λ (mid : Mid). land_cell plan.grid mid.whole c) (mid_next plan n i)
    ∙ (λ t. record {
      heat = read_cell (λ m. (land_after s m).heat) (land_cells plan.grid) c l t;
      water = read_cell (λ m. (land_after s m).water) (land_cells plan.grid) c l t;
      area = at plan.grid.land.area c;
    })

pub land_runoff : (plan : PlanParts) (n c : ℕ) → runoff_of plan.grid plan.names.rates (mid_at plan n plan.names.fast).whole c ≡ runoff plan.names.rates (land_at plan n plan.names.fast c)
unfolding land_at runoff_of
land_runoff plan n c = refl

-- the land as the slow part leaves it
slow_land : (plan : PlanParts) (n c : ℕ) → c < land_cells plan.grid
    → dried plan.names.rates (land_cell plan.grid (after_fast plan.grid plan.names (state_at plan n)).whole c) ≡ land_cell plan.grid (taken plan.grid (step_after plan.grid plan.names (state_at plan n))).whole c
unfolding taken step_after slow_after
slow_land plan n c l =
    let whole = (after_fast plan.grid plan.names (state_at plan n)).whole in
    λ t. record {
      heat = sym (read_cell (λ m. (dried plan.names.rates (land_cell plan.grid whole m)).heat) (land_cells plan.grid) c l) t;
      water = sym (read_cell (λ m. (dried plan.names.rates (land_cell plan.grid whole m)).water) (land_cells plan.grid) c l) t;
      area = at plan.grid.land.area c;
    }

pub land_last : (plan : PlanParts) (n c : ℕ) → c < land_cells plan.grid → dried plan.names.rates (land_at plan n plan.names.fast c) ≡ land_at plan (n + 1) 0 c
unfolding land_at
land_last plan n c l =
    ap (λ (mid : Mid). dried plan.names.rates (land_cell plan.grid mid.whole c)) (mid_last plan n)
    ∙ slow_land plan n c l
    ∙ ap (λ whole. land_cell plan.grid (taken plan.grid whole).whole c) (sym (state_next plan n))
    ∙ ap (λ (mid : Mid). land_cell plan.grid mid.whole c) (sym (mid_first plan (n + 1)))
