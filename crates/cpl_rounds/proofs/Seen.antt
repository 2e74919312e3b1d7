-- What the air sees of the surface.
use Rattle.std.proofs.Common.{◌≡◌, ◌∙◌, refl, sym, ap, ℕ, zero, suc, ◌+◌, ◌<◌, ◌≤◌, arith}
use Rattle.std.specs.Prelude.{ℤ}
use Rattle.cpl_fixed.specs.declared.limits.TheConstants.{MOST_CATEGORIES}
use Rattle.cpl_flux.specs.declared.parts.Kind.TheVariants as kind
use Rattle.cpl_xgrid.specs.declared.grid.Grid.{Grid}
use Rattle.cpl_xgrid.specs.declared.parts.Surface.TheVariants.{Land, Ocean}
use Rattle.cpl_xgrid.specs.Lists.{IsColumn}
use Rattle.cpl_state.specs.declared.whole.Mid.{Mid}
use Rattle.cpl_state.specs.States.{categories, ice_cell, of_cell, part_count}
use Rattle.cpl_state.specs.Elements.{part_area}
use Rattle.cpl_state.specs.FastStep.{land_part, ocean_part}
use Rattle.cpl_rounds.specs.Rounds.{PlanParts, state_at, mid_at, land_at, ice_at, land_seen, ice_seen}
use Rattle.cpl_rounds.proofs.Shapes.{filled_at}
use Rattle.cpl_rounds.proofs.Areas.{part_same, still_parts}

pub land_is_seen : (plan : PlanParts) (n i c : ℕ) → land_part plan.grid (mid_at plan n i) c ≡ land_seen (land_at plan n i c) (part_area plan.grid (state_at plan n) Land c 0)
unfolding land_at
land_is_seen plan n i c = ap (land_seen (land_at plan n i c)) (part_same plan.grid (mid_at plan n i).whole (state_at plan n) Land c 0 (still_parts plan n i))

-- a part of a cell, with its own area
part_seen : (grid : Grid) (mid : Mid) (c k : ℕ) → categories grid ≤ 5 → k < part_count grid → ocean_part grid mid c k ≡ ice_seen (ice_cell grid mid c) (part_area grid mid.whole Ocean c k) k
part_seen grid mid c zero few l = refl
part_seen grid mid c (suc k) few l =
    let K = categories grid in
    let inside : k < K = omega arith in
    λ t. record {
      kind = kind.Ice;
      heat = sym (filled_at MOST_CATEGORIES K (λ m. of_cell K c m mid.whole.ice_heat) k inside few) t;
      mass = sym (filled_at MOST_CATEGORIES K (λ m. of_cell K c m mid.whole.ice) k inside few) t;
      area = part_area grid mid.whole Ocean c (suc k);
    }

pub ice_is_seen : (plan : PlanParts) (n i c k : ℕ) → IsColumn plan.grid.column → k < part_count plan.grid
    → ocean_part plan.grid (mid_at plan n i) c k ≡ ice_seen (ice_at plan n (i + 1) c) (part_area plan.grid (state_at plan n) Ocean c k) k
unfolding ice_at
ice_is_seen plan n i c k column l =
    let next : suc i ≡ i + 1 = omega arith in
    part_seen plan.grid (mid_at plan n i) c k column.categories.1 l
    ∙ ap (λ (area : ℤ). ice_seen (ice_cell plan.grid (mid_at plan n i) c) area k) (part_same plan.grid (mid_at plan n i).whole (state_at plan n) Ocean c k (still_parts plan n i))
    ∙ ap (λ (r : ℕ). ice_seen (ice_at plan n r c) (part_area plan.grid (state_at plan n) Ocean c k) k) next
