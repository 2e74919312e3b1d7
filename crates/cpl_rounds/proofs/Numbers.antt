-- What values carry, by rounds.
use Rattle.std.proofs.Common.{◌≡◌, ap, ℕ, ◌<◌}
use Rattle.cpl_fixed.specs.declared.gain.Gain.{Gain}
use Rattle.cpl_land.specs.Land.{runoff}
use Rattle.cpl_xgrid.specs.Lists.{IsColumn}
use Rattle.cpl_state.specs.States.{part_count}
use Rattle.cpl_state.specs.Elements.{surface_number}
use Rattle.cpl_state.specs.Slow.{drain, drained_cell}
use Rattle.cpl_rounds.specs.Rounds.{PlanParts, mid_at, land_at}
use Rattle.cpl_rounds.specs.Values.{element_numbers, on_ocean, part_numbers, runoff_numbers, seen_numbers, share_of_runoff}
use Rattle.cpl_rounds.proofs.Flows.{still_area}
use Rattle.cpl_rounds.proofs.Airs.{land_runoff}
use Rattle.cpl_rounds.proofs.Seen.{ice_is_seen}

pub element_seen : (plan : PlanParts) (n i row k : ℕ) → IsColumn plan.grid.column → k < part_count plan.grid → element_numbers plan.grid (mid_at plan n i) row k ≡ seen_numbers plan n i row k
element_seen plan n i row k column l =
    let area = still_area plan n i (on_ocean row) k in
    let part = ice_is_seen plan n i (surface_number plan.grid (on_ocean row)) k column l in
    λ t. part_numbers (area t) (part t)

pub outlet_runoff : (plan : PlanParts) (n o : ℕ)
    → runoff_numbers (drain plan.grid plan.names.rates (mid_at plan n plan.names.fast).whole o)
    ≡ runoff_numbers (share_of_runoff plan.grid (runoff plan.names.rates (land_at plan n plan.names.fast (drained_cell plan.grid o))) o)
outlet_runoff plan n o = ap (λ (gain : Gain). runoff_numbers (share_of_runoff plan.grid gain o)) (land_runoff plan n (drained_cell plan.grid o))
