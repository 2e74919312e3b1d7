use Rattle.cpl_rounds.specs.Rounds.{state_at, mid_at}
use Rattle.cpl_rounds.proofs.Areas.{part_same, still_parts}
use Rattle.cpl_rounds.proofs.Flows.{still_area, still_share}
use Rattle.cpl_rounds.proofs.rounds.areas_law.Goals as goal

pub returns : goal.returns
returns c = record {
  element = still_area;
  part = λ plan n i list c k. part_same plan.grid (mid_at plan n i).whole (state_at plan n) list c k (still_parts plan n i);
  share = still_share;
}
