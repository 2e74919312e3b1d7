use Rattle.std.proofs.Common.{refl}
use Rattle.cpl_state.specs.Elements.{surface_number}
use Rattle.cpl_rounds.specs.Rounds.{land_at}
use Rattle.cpl_rounds.specs.Values.{land_to_air, land_numbers, on_land}
use Rattle.cpl_rounds.proofs.Blocks.{has_blocks}
use Rattle.cpl_rounds.proofs.values.land_to_air_law.Goals as goal

pub returns : goal.returns
unfolding land_to_air
returns c = λ plan n i rows. has_blocks 2 (λ row. land_numbers (land_at plan n i (surface_number plan.grid (on_land row)))) (λ x. refl) rows
