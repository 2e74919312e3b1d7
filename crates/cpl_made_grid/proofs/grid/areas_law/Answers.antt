-- Each cell of the air has as much of the line.
use Rattle.std.proofs.Common.{◌∙◌, sym}
use Rattle.cpl_made_grid.specs.Shapes.{air_count, ocean_count}
use Rattle.cpl_made_grid.proofs.TotalLaws.{areas_sum, total_replicate}
use Rattle.cpl_made_grid.proofs.grid.areas_law.Goals as goal

pub returns : goal.returns
returns c = λ recipe sized. areas_sum recipe sized ∙ sym (total_replicate (air_count recipe.size) (ocean_count recipe.size))
