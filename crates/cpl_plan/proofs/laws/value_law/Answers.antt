use Rattle.cpl_plan.proofs.Lengths.{has_lengths}
use Rattle.cpl_plan.proofs.PieceShapes.{sums_shape}
use Rattle.cpl_plan.proofs.laws.value_law.Goals as goal

pub returns : goal.returns
returns c = record { lengths = has_lengths; sums = sums_shape }
