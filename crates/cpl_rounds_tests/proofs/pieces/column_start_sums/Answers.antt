use Rattle.std.proofs.Common.{refl}
use Rattle.cpl_layout.specs.Own.{own_cells}
use Rattle.cpl_layout.specs.Pieces.{piece_of}
use Rattle.cpl_stocks.specs.Partials.{no_sums}
use Rattle.cpl_wires.specs.Settings.{pieces_in}
use Rattle.cpl_rounds.specs.Rounds.{state_at}
use Rattle.cpl_plan.specs.PieceSums.{part_sums}
use Rattle.cpl_rounds_tests.proofs.pieces.column_start_sums.Goals as goal

pub returns-clause-air : goal.returns-clause-air
unfolding part_sums pieces_in own_cells piece_of state_at
returns-clause-air c = refl

pub returns-clause-ice : goal.returns-clause-ice
unfolding part_sums pieces_in own_cells piece_of state_at
returns-clause-ice c = refl

pub returns-clause-ocean : goal.returns-clause-ocean
unfolding part_sums pieces_in own_cells piece_of state_at
returns-clause-ocean c = refl

pub returns-clause-nothing : goal.returns-clause-nothing
unfolding part_sums no_sums
returns-clause-nothing c = refl
