use Rattle.cpl_ocean_tests.specs.Rows.{IsFieldOf}
use Rattle.cpl_ocean_tests.proofs.piece.field_of.Given as goal

abbrev pub invariant-loop-i : goal.invariant-loop-i
invariant-loop-i l = IsFieldOf l.piece l.field

abbrev pub invariant-loop-depth : goal.invariant-loop-depth
invariant-loop-depth l = IsFieldOf l.piece l.field
