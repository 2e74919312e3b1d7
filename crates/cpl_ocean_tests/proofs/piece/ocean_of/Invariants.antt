use Rattle.cpl_ocean_tests.specs.Rows.{IsOceanOf}
use Rattle.cpl_ocean_tests.proofs.piece.ocean_of.Given as goal

abbrev pub invariant-loop-n : goal.invariant-loop-n
invariant-loop-n l = IsOceanOf l.piece l.ocean
