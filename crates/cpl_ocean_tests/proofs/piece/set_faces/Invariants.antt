use Rattle.cpl_ocean_tests.specs.Rows.{IsOceanOf}
use Rattle.cpl_ocean_tests.proofs.piece.set_faces.Given as goal

abbrev pub invariant-loop-i : goal.invariant-loop-i
invariant-loop-i l = IsOceanOf l.piece l.ocean
