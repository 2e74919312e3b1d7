use Rattle.std.proofs.Common.{◌≡◌}
use Rattle.cpl_diffusion.specs.Across.{faces_to}
use Rattle.cpl_diffusion.proofs.faces.all_faces.Given as goal

abbrev pub invariant-loop-n : goal.invariant-loop-n
invariant-loop-n l = l.faces.items ≡ faces_to l.mesh l.ahead l.back l.n
