use Rattle.cpl_laws.proofs.SurfaceKept.{keeps_surface}
use Rattle.cpl_laws.proofs.laws.surface_law.Goals as goal

pub returns : goal.returns
returns c = keeps_surface
