use Rattle.std.proofs.Common.{ℕ, ◌<◌, get_or}
use Rattle.cpl_fixed.specs.Ranges.{IsFromℤ}
use Rattle.cpl_fixed.specs.declared.limits.TheConstants.{MOST_WEIGHT}
use Rattle.cpl_xgrid.specs.declared.parts.Outlet.{Outlet}
use Rattle.cpl_xgrid_tests.proofs.grids.have_weights.Given as goal

abbrev pub invariant-loop-outlet : goal.invariant-loop-outlet
invariant-loop-outlet l = (k : ℕ) (d : Outlet) → k < l.outlet-index → IsFromℤ 0 MOST_WEIGHT (get_or l.outlets k d).weight
