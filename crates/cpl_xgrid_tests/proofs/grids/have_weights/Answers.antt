use Rattle.std.proofs.Common.{get_or, pos, rules, arith}
use mir.Val.{SFits}
use mir.Syntax.{w64}
use Rattle.std.proofs.lemmas.Int.{ints}
use Rattle.cpl_fixed.specs.Ranges.{IsFromℤ}
use Rattle.cpl_fixed.specs.declared.limits.TheConstants.{MOST_WEIGHT}
use Rattle.cpl_xgrid.specs.declared.parts.Outlet.{Outlet}
use Rattle.cpl_xgrid_tests.proofs.Each.{each_more}
use Rattle.cpl_xgrid_tests.proofs.grids.have_weights.Goals as goal

pub loop-outlet-preserved : goal.loop-outlet-preserved
loop-outlet-preserved c =
    let d : Outlet = record { land = record { tile = 0; i = 0; j = 0 }; ocean = record { tile = 0; i = 0; j = 0 }; weight = pos 0 } in
    let fits : SFits w64 (get_or c.args.outlets.now c.loop-outlet.outlet-index d).weight = search rules in
    each_more (λ (outlet : Outlet). IsFromℤ 0 MOST_WEIGHT outlet.weight) c.args.outlets.now c.loop-outlet.outlet-index d c.loop-outlet-test.true c.loop-outlet.invariant (grind (arith, ints), grind (arith, ints))
