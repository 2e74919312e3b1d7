use Rattle.std.proofs.Common.{get_or, pos, rules, arith}
use mir.Val.{SFits}
use mir.Syntax.{w64}
use Rattle.std.proofs.lemmas.Int.{ints}
use Rattle.cpl_state.specs.Diffusion.{IsAirArea}
use Rattle.cpl_samples.proofs.Lists.{each_more}
use Rattle.cpl_whole_tests.proofs.runs.are_areas.Goals as goal

pub loop-a-preserved : goal.loop-a-preserved
loop-a-preserved c =
    let fits : SFits w64 (get_or c.args.area.now c.loop-a.a-index (pos 0)) = search rules in
    each_more IsAirArea c.args.area.now c.loop-a.a-index c.loop-a-test.true c.loop-a.invariant (grind (arith, ints), grind (arith, ints))
