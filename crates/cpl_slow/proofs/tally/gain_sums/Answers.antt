use Rattle.std.proofs.Common.{arith}
use Rattle.std.proofs.lemmas.Int.{ints}
use Rattle.cpl_slow.specs.Land.{gain_at}
use Rattle.cpl_slow.proofs.Summed.{cells_more}
use Rattle.cpl_slow.proofs.tally.gain_sums.Goals as goal

pub loop-gain-preserved : goal.loop-gain-preserved
loop-gain-preserved c =
    let i = c.loop-gain.gain-index in
    let gain = c.requires.each i c.loop-gain-test.true in
    let was = c.loop-gain.invariant in
    let heat = cells_more (λ n. (gain_at c.args.gains.now n).heat) i in
    let water = cells_more (λ n. (gain_at c.args.gains.now n).water) i in
    record {
      heat = omega (arith, ints, heat, gain.heat.0, gain.heat.1, c.from-heat.ensures, was.heat);
      water = omega (arith, ints, water, gain.water.0, gain.water.1, c.from-water.ensures, was.water);
      heat_least = omega (arith, ints, gain.heat.0, gain.heat.1, c.from-heat.ensures, was.heat_least, was.heat_most);
      water_least = omega (arith, ints, gain.water.0, gain.water.1, c.from-water.ensures, was.water_least, was.water_most);
      heat_most = omega (arith, ints, gain.heat.0, gain.heat.1, c.from-heat.ensures, was.heat_least, was.heat_most);
      water_most = omega (arith, ints, gain.water.0, gain.water.1, c.from-water.ensures, was.water_least, was.water_most);
    }
