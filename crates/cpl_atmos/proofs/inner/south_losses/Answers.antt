use Rattle.std.proofs.Common.{arith}
use Rattle.std.proofs.lemmas.Int.{ints}
use Rattle.cpl_atmos.proofs.Divisors.{wide, kept_by}
use Rattle.cpl_atmos.proofs.Carried.{souths_more}
use Rattle.cpl_atmos.proofs.inner.south_losses.Goals as goal

pub loop-i-preserved : goal.loop-i-preserved
loop-i-preserved c =
    let has = kept_by _ _ _ c.args.areas.now _ _ c.areas.invariant c.areas.view_is in
    souths_more c.args.areas.now c.args.x.now c.args.j c.loop-i.i c.loop-i.souths c.loop-i.invariant (omega arith) (wide c.inner_flow.result) (record { is = omega (arith, ints); low = omega (arith, ints); high = omega (arith, ints) })
