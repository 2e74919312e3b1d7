use Rattle.std.proofs.Common.{arith}
use Rattle.cpl_fast.proofs.tables.fill_land_areas.Goals as goal

pub returns-clause-used : goal.returns-clause-used
returns-clause-used c = record {
  count = c.loop-m.invariant.used_count;
  each = λ n l. (let own = c.loop-m.invariant.used n (omega arith) in record { most = omega (arith, own); rest = λ k behind within. absurd (omega (arith, own, behind, within)) });
}
