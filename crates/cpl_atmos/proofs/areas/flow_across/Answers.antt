use Rattle.std.proofs.Common.{arith}
use Rattle.std.proofs.lemmas.Int.{ints}
use Rattle.cpl_fixed.proofs.Flows.{flow_most, flow_least}
use Rattle.cpl_atmos.proofs.Divisors.{wide}
use Rattle.cpl_atmos.proofs.areas.flow_across.Goals as goal

pub returns-clause-low : goal.returns-clause-low
returns-clause-low c =
    let a = c.args in
    let least = flow_least (wide a.x) (wide a.a) (wide a.y) (wide a.b) (omega (arith, ints)) (omega (arith, ints)) (omega (arith, ints)) (omega (arith, ints)) in
    omega (arith, ints)

pub returns-clause-high : goal.returns-clause-high
returns-clause-high c =
    let a = c.args in
    let most = flow_most (wide a.x) (wide a.a) (wide a.y) (wide a.b) (omega (arith, ints)) (omega (arith, ints)) (omega (arith, ints)) (omega (arith, ints)) in
    omega (arith, ints)
