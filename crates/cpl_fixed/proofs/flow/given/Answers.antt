use Rattle.std.proofs.Common.{◌+◌, ◌*◌, ◌/◌, ◌≤◌, arith, ap}
use Rattle.std.proofs.Math.Nat.{mul-div-le}
use Rattle.cpl_fixed.proofs.Flows.{no_more}
use Rattle.cpl_fixed.proofs.flow.given.Goals as goal

pub returns-clause-most : goal.returns-clause-most
returns-clause-most c =
    let more = c.args.x * c.args.b in
    let size : c.saturating_sub.result ≤ more = grind arith in
    let q = c.saturating_sub.result / c.from-5.result in
    let d : 8 * (c.args.a + c.args.b) * q ≤ more = omega (arith, mul-div-le c.saturating_sub.result c.from-5.result, size, ap (λ n. n * q) c.from-5.ensures) in
    no_more c.args.x c.args.b (c.args.a + c.args.b) q (omega arith) (omega arith) d
