use Rattle.std.proofs.Common.{◌*◌, ◌≤◌, arith, w64, to_z, of_z}
use Rattle.std.specs.Prelude.{unsigned_abs}
use Rattle.std.proofs.Math.Nat.{mul-le-mul}
use Rattle.std.proofs.lemmas.Int.{ints}
use Rattle.cpl_fast.proofs.air.rain_of.Goals as goal

pub overflow_mul-dry : goal.overflow_mul-dry
overflow_mul-dry c =
    let rc = c.requires.rates.rc in
    let r = rc.0 in let s = rc.1 in
    let a = c.requires.area.0 in let b = c.requires.area.1 in
    let x = unsigned_abs (to_z w64 (of_z w64 c.args.rates.now.rc)) in
    let y = unsigned_abs (to_z w64 (of_z w64 c.args.area)) in
    let p : x ≤ 1_048_576 = omega (arith, ints) in
    let q : y ≤ 1_099_511_627_776 = omega (arith, ints) in
    let m : x * y ≤ 1_048_576 * 1_099_511_627_776 = mul-le-mul p q in
    record { fits = omega (arith, m) }
