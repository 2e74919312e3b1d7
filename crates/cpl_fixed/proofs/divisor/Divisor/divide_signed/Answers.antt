use Rattle.std.proofs.Common.{◌≡◌, ◌∙◌, ap, ℕ, ◌/◌, ◌<◌, ◌^◌, arith, to_z, of_z, w64, ℤ, pos, negsuc, ◌*ℤ◌}
use lib.IntN.{nat_abs}
use Rattle.std.proofs.Math.Nat.{div-le_self}
use Rattle.std.proofs.lemmas.Int.{ints}
use Rattle.cpl_fixed.specs.Division.{trunc}
use Rattle.cpl_fixed.specs.Reciprocals.{sign_of}
use Rattle.cpl_fixed.proofs.divisor.Divisor.divide_signed.Goals as goal

-- a quotient of 63 bits with the sign of n
signed : (n : ℤ) (d q : ℕ) → q ≡ nat_abs n / d → q < 2 ^ 63 → to_z w64 (of_z w64 (sign_of n *ℤ pos q)) ≡ trunc n (pos d)
signed (pos n) d q e small = omega (arith, ints, e)
signed (negsuc n) d q e small = omega (arith, ints, e)

pub returns : goal.returns
returns c =
    let n : to_z w64 (of_z w64 c.args.n) ≡ c.args.n = omega (arith, ints) in
    let s : to_z w64 (of_z w64 c.sign.result) ≡ sign_of c.args.n = omega (arith, ints, c.sign.ensures ∙ ap sign_of n) in
    let size = c.unsigned_abs.ensures.value ∙ ap nat_abs n in
    let q : c.divide.result ≡ nat_abs c.args.n / c.args.self.now = c.divide.ensures ∙ ap (λ m. m / c.args.self.now) size in
    let most = div-le_self (nat_abs c.args.n) c.args.self.now in
    let small : c.divide.result < 2 ^ 63 = omega (arith, ints) in
    let own : to_z w64 c.divide.result ≡ pos c.divide.result = omega (arith, ints) in
    (λ i. to_z w64 (of_z w64 (s i *ℤ own i))) ∙ signed c.args.n c.args.self.now c.divide.result q small
