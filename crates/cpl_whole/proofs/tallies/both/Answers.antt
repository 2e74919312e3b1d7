use Rattle.std.proofs.Common.{◌≡◌, arith, to_z, of_z, w64}
use Rattle.std.specs.Prelude.{ℤ, ◌+ℤ◌}
use Rattle.std.proofs.lemmas.Int.{ints}
use Rattle.cpl_fixed.specs.Amounts.{IsAmount}
use Rattle.cpl_whole.proofs.tallies.both.Goals as goal

-- a sum in range, as words have it
word_sum : (a b : ℤ) → IsAmount a → IsAmount b → IsAmount (a +ℤ b) → to_z w64 (of_z w64 (to_z w64 (of_z w64 a) +ℤ to_z w64 (of_z w64 b))) ≡ a +ℤ b
word_sum a b first second range = omega (arith, ints, first.0, first.1, second.0, second.1, range.0, range.1)

pub returns : goal.returns
returns c =
    let entered = word_sum c.args.a.now.entered c.args.b.now.entered c.requires.first.entered c.requires.second.entered c.requires.sum.heat.entered in
    let left = word_sum c.args.a.now.left c.args.b.now.left c.requires.first.left c.requires.second.left c.requires.sum.heat.left in
    λ i. record { entered = entered i; left = left i; gave = c.each_sum.ensures i; took = c.each_sum-2.ensures i }
