use Rattle.std.proofs.Common.{◌≡◌, arith, to_z, of_z, w64}
use Rattle.std.proofs.lemmas.Int.{ints}
use Rattle.cpl_fixed.specs.Shares.{part_of}
use Rattle.cpl_fast.proofs.Parts.{part_range}
use Rattle.cpl_fast.proofs.portions.Portions.new.Goals as goal

pub part_of-requires-clause-most : goal.part_of-requires-clause-most
part_of-requires-clause-most c =
    let a : to_z w64 (of_z w64 c.args.amount) ≡ c.args.amount = omega (arith, ints) in
    let f : to_z w64 (of_z w64 c.args.from) ≡ c.args.from = omega (arith, ints) in
    let w : to_z w64 (of_z w64 c.args.whole) ≡ c.args.whole = omega (arith, ints) in
    let range = part_range c.args.amount c.args.from c.args.whole c.requires.amount c.requires.from c.requires.within c.requires.some in
    let same : part_of (to_z w64 (of_z w64 c.args.amount)) (to_z w64 (of_z w64 c.args.from)) (to_z w64 (of_z w64 c.args.whole)) ≡ part_of c.args.amount c.args.from c.args.whole = λ i. part_of (a i) (f i) (w i) in
    let most = range.1 in
    omega (arith, ints, same, most)
