use Rattle.std.proofs.Common.{◌≡◌, ◌∙◌, sym, subst, arith, to_z, of_z, w64}
use Rattle.std.specs.Prelude.{ℤ, pos, ◌≤ℤ◌}
use Rattle.std.proofs.lemmas.Int.{ints}
use Rattle.cpl_fixed.specs.Amounts.{IsAmount}
use Rattle.cpl_fixed.specs.Shares.{part_of}
use Rattle.cpl_fixed.specs.Ranges.{IsFromℤ}
use Rattle.cpl_fast.proofs.Parts.{amount_passed, part_range}
use Rattle.cpl_fast.proofs.air.space_of.Goals as goal

space_is : (heat ko : ℤ) → IsAmount heat → IsFromℤ 0 131_072 ko → part_of (to_z w64 (of_z w64 heat)) (to_z w64 (of_z w64 ko)) (pos 1_048_576) ≡ part_of heat ko (pos 1_048_576)
space_is heat ko amount rate =
    let a = rate.0 in let b = rate.1 in
    let k : to_z w64 (of_z w64 ko) ≡ ko = omega (arith, ints) in
    λ i. part_of (amount_passed heat amount i) (k i) (pos 1_048_576)

space_range : (heat ko : ℤ) → IsAmount heat → IsFromℤ 0 131_072 ko → IsAmount (part_of heat ko (pos 1_048_576))
space_range heat ko amount rate = let a = rate.0 in let b = rate.1 in part_range heat ko (pos 1_048_576) amount a (omega (arith, ints)) (omega (arith, ints))

pub part_of-requires-clause-most : goal.part_of-requires-clause-most
part_of-requires-clause-most c =
    subst (λ (x : ℤ). x ≤ℤ pos 4_611_686_018_427_387_903) (sym (space_is c.args.heat c.args.rates.now.ko c.requires.heat c.requires.rates.ko)) (space_range c.args.heat c.args.rates.now.ko c.requires.heat c.requires.rates.ko).1

pub returns-clause-range : goal.returns-clause-range
returns-clause-range c =
    let x = c.args.heat in
    let ko = c.args.rates.now.ko in
    let e = c.part_of.ensures.value ∙ space_is x ko c.requires.heat c.requires.rates.ko in
    let range : IsAmount c.part_of.result = subst IsAmount (sym e) (space_range x ko c.requires.heat c.requires.rates.ko) in
    subst IsAmount (sym (amount_passed c.part_of.result range)) range
