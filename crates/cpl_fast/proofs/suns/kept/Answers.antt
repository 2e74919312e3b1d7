use Rattle.std.proofs.Common.{◌≡◌, ◌∙◌, sym, subst, arith, to_z, of_z, w64}
use Rattle.std.specs.Prelude.{ℤ, pos, ◌-ℤ◌, ◌≤ℤ◌}
use Rattle.std.proofs.lemmas.Int.{ints}
use Rattle.cpl_fixed.specs.Amounts.{IsAmount}
use Rattle.cpl_fixed.specs.Ranges.{IsFromℤ}
use Rattle.cpl_fixed.specs.Shares.{part_of}
use Rattle.cpl_fast.proofs.Parts.{amount_passed, part_range}
use Rattle.cpl_fast.proofs.suns.kept.Goals as goal

-- what is not thrown back
rest : (albedo : ℤ) → IsFromℤ 0 1_000 albedo → to_z w64 (of_z w64 (pos 1_000 -ℤ to_z w64 (of_z w64 albedo))) ≡ pos 1_000 -ℤ albedo
rest albedo h = let a = h.0 in let b = h.1 in omega (arith, ints)

absorbs : (share albedo : ℤ) → IsAmount share → IsFromℤ 0 1_000 albedo
    → part_of (to_z w64 (of_z w64 share)) (to_z w64 (of_z w64 (pos 1_000 -ℤ to_z w64 (of_z w64 albedo)))) (pos 1_000) ≡ part_of share (pos 1_000 -ℤ albedo) (pos 1_000)
absorbs share albedo amount h = λ i. part_of (amount_passed share amount i) (rest albedo h i) (pos 1_000)

absorbed_most : (share albedo : ℤ) → IsAmount share → IsFromℤ 0 1_000 albedo → IsAmount (part_of share (pos 1_000 -ℤ albedo) (pos 1_000))
absorbed_most share albedo amount h = let a = h.0 in let b = h.1 in part_range share (pos 1_000 -ℤ albedo) (pos 1_000) amount (omega (arith, ints)) (omega (arith, ints)) (omega (arith, ints))

pub part_of-requires-clause-most : goal.part_of-requires-clause-most
part_of-requires-clause-most c =
    let e = absorbs c.args.share c.args.albedo c.requires.share c.requires.albedo in
    let most = (absorbed_most c.args.share c.args.albedo c.requires.share c.requires.albedo).1 in
    subst (λ (x : ℤ). x ≤ℤ pos 4_611_686_018_427_387_903) (sym e) most

pub returns : goal.returns
returns c =
    let passed : to_z w64 (of_z w64 c.part_of.result) ≡ c.part_of.result = omega (arith, ints) in
    passed ∙ c.part_of.ensures.value ∙ absorbs c.args.share c.args.albedo c.requires.share c.requires.albedo
