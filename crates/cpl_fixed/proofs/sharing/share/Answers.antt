use Rattle.std.proofs.Common.{◌≡◌, sym, ◌∙◌, ap, arith, to_z, of_z, w64}
use Rattle.std.specs.Prelude.{ℤ, pos}
use Rattle.std.specs.Int.RustNames.{unsigned_abs}
use Rattle.std.proofs.lemmas.Int.{ints}
use Rattle.cpl_fixed.proofs.Parts.{share_natural}
use Rattle.cpl_fixed.proofs.sharing.share.Goals as goal

pub returns-clause-value : goal.returns-clause-value
returns-clause-value c =
    let passed = λ (z : ℤ). unsigned_abs (to_z w64 (of_z w64 z)) in
    let small : to_z w64 c.part_between.result ≡ pos c.part_between.result = omega (arith, ints, c.part_between.ensures.most) in
    small
    ∙ ap pos c.part_between.ensures.value
    ∙ sym (share_natural c.args.amount c.args.from c.args.to c.args.whole (passed c.args.amount) (passed c.args.from) (passed c.args.to) (passed c.args.whole) (omega (arith, ints)) (omega (arith, ints)) (omega (arith, ints)) (omega (arith, ints)) (omega (arith, ints)) (omega (arith, ints)))
