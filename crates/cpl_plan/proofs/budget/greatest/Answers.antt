use Rattle.std.proofs.Common.{◌≡◌, ◌∙◌, sym, ap, arith, get_or, w64, to_z, of_z}
use Rattle.std.specs.Prelude.{ℤ, pos}
use Rattle.std.specs.Int.{int_max}
use Rattle.std.proofs.lemmas.Int.{ints, clamps}
use Rattle.cpl_plan.proofs.Totals.{greater, greatest_more}
use Rattle.cpl_plan.proofs.budget.greatest.Goals as goal

pub loop-number-preserved : goal.loop-number-preserved
loop-number-preserved c =
    let i = c.loop-number.number-index in
    let numbers = c.args.numbers.now in
    let number = c.requires i (pos 0) c.loop-number-test.true in
    let more = greatest_more numbers i c.loop-number-test.true number.0 in
    let is = c.loop-number.invariant in
    let read : to_z w64 (of_z w64 (get_or numbers i (pos 0))) ≡ get_or numbers i (pos 0) = omega (arith, ints, number.0, number.1) in
    let max = c.max-most.ensures ∙ greater (to_z w64 c.loop-number.most-bits) (to_z w64 (of_z w64 (get_or numbers i (pos 0)))) ∙ ap (int_max (to_z w64 c.loop-number.most-bits)) read in
    let own : to_z w64 (of_z w64 c.max-most.result) ≡ c.max-most.result = omega (arith, ints, clamps, max, is.range.0, is.range.1, number.0, number.1) in
    record {
      same = own ∙ max ∙ ap (λ (z : ℤ). int_max z (get_or numbers i (pos 0))) is.same ∙ sym more;
      range = (omega (arith, ints, clamps, own, max, is.range.0, number.0), omega (arith, ints, clamps, own, max, is.range.1, number.1));
    }
