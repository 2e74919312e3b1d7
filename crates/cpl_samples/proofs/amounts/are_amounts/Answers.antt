use Rattle.std.proofs.Common.{◌∙◌, ap, get_or, pos, rules, arith, to_z, of_z, w64}
use mir.Val.{SFits}
use Rattle.std.specs.Prelude.{◌≤ℤ◌, ◌-ℤ◌}
use Rattle.std.proofs.lemmas.Int.{ints}
use Rattle.std.proofs.lemmas.List.{take_all}
use Rattle.cpl_state.specs.Diffusion.{total_of}
use Rattle.cpl_samples.proofs.Lists.{each_more, not_below, total_more}
use Rattle.cpl_samples.proofs.amounts.are_amounts.Goals as goal

pub loop-x-preserved : goal.loop-x-preserved
loop-x-preserved c =
    let x = get_or c.args.amounts.now c.loop-x.x-index (pos 0) in
    let fits : SFits w64 x = search rules in
    let low : pos 0 ≤ℤ x = grind (arith, ints) in
    let room = not_below (to_z w64 (of_z w64 (pos 4611686018427387903 -ℤ to_z w64 c.loop-x.total-bits))) (to_z w64 (of_z w64 x)) c.if-x-total.false in
    let more = total_more c.args.amounts.now c.loop-x.x-index c.loop-x-test.true in
    record {
      low = omega (arith, ints);
      high = omega (arith, ints);
      total = omega (arith, ints);
      each = each_more (λ x. pos 0 ≤ℤ x) c.args.amounts.now c.loop-x.x-index c.loop-x-test.true c.loop-x.invariant.each low;
    }

pub returns : goal.returns
returns c =
    let whole = take_all c.loop-x.x-index c.args.amounts.now c.loop-x-test.false in
    let total = c.loop-x.invariant.total ∙ ap total_of whole in
    record {
      count = search rules;
      each = λ k d l. c.loop-x.invariant.each k d (omega arith);
      total = omega (arith, ints);
    }
