use Rattle.std.proofs.Common.{◌≡◌, ◌∙◌, sym, ap, ◌≤◌, arith, get_or, w64, to_z, of_z}
use Rattle.std.specs.Prelude.{pos, unsigned_abs}
use Rattle.std.proofs.lemmas.Int.{ints}
use Rattle.cpl_fixed.specs.Shares.{part_of}
use Rattle.cpl_plan.proofs.Totals.{pos_abs, sun_is, sun_most, total_map_more}
use Rattle.cpl_plan.proofs.budget.sun_of_strength.Goals as goal

pub loop-sun-preserved : goal.loop-sun-preserved
loop-sun-preserved c =
    let i = c.loop-sun.sun-index in
    let suns = c.args.suns.now in
    let sun = c.requires.suns.each i (pos 0) c.loop-sun-test.true in
    let is = c.loop-sun.invariant in
    let strength = to_z w64 (of_z w64 c.args.strength) in
    let n = c.from.result in
    let s = c.from-in-loop-sun.result in
    let read : to_z w64 (of_z w64 (get_or suns i (pos 0))) ≡ get_or suns i (pos 0) = omega (arith, ints, sun.0, sun.1) in
    let natural : get_or suns i (pos 0) ≡ pos n = sym (ap pos (c.from.ensures ∙ ap unsigned_abs read) ∙ pos_abs (get_or suns i (pos 0)) sun.0) in
    let whole : strength ≡ pos s = sym (ap pos c.from-in-loop-sun.ensures ∙ pos_abs strength (omega (arith, ints, c.requires.strength.0, c.requires.strength.1))) in
    let more = total_map_more (λ sun. part_of sun strength (pos 1000)) suns i (pos 0) c.loop-sun-test.true in
    let own = sun_is (get_or suns i (pos 0)) strength n s natural whole in
    let few : s ≤ 4000 = omega (arith, ints, whole, c.requires.strength.1, c.requires.strength.0) in
    let most = sun_most n s few in
    record {
      same = omega (arith, ints, more, own, is.same);
      small = omega (arith, ints, most, is.small, natural, sun.1);
    }
