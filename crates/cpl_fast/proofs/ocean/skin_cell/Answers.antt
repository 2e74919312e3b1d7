use Rattle.std.proofs.Common.{◌≡◌, ◌∙◌, sym, subst, ◌^◌, arith, to_z, of_z, w64}
use Rattle.std.specs.Prelude.{ℤ, ◌+ℤ◌}
use Rattle.std.proofs.lemmas.Int.{ints}
use Rattle.cpl_fixed.specs.Amounts.{IsAmount}
use Rattle.cpl_fast.specs.declared.sums.Sums.{Sums}
use Rattle.cpl_fast.specs.declared.sums.Taken.{Taken}
use Rattle.cpl_fast.specs.Sums.{AreSmall, IsSmall, after, taken, with_rain}
use Rattle.cpl_fast.proofs.Small.{passed, passed_small, wider}
use Rattle.cpl_fast.proofs.ocean.skin_cell.Goals as goal

-- the sun, as it was passed
sun_is : (sums : Sums) → AreSmall (2 ^ 20) sums → passed sums.sun ≡ sums.sun
sun_is sums small = passed_small sums.sun (wider (2 ^ 20) (2 ^ 60) sums.sun (omega arith) small.sun)

-- what the skin takes
takes : (sums : Sums) (t r : Taken) (rain : ℤ) → t ≡ taken sums → IsSmall (2 ^ 30) rain → r ≡ with_rain t (passed rain) → r ≡ with_rain (taken sums) rain
takes sums t r rain t_is small r_is =
    r_is ∙ (λ i. with_rain (t_is i) (passed_small rain (wider (2 ^ 30) (2 ^ 60) rain (omega arith) small) i))

pub gain-requires-clause-heat : goal.gain-requires-clause-heat
gain-requires-clause-heat c =
    let heat : to_z w64 (of_z w64 c.args.heat) ≡ c.args.heat = omega (arith, ints) in
    let t = takes c.args.sums.now c.taken_by.result c.with_rain.result c.args.rain c.taken_by.ensures.value c.requires.rain c.with_rain.ensures.value in
    let sun = sun_is c.args.sums.now c.requires.sums in
    subst IsAmount (sym (λ i. heat i +ℤ ((t i).heat +ℤ sun i))) c.requires.heat

pub gain-requires-clause-water : goal.gain-requires-clause-water
gain-requires-clause-water c =
    let water : to_z w64 (of_z w64 c.args.water) ≡ c.args.water = omega (arith, ints) in
    let t = takes c.args.sums.now c.taken_by.result c.with_rain.result c.args.rain c.taken_by.ensures.value c.requires.rain c.with_rain.ensures.value in
    subst IsAmount (sym (λ i. water i +ℤ (t i).water)) c.requires.water

pub returns-clause-value : goal.returns-clause-value
returns-clause-value c =
    let heat : to_z w64 (of_z w64 c.args.heat) ≡ c.args.heat = omega (arith, ints) in
    let water : to_z w64 (of_z w64 c.args.water) ≡ c.args.water = omega (arith, ints) in
    let t = takes c.args.sums.now c.taken_by.result c.with_rain.result c.args.rain c.taken_by.ensures.value c.requires.rain c.with_rain.ensures.value in
    let sun = sun_is c.args.sums.now c.requires.sums in
    c.gain.ensures ∙ (λ i. after (heat i) (water i) (t i) (sun i))
