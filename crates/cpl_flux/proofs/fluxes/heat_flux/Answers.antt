use Rattle.std.proofs.Common.{◌≡◌, ◌∙◌, sym, ap, subst, arith, pos, neg_ℤ, ℤ, min, ◌*◌, ◌/◌, ◌-◌, ◌-ℤ◌, w64, to_z, of_z}
use Rattle.std.specs.Prelude.{unsigned_abs}
use Rattle.std.proofs.lemmas.Int.{ints}
use Rattle.cpl_flux.specs.Elements.{IsGiven, eighth}
use Rattle.cpl_flux.proofs.Drives.{bounded_down, bounded_up, given_is, taken_is}
use Rattle.cpl_flux.proofs.fluxes.heat_flux.Goals as goal

pub returns-then-above-below-clause-value : goal.returns-then-above-below-clause-value
returns-then-above-below-clause-value c =
    let own : to_z w64 c.given.result ≡ pos c.given.result = omega (arith, ints, c.given.ensures.most) in
    let kh : to_z w64 (of_z w64 c.args.rates.now.kh) ≡ c.args.rates.now.kh = omega (arith, ints) in
    let b : to_z w64 (of_z w64 c.args.b) ≡ c.args.b = omega (arith, ints) in
    let heat : to_z w64 (of_z w64 c.args.air.now.heat) ≡ c.args.air.now.heat = omega (arith, ints) in
    let area : to_z w64 (of_z w64 c.args.air.now.area) ≡ c.args.air.now.area = omega (arith, ints) in
    own
    ∙ ap pos c.given.ensures.value
    ∙ (λ i. pos (min (unsigned_abs (kh i) * unsigned_abs (b i) * (c.args.above - c.args.below) / 1_048_576) (eighth (unsigned_abs (heat i)) (unsigned_abs (b i)) (unsigned_abs (area i)))))
    ∙ sym (bounded_down (unsigned_abs c.args.rates.now.kh) (unsigned_abs c.args.b) c.args.above c.args.below (eighth (unsigned_abs c.args.part.now.heat) (unsigned_abs c.args.b) (unsigned_abs c.args.part.now.area)) (eighth (unsigned_abs c.args.air.now.heat) (unsigned_abs c.args.b) (unsigned_abs c.args.air.now.area)) c.if-above-below.true)

pub returns-then-above-below-clause-from_air : goal.returns-then-above-below-clause-from_air
returns-then-above-below-clause-from_air c =
    let own : to_z w64 c.given.result ≡ pos c.given.result = omega (arith, ints, c.given.ensures.most) in
    let b : to_z w64 (of_z w64 c.args.b) ≡ c.args.b = omega (arith, ints) in
    let heat : to_z w64 (of_z w64 c.args.air.now.heat) ≡ c.args.air.now.heat = omega (arith, ints) in
    let area : to_z w64 (of_z w64 c.args.air.now.area) ≡ c.args.air.now.area = omega (arith, ints) in
    let share = simp (b, heat, area) at c.given.ensures.share in
    subst (IsGiven c.args.air.now.heat c.args.air.now.area c.args.b) (sym own)
    (given_is c.args.air.now.heat c.args.air.now.area c.args.b c.given.result (omega (arith, ints)) (omega (arith, ints)) (omega (arith, ints)) share)

pub returns-then-above-below-clause-from_part : goal.returns-then-above-below-clause-from_part
returns-then-above-below-clause-from_part c =
    let own : to_z w64 c.given.result ≡ pos c.given.result = omega (arith, ints, c.given.ensures.most) in
    let P = λ (x : ℤ). IsGiven c.args.part.now.heat c.args.part.now.area c.args.b (neg_ℤ x) in
    subst P (sym own)
    (taken_is c.args.part.now.heat c.args.part.now.area c.args.b c.given.result (omega (arith, ints)) (omega (arith, ints)) (omega (arith, ints)))

pub returns-else-above-below-clause-value : goal.returns-else-above-below-clause-value
returns-else-above-below-clause-value c =
    let own : to_z w64 (of_z w64 (pos 0 -ℤ to_z w64 c.given-else-above-below.result)) ≡ neg_ℤ (pos c.given-else-above-below.result) = omega (arith, ints, c.given-else-above-below.ensures.most) in
    let kh : to_z w64 (of_z w64 c.args.rates.now.kh) ≡ c.args.rates.now.kh = omega (arith, ints) in
    let b : to_z w64 (of_z w64 c.args.b) ≡ c.args.b = omega (arith, ints) in
    let heat : to_z w64 (of_z w64 c.args.part.now.heat) ≡ c.args.part.now.heat = omega (arith, ints) in
    let area : to_z w64 (of_z w64 c.args.part.now.area) ≡ c.args.part.now.area = omega (arith, ints) in
    own
    ∙ ap (λ n. neg_ℤ (pos n)) c.given-else-above-below.ensures.value
    ∙ (λ i. neg_ℤ (pos (min (unsigned_abs (kh i) * unsigned_abs (b i) * (c.args.below - c.args.above) / 1_048_576) (eighth (unsigned_abs (heat i)) (unsigned_abs (b i)) (unsigned_abs (area i))))))
    ∙ sym (bounded_up (unsigned_abs c.args.rates.now.kh) (unsigned_abs c.args.b) c.args.above c.args.below (eighth (unsigned_abs c.args.part.now.heat) (unsigned_abs c.args.b) (unsigned_abs c.args.part.now.area)) (eighth (unsigned_abs c.args.air.now.heat) (unsigned_abs c.args.b) (unsigned_abs c.args.air.now.area)) c.if-above-below.false)

pub returns-else-above-below-clause-from_air : goal.returns-else-above-below-clause-from_air
returns-else-above-below-clause-from_air c =
    let own : to_z w64 (of_z w64 (pos 0 -ℤ to_z w64 c.given-else-above-below.result)) ≡ neg_ℤ (pos c.given-else-above-below.result) = omega (arith, ints, c.given-else-above-below.ensures.most) in
    subst (IsGiven c.args.air.now.heat c.args.air.now.area c.args.b) (sym own)
    (taken_is c.args.air.now.heat c.args.air.now.area c.args.b c.given-else-above-below.result (omega (arith, ints)) (omega (arith, ints)) (omega (arith, ints)))

pub returns-else-above-below-clause-from_part : goal.returns-else-above-below-clause-from_part
returns-else-above-below-clause-from_part c =
    let own : neg_ℤ (to_z w64 (of_z w64 (pos 0 -ℤ to_z w64 c.given-else-above-below.result))) ≡ pos c.given-else-above-below.result = omega (arith, ints, c.given-else-above-below.ensures.most) in
    let b : to_z w64 (of_z w64 c.args.b) ≡ c.args.b = omega (arith, ints) in
    let heat : to_z w64 (of_z w64 c.args.part.now.heat) ≡ c.args.part.now.heat = omega (arith, ints) in
    let area : to_z w64 (of_z w64 c.args.part.now.area) ≡ c.args.part.now.area = omega (arith, ints) in
    let share = simp (b, heat, area) at c.given-else-above-below.ensures.share in
    subst (IsGiven c.args.part.now.heat c.args.part.now.area c.args.b) (sym own)
    (given_is c.args.part.now.heat c.args.part.now.area c.args.b c.given-else-above-below.result (omega (arith, ints)) (omega (arith, ints)) (omega (arith, ints)) share)
