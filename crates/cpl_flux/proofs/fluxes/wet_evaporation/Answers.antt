use Rattle.std.proofs.Common.{◌≡◌, ◌∙◌, sym, ap, subst, arith, pos, ℤ, ℕ, min, ◌*◌, ◌/◌, ◌≤◌, w64, to_z, of_z}
use Rattle.std.proofs.Math.Nat.{mul-le-mul_left}
use Rattle.std.specs.Prelude.{unsigned_abs, ◌*ℤ◌}
use Rattle.cpl_fixed.specs.declared.limits.TheConstants.{VAPOUR_HEAT}
use Rattle.std.proofs.lemmas.Int.{ints}
use Rattle.cpl_flux.specs.Elements.{IsGiven, eighth}
use Rattle.cpl_flux.proofs.Drives.{given_is}
use Rattle.cpl_flux.proofs.fluxes.wet_evaporation.Goals as goal

pub returns-clause-value : goal.returns-clause-value
returns-clause-value c =
    let own : to_z w64 c.at_most_share.result ≡ pos c.at_most_share.result = omega (arith, ints, c.given-wet.ensures.most, c.at_most_share.ensures.most) in
    let ke : to_z w64 (of_z w64 c.args.rates.now.ke) ≡ c.args.rates.now.ke = omega (arith, ints) in
    let b : to_z w64 (of_z w64 c.args.b) ≡ c.args.b = omega (arith, ints) in
    let heat : to_z w64 (of_z w64 c.args.part.now.heat) ≡ c.args.part.now.heat = omega (arith, ints) in
    let mass : to_z w64 (of_z w64 c.args.part.now.mass) ≡ c.args.part.now.mass = omega (arith, ints) in
    let area : to_z w64 (of_z w64 c.args.part.now.area) ≡ c.args.part.now.area = omega (arith, ints) in
    own
    ∙ ap pos (c.at_most_share.ensures.value ∙ ap (λ n. min n (unsigned_abs (to_z w64 (of_z w64 c.args.part.now.heat)) * unsigned_abs (to_z w64 (of_z w64 c.args.b)) / (8 * (3926 * unsigned_abs (to_z w64 (of_z w64 c.args.part.now.area)))))) c.given-wet.ensures.value)
    ∙ (λ i. pos (min (min (unsigned_abs (ke i) * unsigned_abs (b i) * c.args.dryness / 1_048_576) (eighth (unsigned_abs (mass i)) (unsigned_abs (b i)) (unsigned_abs (area i)))) (eighth (unsigned_abs (heat i)) (unsigned_abs (b i)) (3926 * unsigned_abs (area i)))))

less : (whole r wet most : ℕ) → r ≤ wet → 8 * whole * wet ≤ most → 8 * whole * r ≤ most
less whole r wet most le h = omega (arith, h, mul-le-mul_left (8 * whole) le)

pub returns-clause-water : goal.returns-clause-water
returns-clause-water c =
    let own : to_z w64 c.at_most_share.result ≡ pos c.at_most_share.result = omega (arith, ints, c.given-wet.ensures.most, c.at_most_share.ensures.most) in
    let b : to_z w64 (of_z w64 c.args.b) ≡ c.args.b = omega (arith, ints) in
    let mass : to_z w64 (of_z w64 c.args.part.now.mass) ≡ c.args.part.now.mass = omega (arith, ints) in
    let area : to_z w64 (of_z w64 c.args.part.now.area) ≡ c.args.part.now.area = omega (arith, ints) in
    let share = simp (b, mass, area) at c.given-wet.ensures.share in
    subst (IsGiven c.args.part.now.mass c.args.part.now.area c.args.b) (sym own)
    (given_is c.args.part.now.mass c.args.part.now.area c.args.b c.at_most_share.result (omega (arith, ints)) (omega (arith, ints)) (omega (arith, ints))
    (less (unsigned_abs c.args.part.now.area) c.at_most_share.result c.given-wet.result (unsigned_abs c.args.part.now.mass * unsigned_abs c.args.b) c.at_most_share.ensures.most share))

pub returns-clause-heat : goal.returns-clause-heat
returns-clause-heat c =
    let own : to_z w64 c.at_most_share.result ≡ pos c.at_most_share.result = omega (arith, ints, c.given-wet.ensures.most, c.at_most_share.ensures.most) in
    let b : to_z w64 (of_z w64 c.args.b) ≡ c.args.b = omega (arith, ints) in
    let heat : to_z w64 (of_z w64 c.args.part.now.heat) ≡ c.args.part.now.heat = omega (arith, ints) in
    let area : to_z w64 (of_z w64 c.args.part.now.area) ≡ c.args.part.now.area = omega (arith, ints) in
    let share = simp (b, heat, area) at c.at_most_share.ensures.share in
    let P = λ (x : ℤ). IsGiven c.args.part.now.heat c.args.part.now.area c.args.b (VAPOUR_HEAT *ℤ x) in
    subst P (sym own)
    (given_is c.args.part.now.heat c.args.part.now.area c.args.b (3926 * c.at_most_share.result) (omega (arith, ints)) (omega (arith, ints)) (omega (arith, ints))
    (omega (arith, share)))
