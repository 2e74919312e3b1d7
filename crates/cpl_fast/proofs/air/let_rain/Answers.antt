use Rattle.std.proofs.Common.{◌≡◌, ◌∙◌, arith, ◌^◌, to_z, of_z, w64, subst, sym}
use Rattle.std.specs.Prelude.{pos, ◌-ℤ◌, ◌+ℤ◌}
use Rattle.std.proofs.lemmas.Int.{ints}
use Rattle.cpl_fixed.specs.Shares.{part_of}
use Rattle.cpl_fast.specs.Air.{after_rain, rain_of}
use Rattle.cpl_fast.specs.Sums.{IsSmall}
use Rattle.cpl_fast.proofs.Parts.{amount_passed}
use Rattle.cpl_fast.proofs.Small.{passed_small, wider}
use Rattle.cpl_fast.proofs.air.let_rain.Goals as goal

pub gained-vapour-requires-clause-gain : goal.gained-vapour-requires-clause-gain
gained-vapour-requires-clause-gain c =
    let water = c.args.sums.now.water in
    let small = c.requires.small.water in
    subst (IsSmall (2 ^ 46)) (sym (passed_small water (wider (2 ^ 30) (2 ^ 60) water (omega arith) small))) (wider (2 ^ 30) (2 ^ 46) water (omega arith) small)

pub returns-clause-value : goal.returns-clause-value
returns-clause-value c =
    let rates = c.args.rates.now in
    let air = c.args.air.now in
    let sums = c.args.sums.now in
    let heat_amount = c.requires.air.heat in
    let vapour_amount = c.requires.air.vapour in
    let a = c.requires.air.area.0 in
    let b = c.requires.air.area.1 in
    let area : to_z w64 (of_z w64 air.area) ≡ air.area = omega (arith, ints) in
    let water = passed_small sums.water (wider (2 ^ 30) (2 ^ 60) sums.water (omega arith) c.requires.small.water) in
    let gone = amount_passed c.space_of-space.result c.space_of-space.ensures.range ∙ c.space_of-space.ensures.value ∙ (λ i. part_of (amount_passed air.heat heat_amount i) rates.ko (pos 1_048_576)) in
    let net = passed_small c.net_heat.result (wider (2 ^ 43) (2 ^ 60) c.net_heat.result (omega arith) c.net_heat.ensures.small) ∙ c.net_heat.ensures.value in
    let heat = amount_passed c.warmed-heat.result c.warmed-heat.ensures.range ∙ c.warmed-heat.ensures.value ∙ (λ i. amount_passed air.heat heat_amount i -ℤ net i -ℤ gone i) in
    let vapour = amount_passed c.gained-vapour.result c.gained-vapour.ensures.range ∙ c.gained-vapour.ensures.value ∙ (λ i. amount_passed air.vapour vapour_amount i +ℤ water i) in
    let wet = amount_passed c.rain_of-rain.result c.rain_of-rain.ensures.range ∙ c.rain_of-rain.ensures.value ∙ (λ i. rain_of rates (area i) (heat i) (vapour i)) in
    c.after_rain.ensures ∙ (λ i. after_rain (heat i) (vapour i) (wet i) (gone i))
