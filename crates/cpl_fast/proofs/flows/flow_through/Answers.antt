use Rattle.std.proofs.Common.{◌≡◌, ◌∙◌, arith, to_z, of_z, w64}
use Rattle.std.specs.Prelude.{pos}
use Rattle.std.proofs.lemmas.Int.{ints}
use Rattle.cpl_flux.specs.Elements.{element_between}
use Rattle.cpl_fast.proofs.flows.flow_through.Goals as goal

pub returns : goal.returns
returns c =
    let b : to_z w64 (of_z w64 c.args.b) ≡ c.args.b = omega (arith, ints) in
    let sun : to_z w64 (of_z w64 c.args.sun) ≡ c.args.sun = omega (arith, ints) in
    let sky = c.args.sky.now in
    let part = c.args.part.now in
    let flux = c.element_between-flux.ensures.value ∙ (λ i. element_between c.args.rates.now sky.air sky.weather part (c.part_temperature-temperature.ensures.value i) (b i)) in
    let heat_passed : to_z w64 (of_z w64 c.element_between-flux.result.heat) ≡ c.element_between-flux.result.heat = omega (arith, ints) in
    let water_passed : to_z w64 (of_z w64 c.element_between-flux.result.water) ≡ c.element_between-flux.result.water = omega (arith, ints) in
    λ i. record { heat = (heat_passed ∙ (λ j. (flux j).heat)) i; water = (water_passed ∙ (λ j. (flux j).water)) i; sun = sun i; rain = pos 0 }
