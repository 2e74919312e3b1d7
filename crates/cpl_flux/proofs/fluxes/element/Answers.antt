use Rattle.std.proofs.Common.{◌≡◌, ◌∙◌, w64, of_z, to_z, arith}
use Rattle.std.proofs.lemmas.Int.{ints}
use Rattle.cpl_flux.specs.Elements.{element_between}
use Rattle.cpl_flux.proofs.fluxes.element.Goals as goal

pub returns-clause-value : goal.returns-clause-value
returns-clause-value c =
    let b : to_z w64 (of_z w64 c.args.b) ≡ c.args.b = omega (arith, ints) in
    c.element_between.ensures.value
    ∙ (λ i. element_between c.args.rates.now c.args.air.now (c.weather.ensures i) c.args.part.now (c.part_temperature.ensures.value i) (b i))
