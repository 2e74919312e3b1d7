use Rattle.std.proofs.Common.{◌≡◌, ◌∙◌, sym, subst, arith, pos, ◌≤ℤ◌, w64, ℤ, to_z, of_z}
use Rattle.std.proofs.lemmas.Int.{ints}
use Rattle.cpl_flux.specs.declared.parts.Flux.{Flux}
use Rattle.cpl_flux.specs.Elements.{IsBounded, element_between, heat_flux, evaporation}
use Rattle.cpl_flux.proofs.Nothing.{no_element}
use Rattle.cpl_flux.proofs.fluxes.element_between.Goals as goal

pub returns-then-b-eq0-clause-value : goal.returns-then-b-eq0-clause-value
returns-then-b-eq0-clause-value c =
    let b : pos 0 ≡ c.args.b = omega (arith, ints) in
    let P = λ (x : ℤ). ◌≡◌ {A = Flux} (record { heat = pos 0; water = pos 0 }) (element_between c.args.rates.now c.args.air.now c.args.weather c.args.part.now c.args.temperature x) in
    subst P b (sym (no_element c.args.rates.now c.args.air.now c.args.weather c.args.part.now c.args.temperature))

pub evaporation-requires-clause-some : goal.evaporation-requires-clause-some
evaporation-requires-clause-some c = omega (arith, ints)

pub returns-clause-value : goal.returns-clause-value
returns-clause-value c =
    let q : to_z w64 (of_z w64 c.heat_flux.result) ≡ c.heat_flux.result = omega (arith, ints) in
    let e : to_z w64 (of_z w64 c.evaporation.result) ≡ c.evaporation.result = omega (arith, ints) in
    let b : to_z w64 (of_z w64 c.args.b) ≡ c.args.b = omega (arith, ints) in
    let heat = q ∙ c.heat_flux.ensures.value ∙ (λ i. heat_flux c.args.rates.now c.args.air.now c.args.part.now (b i) c.args.weather.temperature c.args.temperature) in
    let water = e ∙ c.evaporation.ensures.value ∙ (λ i. pos (evaporation c.args.part.now.kind c.args.rates.now c.args.part.now (b i) c.args.weather.humidity c.args.temperature)) in
    λ i. record { heat = heat i; water = water i }

pub returns-clause-bounds : goal.returns-clause-bounds
returns-clause-bounds c =
    let q : to_z w64 (of_z w64 c.heat_flux.result) ≡ c.heat_flux.result = omega (arith, ints) in
    let e : to_z w64 (of_z w64 c.evaporation.result) ≡ c.evaporation.result = omega (arith, ints) in
    let b : to_z w64 (of_z w64 c.args.b) ≡ c.args.b = omega (arith, ints) in
    let from_air = simp b at c.heat_flux.ensures.from_air in
    let from_part = simp b at c.heat_flux.ensures.from_part in
    let vapour_heat = simp b at c.evaporation.ensures.heat in
    let water = simp b at c.evaporation.ensures.water in
    let P = λ (x y : ℤ). IsBounded c.args.air.now c.args.part.now c.args.b (record { heat = x; water = y }) in
    let upward : pos 0 ≤ℤ c.evaporation.result = omega (arith, ints, c.evaporation.ensures.value) in
    let bounds : P c.heat_flux.result c.evaporation.result =
    record { from_air = from_air; from_part = from_part; vapour_heat = vapour_heat; water = water; upward = upward; dry_ice = c.evaporation.ensures.ice } in
    subst (P (to_z w64 (of_z w64 c.heat_flux.result))) (sym e) (subst (λ (x : ℤ). P x c.evaporation.result) (sym q) bounds)
