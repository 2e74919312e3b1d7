-- Nothing flows through an area of 0.
use Rattle.std.proofs.Common.{◌≡◌, ◌∙◌, sym, ap, arith, refl, ◌*◌, ◌/◌, ◌-◌, pos, neg_ℤ, ℕ, ◌-ℤ◌, ◌*ℤ◌}
use Rattle.std.proofs.Math.Nat.{zero-div}
use Rattle.std.proofs.Math.IntN.{zero-*ℤ}
use Rattle.cpl_fixed.specs.Division.{clamp, trunc}
use Rattle.cpl_fixed.specs.declared.rates.Rates.{Rates}
use Rattle.cpl_flux.specs.declared.parts.AirSide.{AirSide}
use Rattle.cpl_flux.specs.declared.parts.Kind.{Kind}
use Rattle.cpl_flux.specs.declared.parts.Kind.TheVariants.{Land, Water, Ice}
use Rattle.cpl_flux.specs.declared.parts.Part.{Part}
use Rattle.cpl_flux.specs.declared.parts.Weather.{Weather}
use Rattle.cpl_flux.specs.Elements.{eighth, raw_heat, element_between, heat_flux, wet_evaporation, evaporation, saturation}
use Rattle.cpl_flux.specs.Temperatures.{amount}

no_part : (there whole : ℕ) → eighth there 0 whole ≡ 0
no_part there whole =
    let e : there * 0 ≡ 0 = omega arith in
    ap (λ n. n / (8 * whole)) e ∙ zero-div (8 * whole)

no_raw : (kh air part : ℕ) → raw_heat kh 0 air part ≡ pos 0
no_raw kh air part =
    let e : kh * 0 ≡ 0 = omega arith in
    let f : pos (kh * 0) *ℤ (pos air -ℤ pos part) ≡ pos 0 = ap (λ n. pos n *ℤ (pos air -ℤ pos part)) e ∙ zero-*ℤ (pos air -ℤ pos part) in
    ap (λ x. trunc x (pos 1_048_576)) f

no_heat : (rates : Rates) (air : AirSide) (part : Part) (t s : ℕ) → pos 0 ≡ heat_flux rates air part (pos 0) t s
no_heat rates air part t s =
    let e = no_part (amount part.heat) (amount part.area) in
    let f = no_part (amount air.heat) (amount air.area) in
    let g = no_raw (amount rates.kh) t s in
    sym (λ i. clamp (g i) (neg_ℤ (pos (e i))) (pos (f i)))

no_wet : (rates : Rates) (part : Part) (d : ℕ) → 0 ≡ wet_evaporation rates part (pos 0) d
no_wet rates part d =
    let e : amount rates.ke * 0 * d ≡ 0 = omega arith in
    let f : amount rates.ke * 0 * d / 1_048_576 ≡ 0 = ap (λ n. n / 1_048_576) e ∙ zero-div 1_048_576 in
    omega (arith, f)

no_water : (kind : Kind) (rates : Rates) (part : Part) (h t : ℕ) → pos 0 ≡ pos (evaporation kind rates part (pos 0) h t)
no_water Ice rates part h t = refl
no_water Land rates part h t = ap pos (no_wet rates part (saturation t - h))
no_water Water rates part h t = ap pos (no_wet rates part (saturation t - h))

-- what flows through an element of the area 0
pub no_element : (rates : Rates) (air : AirSide) (weather : Weather) (part : Part) (temperature : ℕ) → element_between rates air weather part temperature (pos 0) ≡ record { heat = pos 0; water = pos 0 }
no_element rates air weather part temperature =
    let heat = no_heat rates air part weather.temperature temperature in
    let water = no_water part.kind rates part weather.humidity temperature in
    sym (λ i. record { heat = heat i; water = water i })
