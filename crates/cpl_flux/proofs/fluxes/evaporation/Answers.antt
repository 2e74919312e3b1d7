use Rattle.std.proofs.Common.{◌≡◌, ◌∙◌, sym, ap, subst, refl, arith, ◌/◌, pos, ℕ, ◌-◌, inl, inr, w64, ℤ, ◌*ℤ◌, to_z, of_z}
use Rattle.std.proofs.lemmas.Int.{ints}
use Rattle.cpl_fixed.specs.declared.limits.TheConstants.{VAPOUR_HEAT}
use Rattle.cpl_fixed.specs.declared.rates.Rates.{Rates}
use Rattle.cpl_flux.specs.declared.parts.Kind.{Kind}
use Rattle.cpl_flux.specs.declared.parts.Part.{Part}
use Rattle.cpl_flux.specs.declared.parts.Kind.TheVariants.{Land, Water, Ice}
use Rattle.cpl_flux.specs.Elements.{IsGiven, wet_evaporation, evaporation, saturation}
use Rattle.cpl_flux.proofs.Drives.{given_is}
use Rattle.cpl_flux.proofs.fluxes.evaporation.Goals as goal

-- ice gives nothing
no_water : (kind : Kind) (rates : Rates) (part : Part) (b : ℤ) (h t : ℕ) → kind ≡ Ice → pos 0 ≡ pos (evaporation kind rates part b h t)
no_water kind rates part b h t e =
    let P = λ (k : Kind). pos 0 ≡ pos (evaporation k rates part b h t) in
    subst P (sym e) refl

-- land and open water give what a wet part gives
land_water : (kind : Kind) (rates : Rates) (part : Part) (b : ℤ) (h t : ℕ) (r : ℤ) → kind ≡ Land → r ≡ pos (wet_evaporation rates part b (saturation t - h)) → r ≡ pos (evaporation kind rates part b h t)
land_water kind rates part b h t r e v =
    let P = λ (k : Kind). r ≡ pos (evaporation k rates part b h t) in
    subst P (sym e) v

open_water : (kind : Kind) (rates : Rates) (part : Part) (b : ℤ) (h t : ℕ) (r : ℤ) → kind ≡ Water → r ≡ pos (wet_evaporation rates part b (saturation t - h)) → r ≡ pos (evaporation kind rates part b h t)
open_water kind rates part b h t r e v =
    let P = λ (k : Kind). r ≡ pos (evaporation k rates part b h t) in
    subst P (sym e) v

not_land : (kind : Kind) → kind ≡ Land → kind ≡ Ice → ⊥
not_land kind e f = let g : Land ≡ Ice = sym e ∙ f in cc

not_water : (kind : Kind) → kind ≡ Water → kind ≡ Ice → ⊥
not_water kind e f = let g : Water ≡ Ice = sym e ∙ f in cc

pub returns-in-Ice-clause-value : goal.returns-in-Ice-clause-value
returns-in-Ice-clause-value c = no_water c.args.part.now.kind c.args.rates.now c.args.part.now c.args.b c.args.humidity c.args.temperature c.in-Ice.is

pub returns-in-Ice-clause-water : goal.returns-in-Ice-clause-water
returns-in-Ice-clause-water c =
    given_is c.args.part.now.mass c.args.part.now.area c.args.b 0 (omega (arith, ints)) (omega (arith, ints)) (omega (arith, ints)) (omega arith)

pub returns-in-Ice-clause-heat : goal.returns-in-Ice-clause-heat
returns-in-Ice-clause-heat c =
    given_is c.args.part.now.heat c.args.part.now.area c.args.b 0 (omega (arith, ints)) (omega (arith, ints)) (omega (arith, ints)) (omega arith)

pub returns-in-Land-clause-value : goal.returns-in-Land-clause-value
returns-in-Land-clause-value c =
    let own : to_z w64 (of_z w64 c.wet_evaporation.result) ≡ c.wet_evaporation.result = omega (arith, ints) in
    let b : to_z w64 (of_z w64 c.args.b) ≡ c.args.b = omega (arith, ints) in
    let d : c.saturating_sub.result ≡ saturation c.args.temperature - c.args.humidity =
    c.saturating_sub.ensures ∙ ap (λ n. n / 100 - c.args.humidity) c.saturating_sub-saturation.ensures in
    let wet : to_z w64 (of_z w64 c.wet_evaporation.result) ≡ pos (wet_evaporation c.args.rates.now c.args.part.now c.args.b (saturation c.args.temperature - c.args.humidity)) =
    own ∙ c.wet_evaporation.ensures.value ∙ (λ i. pos (wet_evaporation c.args.rates.now c.args.part.now (b i) (d i))) in
    elim c.in-Land.is [
      | inl e ↦ land_water c.args.part.now.kind c.args.rates.now c.args.part.now c.args.b c.args.humidity c.args.temperature _ e wet
      | inr e ↦ open_water c.args.part.now.kind c.args.rates.now c.args.part.now c.args.b c.args.humidity c.args.temperature _ e wet
    ]

pub returns-in-Land-clause-water : goal.returns-in-Land-clause-water
returns-in-Land-clause-water c =
    let own : c.wet_evaporation.result ≡ to_z w64 (of_z w64 c.wet_evaporation.result) = omega (arith, ints) in
    let b : to_z w64 (of_z w64 c.args.b) ≡ c.args.b = omega (arith, ints) in
    let h = simp b at c.wet_evaporation.ensures.water in
    subst (IsGiven c.args.part.now.mass c.args.part.now.area c.args.b) own h

pub returns-in-Land-clause-heat : goal.returns-in-Land-clause-heat
returns-in-Land-clause-heat c =
    let own : c.wet_evaporation.result ≡ to_z w64 (of_z w64 c.wet_evaporation.result) = omega (arith, ints) in
    let b : to_z w64 (of_z w64 c.args.b) ≡ c.args.b = omega (arith, ints) in
    let h = simp b at c.wet_evaporation.ensures.heat in
    let P = λ (x : ℤ). IsGiven c.args.part.now.heat c.args.part.now.area c.args.b (VAPOUR_HEAT *ℤ x) in
    subst P own h

pub returns-in-Land-clause-ice : goal.returns-in-Land-clause-ice
returns-in-Land-clause-ice c = λ ice. elim c.in-Land.is [ inl e ↦ absurd (not_land _ e ice) | inr e ↦ absurd (not_water _ e ice) ]
