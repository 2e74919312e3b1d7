use Rattle.std.proofs.Common.{◌≡◌, ◌∙◌, ap, arith, ◌*◌, ◌*ℤ◌, pos, ℕ, ℤ, to_z, w64}
use Rattle.std.proofs.lemmas.Int.{ints}
use Rattle.cpl_fixed.specs.Amounts.{amount}
use Rattle.cpl_ice.specs.declared.parts.Salty.{Salty}
use Rattle.cpl_transport.specs.Cuts.{frazil, frazil_of, skin_of}
use Rattle.cpl_transport.specs.Salts.{IsSalty, without}
use Rattle.cpl_transport.proofs.Bounds.{own_amount, read}
use Rattle.cpl_transport.proofs.Frazil.{frazil_amounts}
use Rattle.cpl_transport.proofs.cuts.cut.Goals as goal

-- the frazil of the numbers as they are read
frazil_is : (top : Salty) (f : ℕ) → IsSalty top → f ≡ frazil (amount (read top.water)) (amount (read top.heat)) → f ≡ frazil_of top
frazil_is top f h e = e ∙ (λ i. frazil (amount (own_amount top.water h.water i)) (amount (own_amount top.heat h.heat i)))

-- and as the machine writes it
water_is : (top : Salty) (f : ℕ) → IsSalty top → f ≡ frazil_of top → to_z w64 f ≡ pos (frazil_of top)
water_is top f h e =
    let is = (frazil_amounts top h).0 in
    let own : to_z w64 (frazil_of top) ≡ pos (frazil_of top) = omega (arith, ints, is.1) in
    ap (to_z w64) e ∙ own

heat_is : (top : Salty) (f : ℤ) → IsSalty top → f ≡ pos (frazil_of top) → read (pos 1_092 *ℤ f) ≡ pos (1_092 * frazil_of top)
heat_is top f h e = ap (λ (t : ℤ). read (pos 1_092 *ℤ t)) e ∙ own_amount (pos (1_092 * frazil_of top)) (frazil_amounts top h).1

pub unfrozen-rest-requires-clause-frazil : goal.unfrozen-rest-requires-clause-frazil
unfrozen-rest-requires-clause-frazil c =
    let top = c.args.top.now in
    water_is top c.frazil-frazil_water.result c.requires (frazil_is top c.frazil-frazil_water.result c.requires c.frazil-frazil_water.ensures.value)

pub unskinned-requires-clause-skin : goal.unskinned-requires-clause-skin
unskinned-requires-clause-skin c = c.skin-skin.ensures

pub returns-clause-value : goal.returns-clause-value
returns-clause-value c =
    let top = c.args.top.now in
    let water = water_is top c.frazil-frazil_water.result c.requires (frazil_is top c.frazil-frazil_water.result c.requires c.frazil-frazil_water.ensures.value) in
    let heat = heat_is top _ c.requires water in
    let skin = c.skin-skin.ensures ∙ ap skin_of c.unfrozen-rest.ensures.value in
    λ i. record { frazil_water = water i; frazil_heat = heat i; skin = skin i }

pub returns-clause-left : goal.returns-clause-left
returns-clause-left c = c.unskinned.ensures ∙ ap (λ (s : Salty). without s (skin_of s)) c.unfrozen-rest.ensures.value
