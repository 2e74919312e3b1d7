use Rattle.std.proofs.Common.{◌≡◌, ◌∙◌, refl, sym, ap, rules, arith, ℕ, suc, ◌+◌, ◌-◌, ◌*◌, List, length, w64, to_z, of_z}
use Rattle.std.specs.Int.RustNames.{FitsSigned}
use Rattle.std.specs.Prelude.{ℤ}
use Rattle.std.proofs.lemmas.Int.{ints}
use Rattle.cpl_fixed.specs.Amounts.{at}
use Rattle.cpl_flux.specs.declared.parts.Kind.TheVariants as kind
use Rattle.cpl_fast.specs.declared.part_lists.PartLists.{PartLists}
use Rattle.cpl_fast.specs.PartLists.{part_by, part_in}
use Rattle.cpl_fast.specs.Places.{place_in}
use Rattle.cpl_fast.proofs.part_lists.PartLists.part.Goals as goal

-- a number that was read
number_read : (numbers : List ℤ) (n m : ℕ) → FitsSigned w64 (at numbers n) → n ≡ m → to_z w64 (of_z w64 (at numbers n)) ≡ at numbers m
number_read numbers n m fits same =
    let read : to_z w64 (of_z w64 (at numbers n)) ≡ at numbers n = omega (arith, ints, fits) in
    read ∙ ap (at numbers) same

-- a category of ice, by its place
ice_is : (lists : PartLists) (n k j : ℕ) (heat mass area : ℤ) → k ≡ suc j → heat ≡ at lists.ice_heat.now (n * lists.categories + j) → mass ≡ at lists.ice.now (n * lists.categories + j)
    → area ≡ at lists.area.now (place_in (length lists.heat.now) n (suc j)) → part_by kind.Ice heat mass area ≡ part_in lists n k
unfolding part_in
ice_is lists n k j heat mass area next heat_is mass_is area_is =
    (λ i. part_by kind.Ice (heat_is i) (mass_is i) (area_is i)) ∙ ap (part_in lists n) (sym next)

first_is : (lists : PartLists) (n k : ℕ) (heat mass area : ℤ) → k ≡ 0 → heat ≡ at lists.heat.now n → mass ≡ at lists.water.now n
    → area ≡ at lists.area.now (place_in (length lists.heat.now) n 0) → part_by lists.first heat mass area ≡ part_in lists n k
unfolding part_in
first_is lists n k heat mass area none heat_is mass_is area_is =
    (λ i. part_by lists.first (heat_is i) (mass_is i) (area_is i)) ∙ ap (part_in lists n) (sym none)

pub returns-then-k-eq0 : goal.returns-then-k-eq0
returns-then-k-eq0 c =
    let lists = c.args.self.now in
    let n = c.args.n in
    let none : c.args.k ≡ 0 = omega (arith, c.if-k-eq0.true) in
    let place : c.place_in.result ≡ place_in (length lists.heat.now) n 0 = c.place_in.ensures ∙ ap (place_in (length lists.heat.now) n) none in
    let heat : FitsSigned w64 (at lists.heat.now n) = search rules in
    let mass : FitsSigned w64 (at lists.water.now n) = search rules in
    let area : FitsSigned w64 (at lists.area.now c.place_in.result) = search rules in
    first_is lists n c.args.k _ _ _ none (number_read lists.heat.now n n heat refl) (number_read lists.water.now n n mass refl) (number_read lists.area.now c.place_in.result _ area place)

pub returns : goal.returns
returns c =
    let lists = c.args.self.now in
    let n = c.args.n in
    let j = c.args.k - 1 in
    let next : c.args.k ≡ suc j = omega (arith, c.if-k-eq0.false) in
    let place : c.place_in.result ≡ place_in (length lists.heat.now) n (suc j) = c.place_in.ensures ∙ ap (place_in (length lists.heat.now) n) next in
    let from : n * lists.categories + c.args.k - 1 ≡ n * lists.categories + j = omega (arith, next) in
    let heat : FitsSigned w64 (at lists.ice_heat.now (n * lists.categories + c.args.k - 1)) = search rules in
    let mass : FitsSigned w64 (at lists.ice.now (n * lists.categories + c.args.k - 1)) = search rules in
    let area : FitsSigned w64 (at lists.area.now c.place_in.result) = search rules in
    ice_is lists n c.args.k j _ _ _ next (number_read lists.ice_heat.now _ _ heat from) (number_read lists.ice.now _ _ mass from) (number_read lists.area.now c.place_in.result _ area place)
