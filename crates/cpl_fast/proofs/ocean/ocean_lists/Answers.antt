use Rattle.std.proofs.Common.{◌≡◌, ◌∙◌, refl, sym, ap, ℕ, ◌+◌, ◌*◌, ◌<◌, ◌^◌, arith, length, rules, subst, to_z, of_z, w64, List}
use Rattle.std.specs.Prelude.{ℤ, pos, ◌+ℤ◌}
use Rattle.std.proofs.lemmas.Int.{ints}
use Rattle.cpl_fixed.specs.Amounts.{IsAmount, at}
use Rattle.cpl_mosaic.specs.Contacts.{cells_of}
use Rattle.cpl_xgrid.specs.Lists.{XGridLists}
use Rattle.cpl_xgrid.specs.Rows.{rows_of}
use Rattle.cpl_xgrid.specs.declared.parts.Surface.TheVariants.{Ocean}
use Rattle.cpl_xgrid.specs.declared.parts.XRef.{XRef}
use Rattle.cpl_fast.specs.declared.flows.Flow.{Flow}
use Rattle.cpl_fast.specs.declared.ocean.IceTaken.{IceTaken}
use Rattle.cpl_fast.specs.declared.sums.After.{After}
use Rattle.cpl_fast.specs.declared.sums.Sums.{Sums}
use Rattle.cpl_fast.specs.declared.sums.Taken.{Taken}
use Rattle.cpl_fast.specs.Places.{place_in}
use Rattle.cpl_fast.specs.Surfaces.{category_gain, ice_of, ocean_at, ocean_sums, refs_on, skin_at, skin_of}
use Rattle.cpl_fast.specs.Sums.{IsSmall, IsSmallTaken, after, both_taken, sums_in, taken, with_rain}
use Rattle.cpl_fast.proofs.Made.{one_more}
use Rattle.cpl_fast.proofs.Places.{ahead_stay, rows_more, written}
use Rattle.cpl_fast.proofs.Small.{passed, passed_small, taken_smaller, wider}
use Rattle.cpl_fast.proofs.ocean.ocean_lists.Goals as goal

-- what a cell's ice takes, as water with heat
of_ice : (ice other : IceTaken) → ice ≡ other → IsSmall (2 ^ 23) ice.heat → passed ice.heat ≡ other.heat
of_ice ice other is small = passed_small ice.heat (wider (2 ^ 23) (2 ^ 60) ice.heat (omega arith) small) ∙ ap (λ (i : IceTaken). i.heat) is

ice_small : (ice : IceTaken) → IsSmall (2 ^ 23) ice.heat → IsSmallTaken (2 ^ 44) (record { heat = passed ice.heat; water = pos 0 })
ice_small ice small =
    let own = passed_small ice.heat (wider (2 ^ 23) (2 ^ 60) ice.heat (omega arith) small) in
    record { heat = wider (2 ^ 23) (2 ^ 44) (passed ice.heat) (omega arith) (subst (IsSmall (2 ^ 23)) (sym own) small); water = (omega (arith, ints), omega (arith, ints)) }

-- the sums of open water, over the exchange cells of its cell
open_is : (xgrid : XGridLists) (flows : List Flow) (n : ℕ) (refs : List XRef) (sums : Sums) → refs ≡ refs_on xgrid Ocean n → sums ≡ sums_in flows (length (rows_of xgrid Ocean)) 0 refs
    → sums ≡ ocean_sums xgrid flows n 0
unfolding ocean_sums
open_is xgrid flows n refs sums e is = is ∙ ap (λ (r : List XRef). sums_in flows (length (rows_of xgrid Ocean)) 0 r) e

-- the skin, by what was read and summed
skin_is : (xgrid : XGridLists) (flows : List Flow) (categories n : ℕ) (refs : List XRef) (bare : Sums) (ice : IceTaken) (heat water h w : ℤ)
    → refs ≡ refs_on xgrid Ocean n → bare ≡ sums_in flows (length (rows_of xgrid Ocean)) 0 refs → ice ≡ ice_of xgrid flows categories n → IsSmall (2 ^ 23) ice.rain → heat ≡ h → water ≡ w
    → after heat water (with_rain (taken bare) (passed ice.rain)) bare.sun ≡ skin_at xgrid flows categories h w n
unfolding skin_at
skin_is xgrid flows categories n refs bare ice heat water h w here sums_are ice_is small heat_is water_is =
    let is = open_is xgrid flows n refs bare here sums_are in
    let wet = passed_small ice.rain (wider (2 ^ 23) (2 ^ 60) ice.rain (omega arith) small) ∙ ap (λ (i : IceTaken). i.rain) ice_is in
    λ i. after (heat_is i) (water_is i) (with_rain (taken (is i)) (wet i)) (is i).sun

pub open_sums-sums-requires-clause-still : goal.open_sums-sums-requires-clause-still
open_sums-sums-requires-clause-still c e =
    let n = c.loop-n.n in
    let xgrid = c.args.xgrid.now in
    let flows = c.args.flows.now in
    let area = c.args.parts.now.area.now in
    let refs = c.cells_of_ocean-refs.result.now in
    let first : place_in (cells_of xgrid.ocean) n 0 ≡ n = omega arith in
    let empty : at area n ≡ pos 0 = omega (arith, ints, e) in
    let still = c.requires.still n (omega arith) 0 (omega arith) (ap (at area) first ∙ empty) in
    open_is xgrid flows n refs (sums_in flows (length (rows_of xgrid Ocean)) 0 refs) c.cells_of_ocean-refs.ensures refl ∙ still

pub skin_cell-skin-requires : goal.skin_cell-skin-requires
skin_cell-skin-requires c =
    let n = c.loop-n.n in
    let inv = c.loop-n.invariant in
    let can = c.requires.skins n (omega arith) in
    let heat_read : to_z w64 (of_z w64 (at c.loop-n.heat n)) ≡ at c.loop-n.heat n = omega (arith, ints) in
    let water_read : to_z w64 (of_z w64 (at c.loop-n.water n)) ≡ at c.loop-n.water n = omega (arith, ints) in
    let is = skin_is c.args.xgrid.now c.args.flows.now c.args.parts.now.categories n c.cells_of_ocean-refs.result.now c.open_sums-sums.result c.category_lists-ice.result _ _ _ _
    c.cells_of_ocean-refs.ensures c.open_sums-sums.ensures.value c.category_lists-ice.ensures.value c.category_lists-ice.ensures.rain (heat_read ∙ inv.heat_ahead n (omega arith)) (water_read ∙ inv.water_ahead n (omega arith)) in
    record {
      sums = c.open_sums-sums.ensures.small;
      rain = search rules;
      heat = subst IsAmount (sym (ap (λ (a : After). a.heat) is)) can.heat_range;
      water = subst IsAmount (sym (ap (λ (a : After). a.water) is)) can.water_range;
    }

-- what a cell takes, its skin first and then its ice
takes_all : (xgrid : XGridLists) (flows : List Flow) (categories n : ℕ) (heat water : ℤ) (all : Taken) (skin : After) (with_skin with_ice : Taken) (h : ℤ)
    → skin ≡ skin_at xgrid flows categories heat water n → with_skin ≡ both_taken all skin.taken → with_ice ≡ both_taken with_skin (record { heat = h; water = pos 0 })
    → h ≡ (ice_of xgrid flows categories n).heat → with_ice ≡ both_taken all (ocean_at xgrid flows categories n)
unfolding ocean_at skin_at
takes_all xgrid flows categories n heat water all skin with_skin with_ice h is first second ice =
    let t = ap (λ (a : After). a.taken) is in
    let split : both_taken (both_taken all (skin_of xgrid flows categories n)) (record { heat = (ice_of xgrid flows categories n).heat; water = pos 0 })
    ≡ both_taken all (record { heat = (skin_of xgrid flows categories n).heat +ℤ (ice_of xgrid flows categories n).heat; water = (skin_of xgrid flows categories n).water +ℤ pos 0 }) =
    (let a : all.heat +ℤ (skin_of xgrid flows categories n).heat +ℤ (ice_of xgrid flows categories n).heat ≡ all.heat +ℤ ((skin_of xgrid flows categories n).heat +ℤ (ice_of xgrid flows categories n).heat) = omega (arith, ints) in
    let b : all.water +ℤ (skin_of xgrid flows categories n).water +ℤ pos 0 ≡ all.water +ℤ ((skin_of xgrid flows categories n).water +ℤ pos 0) = omega (arith, ints) in
    λ i. record { heat = a i; water = b i }) in
    second ∙ (λ i. both_taken ((first ∙ ap (both_taken all) t) i) (record { heat = ice i; water = pos 0 })) ∙ split

pub add-requires-clause-small : goal.add-requires-clause-small
add-requires-clause-small c = taken_smaller (c.loop-n.n * 2 ^ 45) (2 ^ 63) c.loop-n.all (omega arith) c.loop-n.invariant.small

pub add-requires-in-loop-n-clause-small : goal.add-requires-in-loop-n-clause-small
add-requires-in-loop-n-clause-small c =
    taken_smaller (c.loop-n.n * 2 ^ 45 + 2 ^ 44) (2 ^ 63) c.add.new.self (omega arith) (c.add.ensures.small (c.loop-n.n * 2 ^ 45) (2 ^ 44) c.loop-n.invariant.small c.skin_cell-skin.ensures.small)

pub add-requires-in-loop-n-clause-other : goal.add-requires-in-loop-n-clause-other
add-requires-in-loop-n-clause-other c = taken_smaller (2 ^ 44) (2 ^ 46) _ (omega arith) (ice_small c.category_lists-ice.result c.category_lists-ice.ensures.taken)

pub loop-n-preserved : goal.loop-n-preserved
loop-n-preserved c =
    let n = c.loop-n.n in
    let xgrid = c.args.xgrid.now in
    let flows = c.args.flows.now in
    let categories = c.args.parts.now.categories in
    let inv = c.loop-n.invariant in
    let skin = c.skin_cell-skin.result in
    let ice = c.category_lists-ice.result in
    let f : ℕ → After = λ k. skin_at xgrid flows categories (at c.args.heat.now k) (at c.args.water.now k) k in
    let heat_read : to_z w64 (of_z w64 (at c.loop-n.heat n)) ≡ at c.loop-n.heat n = omega (arith, ints) in
    let water_read : to_z w64 (of_z w64 (at c.loop-n.water n)) ≡ at c.loop-n.water n = omega (arith, ints) in
    let is = c.skin_cell-skin.ensures.value ∙ skin_is xgrid flows categories n c.cells_of_ocean-refs.result.now c.open_sums-sums.result ice _ _ (at c.args.heat.now n) (at c.args.water.now n)
    c.cells_of_ocean-refs.ensures c.open_sums-sums.ensures.value c.category_lists-ice.ensures.value c.category_lists-ice.ensures.rain (heat_read ∙ inv.heat_ahead n (omega arith)) (water_read ∙ inv.water_ahead n (omega arith)) in
    let heat_passed : to_z w64 (of_z w64 skin.heat) ≡ skin.heat = omega (arith, ints) in
    let water_passed : to_z w64 (of_z w64 skin.water) ≡ skin.water = omega (arith, ints) in
    let ice_heat = of_ice ice (ice_of xgrid flows categories n) c.category_lists-ice.ensures.value c.category_lists-ice.ensures.taken in
    let here = takes_all xgrid flows categories n (at c.args.heat.now n) (at c.args.water.now n) c.loop-n.all skin c.add.new.self c.add-in-loop-n.new.self (passed ice.heat) is c.add.ensures.value c.add-in-loop-n.ensures.value ice_heat in
    let own : (k : ℕ) → k < categories → at c.category_lists-ice.new.heat (n * categories + k) ≡ at c.args.ice_heat.now (n * categories + k) +ℤ category_gain xgrid flows n k =
    (λ k l. (
    let old = inv.ice_ahead (n * categories + k) (omega arith) in
    let new = c.category_lists-ice.ensures.heat k l in
    omega (arith, ints, old, new))) in
    record {
      ice_heat = rows_more (λ m k. at c.args.ice_heat.now (m * categories + k) +ℤ category_gain xgrid flows m k) c.loop-n.ice_heat c.category_lists-ice.new.heat categories n (pos 0) inv.ice_heat own c.category_lists-ice.ensures.before;
      heat = written (λ k. (f k).heat) c.loop-n.heat n (pos 0) _ (omega arith) inv.heat (heat_passed ∙ ap (λ (a : After). a.heat) is);
      water = written (λ k. (f k).water) c.loop-n.water n (pos 0) _ (omega arith) inv.water (water_passed ∙ ap (λ (a : After). a.water) is);
      ice_ahead = λ m l. c.category_lists-ice.ensures.ahead m (omega (arith, l)) ∙ inv.ice_ahead m (omega (arith, l));
      heat_ahead = ahead_stay c.loop-n.heat c.args.heat.now n (pos 0) _ inv.heat_ahead;
      water_ahead = ahead_stay c.loop-n.water c.args.water.now n (pos 0) _ inv.water_ahead;
      taken = one_more c.loop-n.all (ocean_at xgrid flows categories n) c.add-in-loop-n.new.self n (ocean_at xgrid flows categories) here inv.taken (λ i. ocean_at xgrid flows categories n);
      small = taken_smaller (n * 2 ^ 45 + 2 ^ 44 + 2 ^ 44) ((n + 1) * 2 ^ 45) c.add-in-loop-n.new.self (omega arith)
          (c.add-in-loop-n.ensures.small (n * 2 ^ 45 + 2 ^ 44) (2 ^ 44) (c.add.ensures.small (n * 2 ^ 45) (2 ^ 44) inv.small c.skin_cell-skin.ensures.small) (ice_small ice c.category_lists-ice.ensures.taken));
    }
