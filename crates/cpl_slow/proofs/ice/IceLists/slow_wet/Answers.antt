use Rattle.std.proofs.Common.{◌≡◌, ◌∙◌, sym, subst, ap, ◌≤◌, arith, w64, to_z, of_z}
use Rattle.std.specs.Prelude.{◌+ℤ◌}
use Rattle.std.proofs.lemmas.Int.{ints}
use Rattle.cpl_ice.specs.declared.parts.Salty.{Salty}
use Rattle.cpl_fixed.specs.declared.gain.Gain.{Gain}
use Rattle.cpl_ice.specs.declared.cell.IceCell.{IceCell}
use Rattle.cpl_ice.specs.Cells.{IsIceCell, IsSalty}
use Rattle.cpl_ice.specs.Slow.{CanSlow}
use Rattle.cpl_state.specs.States.{categories, ice_cell}
use Rattle.cpl_slow.specs.Ice.{with_ice}
use Rattle.cpl_slow.proofs.Bare.{bare_returned}
use Rattle.cpl_slow.proofs.Same.{bare_cell, bare_put, skin_heat_fits, skin_water_fits, with_runoff, with_runoff_is}
use Rattle.cpl_slow.proofs.ice.IceLists.slow_wet.Goals as goal

pub overflow_add-result : goal.overflow_add-result
overflow_add-result c =
    let cell = ice_cell c.args.grid.now (with_ice c.args.mid.now c.args.self.now) c.args.n in
    let fits = skin_water_fits cell c.args.runoff c.requires.cell c.requires.runoff in
    let skin = ap (λ (it : Salty). it.water) c.skin_of-skin.ensures in
    omega (arith, ints, fits, skin, c.requires.cell.skin.water.0, c.requires.runoff.runoff_water)

pub overflow_add-result-then-is_bare : goal.overflow_add-result-then-is_bare
overflow_add-result-then-is_bare c =
    let cell = ice_cell c.args.grid.now (with_ice c.args.mid.now c.args.self.now) c.args.n in
    let fits = skin_heat_fits cell c.args.runoff c.requires.cell c.requires.runoff in
    let skin = ap (λ (it : Salty). it.heat) c.skin_of-skin.ensures in
    omega (arith, ints, fits, skin, c.requires.cell.skin.heat.0, c.requires.runoff.runoff_heat)

pub returns-then-is_bare-clause-put : goal.returns-then-is_bare-clause-put
returns-then-is_bare-clause-put c =
    let few : categories c.args.grid.now ≤ 5 = c.requires.grid.column.categories.1 in
    bare_put c.args.grid.now c.args.mid.now c.args.self.now c.args.n few (c.is_bare.ensures.0 c.if-is_bare.true) c.args.rates.now c.requires.cell

-- the sums as machine words
sums_are : (skin : Salty) (cell : IceCell) (runoff : Gain) → skin ≡ cell.skin → IsIceCell cell → CanSlow cell runoff
    → ◌≡◌ {A = Salty} (record {
      water = to_z w64 (of_z w64 (to_z w64 (of_z w64 skin.water) +ℤ to_z w64 (of_z w64 runoff.water)));
      heat = to_z w64 (of_z w64 (to_z w64 (of_z w64 skin.heat) +ℤ to_z w64 (of_z w64 runoff.heat)));
      salt = to_z w64 (of_z w64 skin.salt);
    }) (with_runoff cell.skin runoff)
sums_are skin cell runoff e is can =
    let water_fits = skin_water_fits cell runoff is can in
    let heat_fits = skin_heat_fits cell runoff is can in
    let skin_water = ap (λ (it : Salty). it.water) e in
    let skin_heat = ap (λ (it : Salty). it.heat) e in
    let skin_salt = ap (λ (it : Salty). it.salt) e in
    let water : to_z w64 (of_z w64 (to_z w64 (of_z w64 skin.water) +ℤ to_z w64 (of_z w64 runoff.water))) ≡ cell.skin.water +ℤ runoff.water = omega (arith, ints, water_fits, skin_water, is.skin.water.0, can.runoff_water) in
    let heat : to_z w64 (of_z w64 (to_z w64 (of_z w64 skin.heat) +ℤ to_z w64 (of_z w64 runoff.heat))) ≡ cell.skin.heat +ℤ runoff.heat = omega (arith, ints, heat_fits, skin_heat, is.skin.heat.0, can.runoff_heat) in
    let salt : to_z w64 (of_z w64 skin.salt) ≡ cell.skin.salt = omega (arith, ints, skin_salt, is.skin.salt.0, is.skin.salt.1) in
    λ i. record { water = water i; heat = heat i; salt = salt i }

pub returns-then-is_bare-clause-returned : goal.returns-then-is_bare-clause-returned
returns-then-is_bare-clause-returned c =
    let cell = ice_cell c.args.grid.now (with_ice c.args.mid.now c.args.self.now) c.args.n in
    let few : categories c.args.grid.now ≤ 5 = c.requires.grid.column.categories.1 in
    let bare = bare_cell c.args.grid.now c.args.mid.now c.args.self.now c.args.n few (c.is_bare.ensures.0 c.if-is_bare.true) in
    sums_are c.skin_of-skin.result cell c.args.runoff c.skin_of-skin.ensures c.requires.cell c.requires.runoff ∙ sym (bare_returned c.args.rates.now cell c.requires.cell bare c.args.runoff)

pub returns-then-is_bare-clause-amounts : goal.returns-then-is_bare-clause-amounts
returns-then-is_bare-clause-amounts c =
    let cell = ice_cell c.args.grid.now (with_ice c.args.mid.now c.args.self.now) c.args.n in
    subst IsSalty (sym (sums_are c.skin_of-skin.result cell c.args.runoff c.skin_of-skin.ensures c.requires.cell c.requires.runoff)) (with_runoff_is cell c.args.runoff c.requires.cell c.requires.runoff)
