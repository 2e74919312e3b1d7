use Rattle.std.proofs.Common.{◌≡◌, ◌∙◌, ap, arith, w64, to_z, of_z}
use Rattle.std.specs.Prelude.{◌+ℤ◌, ◌-ℤ◌}
use Rattle.std.proofs.lemmas.Int.{ints}
use Rattle.cpl_fixed.specs.Totals.{total_of}
use Rattle.cpl_ice.specs.declared.cell.IceCell.{IceCell}
use Rattle.cpl_ice.specs.declared.parts.Salty.{Salty}
use Rattle.cpl_ice.specs.Cells.{nothing}
use Rattle.cpl_ice.specs.Slow.{before_melt, after_melt}
use Rattle.cpl_ice.proofs.Steps.{ridge_is, melt_is, after_keeps, sum_is, sum_amount}
use Rattle.cpl_ice.proofs.Totals.{total_least}
use Rattle.cpl_ice.proofs.cell.IceCell.slow.Goals as goal

pub overflow_add-result : goal.overflow_add-result
overflow_add-result c =
    let ridge = ridge_is c.args.rates.now c.args.self.now c.freeze.new.self c.ridge.new.self c.freeze.ensures.value c.ridge.ensures.value in
    let melt = melt_is c.args.rates.now c.args.self.now c.ridge.new.self c.melt-melt.new.self ridge c.melt-melt.ensures.value in
    let keeps = after_keeps c.args.rates.now c.args.self.now c.melt-melt.new.self melt in
    let skin : c.melt-melt.new.self.skin.water ≡ c.args.self.now.skin.water = ap (λ (s : Salty). s.water) keeps.skin in
    let rest = total_least c.melt-melt.new.self.ice c.melt-melt.ensures.cell.ice in
    omega (arith, ints, skin, rest, c.melt-melt.ensures.water, c.melt-melt.ensures.least.0, c.ridge.ensures.water, c.freeze.ensures.water, c.requires.runoff.water, c.requires.runoff.runoff_water, c.requires.cell.skin.water.0)

pub overflow_add-result-2 : goal.overflow_add-result-2
overflow_add-result-2 c =
    let ridge = ridge_is c.args.rates.now c.args.self.now c.freeze.new.self c.ridge.new.self c.freeze.ensures.value c.ridge.ensures.value in
    let melt = melt_is c.args.rates.now c.args.self.now c.ridge.new.self c.melt-melt.new.self ridge c.melt-melt.ensures.value in
    let keeps = after_keeps c.args.rates.now c.args.self.now c.melt-melt.new.self melt in
    let skin : c.melt-melt.new.self.skin.water ≡ c.args.self.now.skin.water = ap (λ (s : Salty). s.water) keeps.skin in
    let rest = total_least c.melt-melt.new.self.ice c.melt-melt.ensures.cell.ice in
    omega (arith, ints, skin, rest, c.melt-melt.ensures.water, c.melt-melt.ensures.least.0, c.ridge.ensures.water, c.freeze.ensures.water, c.requires.runoff.water, c.requires.runoff.runoff_water, c.requires.cell.skin.water.0)

pub overflow_add-result-3 : goal.overflow_add-result-3
overflow_add-result-3 c =
    let ridge = ridge_is c.args.rates.now c.args.self.now c.freeze.new.self c.ridge.new.self c.freeze.ensures.value c.ridge.ensures.value in
    let melt = melt_is c.args.rates.now c.args.self.now c.ridge.new.self c.melt-melt.new.self ridge c.melt-melt.ensures.value in
    let keeps = after_keeps c.args.rates.now c.args.self.now c.melt-melt.new.self melt in
    let skin : c.melt-melt.new.self.skin.heat ≡ c.args.self.now.skin.heat = ap (λ (s : Salty). s.heat) keeps.skin in
    let rest = total_least c.melt-melt.new.self.heat c.melt-melt.ensures.cell.heat in
    omega (arith, ints, skin, rest, c.melt-melt.ensures.heat, c.melt-melt.ensures.least.1, c.ridge.ensures.heat, c.freeze.ensures.heat, c.requires.runoff.heat, c.requires.runoff.runoff_heat, c.requires.cell.skin.heat.0)

pub overflow_add-result-4 : goal.overflow_add-result-4
overflow_add-result-4 c =
    let ridge = ridge_is c.args.rates.now c.args.self.now c.freeze.new.self c.ridge.new.self c.freeze.ensures.value c.ridge.ensures.value in
    let melt = melt_is c.args.rates.now c.args.self.now c.ridge.new.self c.melt-melt.new.self ridge c.melt-melt.ensures.value in
    let keeps = after_keeps c.args.rates.now c.args.self.now c.melt-melt.new.self melt in
    let skin : c.melt-melt.new.self.skin.heat ≡ c.args.self.now.skin.heat = ap (λ (s : Salty). s.heat) keeps.skin in
    let rest = total_least c.melt-melt.new.self.heat c.melt-melt.ensures.cell.heat in
    omega (arith, ints, skin, rest, c.melt-melt.ensures.heat, c.melt-melt.ensures.least.1, c.ridge.ensures.heat, c.freeze.ensures.heat, c.requires.runoff.heat, c.requires.runoff.runoff_heat, c.requires.cell.skin.heat.0)

pub returns-clause-water : goal.returns-clause-water
returns-clause-water c =
    let ridge = ridge_is c.args.rates.now c.args.self.now c.freeze.new.self c.ridge.new.self c.freeze.ensures.value c.ridge.ensures.value in
    let melt = melt_is c.args.rates.now c.args.self.now c.ridge.new.self c.melt-melt.new.self ridge c.melt-melt.ensures.value in
    let keeps = after_keeps c.args.rates.now c.args.self.now c.melt-melt.new.self melt in
    let skin : c.melt-melt.new.self.skin.water ≡ c.args.self.now.skin.water = ap (λ (s : Salty). s.water) keeps.skin in
    let rest = total_least c.melt-melt.new.self.ice c.melt-melt.ensures.cell.ice in
    let all = sum_is c.melt-melt.new.self.skin.water c.melt-melt.result.water c.args.runoff.water c.melt-melt.ensures.cell.skin.water.0 c.melt-melt.ensures.least.0 c.requires.runoff.runoff_water (omega (arith, ints, skin, rest, c.melt-melt.ensures.water, c.melt-melt.ensures.least.0, c.ridge.ensures.water, c.freeze.ensures.water, c.requires.runoff.water, c.requires.runoff.runoff_water, c.requires.cell.skin.water.0)) in
    omega (arith, ints, all, keeps.frazil_water, skin, rest, c.melt-melt.ensures.water, c.melt-melt.ensures.least.0, c.ridge.ensures.water, c.freeze.ensures.water, c.requires.runoff.water, c.requires.runoff.runoff_water, c.requires.cell.skin.water.0)

pub returns-clause-heat : goal.returns-clause-heat
returns-clause-heat c =
    let ridge = ridge_is c.args.rates.now c.args.self.now c.freeze.new.self c.ridge.new.self c.freeze.ensures.value c.ridge.ensures.value in
    let melt = melt_is c.args.rates.now c.args.self.now c.ridge.new.self c.melt-melt.new.self ridge c.melt-melt.ensures.value in
    let keeps = after_keeps c.args.rates.now c.args.self.now c.melt-melt.new.self melt in
    let skin : c.melt-melt.new.self.skin.heat ≡ c.args.self.now.skin.heat = ap (λ (s : Salty). s.heat) keeps.skin in
    let rest = total_least c.melt-melt.new.self.heat c.melt-melt.ensures.cell.heat in
    let all = sum_is c.melt-melt.new.self.skin.heat c.melt-melt.result.heat c.args.runoff.heat c.melt-melt.ensures.cell.skin.heat.0 c.melt-melt.ensures.least.1 c.requires.runoff.runoff_heat (omega (arith, ints, skin, rest, c.melt-melt.ensures.heat, c.melt-melt.ensures.least.1, c.ridge.ensures.heat, c.freeze.ensures.heat, c.requires.runoff.heat, c.requires.runoff.runoff_heat, c.requires.cell.skin.heat.0)) in
    omega (arith, ints, all, keeps.frazil_heat, skin, rest, c.melt-melt.ensures.heat, c.melt-melt.ensures.least.1, c.ridge.ensures.heat, c.freeze.ensures.heat, c.requires.runoff.heat, c.requires.runoff.runoff_heat, c.requires.cell.skin.heat.0)

pub returns-clause-salt : goal.returns-clause-salt
returns-clause-salt c =
    let ridge = ridge_is c.args.rates.now c.args.self.now c.freeze.new.self c.ridge.new.self c.freeze.ensures.value c.ridge.ensures.value in
    let melt = melt_is c.args.rates.now c.args.self.now c.ridge.new.self c.melt-melt.new.self ridge c.melt-melt.ensures.value in
    let keeps = after_keeps c.args.rates.now c.args.self.now c.melt-melt.new.self melt in
    let salt : c.melt-melt.new.self.skin.salt ≡ c.args.self.now.skin.salt = ap (λ (s : Salty). s.salt) keeps.skin in
    omega (arith, ints, salt, c.melt-melt.ensures.cell.skin.salt.0, c.melt-melt.ensures.cell.skin.salt.1)

pub returns-clause-value : goal.returns-clause-value
returns-clause-value c =
    let ridge = ridge_is c.args.rates.now c.args.self.now c.freeze.new.self c.ridge.new.self c.freeze.ensures.value c.ridge.ensures.value in
    let melt = melt_is c.args.rates.now c.args.self.now c.ridge.new.self c.melt-melt.new.self ridge c.melt-melt.ensures.value in
    ap (λ (s : IceCell). record s { skin = nothing }) melt

pub returns-clause-returned : goal.returns-clause-returned
returns-clause-returned c =
    let ridge = ridge_is c.args.rates.now c.args.self.now c.freeze.new.self c.ridge.new.self c.freeze.ensures.value c.ridge.ensures.value in
    let melt = melt_is c.args.rates.now c.args.self.now c.ridge.new.self c.melt-melt.new.self ridge c.melt-melt.ensures.value in
    let keeps = after_keeps c.args.rates.now c.args.self.now c.melt-melt.new.self melt in
    let water_skin : c.melt-melt.new.self.skin.water ≡ c.args.self.now.skin.water = ap (λ (s : Salty). s.water) keeps.skin in
    let water_rest = total_least c.melt-melt.new.self.ice c.melt-melt.ensures.cell.ice in
    let water_before = ap (λ (s : IceCell). total_of s.ice) ridge in
    let water_after = ap (λ (s : IceCell). total_of s.ice) melt in
    let water_all = sum_is c.melt-melt.new.self.skin.water c.melt-melt.result.water c.args.runoff.water c.melt-melt.ensures.cell.skin.water.0 c.melt-melt.ensures.least.0 c.requires.runoff.runoff_water (omega (arith, ints, water_skin, water_rest, c.melt-melt.ensures.water, c.melt-melt.ensures.least.0, c.ridge.ensures.water, c.freeze.ensures.water, c.requires.runoff.water, c.requires.runoff.runoff_water, c.requires.cell.skin.water.0)) in
    let water_is : c.melt-melt.new.self.skin.water +ℤ c.melt-melt.result.water +ℤ c.args.runoff.water ≡ c.args.self.now.skin.water +ℤ (total_of (before_melt c.args.rates.now c.args.self.now).ice -ℤ total_of (after_melt c.args.rates.now c.args.self.now).ice) +ℤ c.args.runoff.water =
    omega (arith, ints, water_skin, water_before, water_after, c.melt-melt.ensures.water) in
    let water = water_all ∙ water_is in
    let heat_skin : c.melt-melt.new.self.skin.heat ≡ c.args.self.now.skin.heat = ap (λ (s : Salty). s.heat) keeps.skin in
    let heat_rest = total_least c.melt-melt.new.self.heat c.melt-melt.ensures.cell.heat in
    let heat_before = ap (λ (s : IceCell). total_of s.heat) ridge in
    let heat_after = ap (λ (s : IceCell). total_of s.heat) melt in
    let heat_all = sum_is c.melt-melt.new.self.skin.heat c.melt-melt.result.heat c.args.runoff.heat c.melt-melt.ensures.cell.skin.heat.0 c.melt-melt.ensures.least.1 c.requires.runoff.runoff_heat (omega (arith, ints, heat_skin, heat_rest, c.melt-melt.ensures.heat, c.melt-melt.ensures.least.1, c.ridge.ensures.heat, c.freeze.ensures.heat, c.requires.runoff.heat, c.requires.runoff.runoff_heat, c.requires.cell.skin.heat.0)) in
    let heat_is : c.melt-melt.new.self.skin.heat +ℤ c.melt-melt.result.heat +ℤ c.args.runoff.heat ≡ c.args.self.now.skin.heat +ℤ (total_of (before_melt c.args.rates.now c.args.self.now).heat -ℤ total_of (after_melt c.args.rates.now c.args.self.now).heat) +ℤ c.args.runoff.heat =
    omega (arith, ints, heat_skin, heat_before, heat_after, c.melt-melt.ensures.heat) in
    let heat = heat_all ∙ heat_is in
    let salt_own : to_z w64 (of_z w64 c.melt-melt.new.self.skin.salt) ≡ c.melt-melt.new.self.skin.salt = omega (arith, ints, c.melt-melt.ensures.cell.skin.salt.0, c.melt-melt.ensures.cell.skin.salt.1) in
    let salt = salt_own ∙ ap (λ (s : Salty). s.salt) keeps.skin in
    λ i. record { water = water i; heat = heat i; salt = salt i }

pub returns-clause-amounts : goal.returns-clause-amounts
returns-clause-amounts c =
    let ridge = ridge_is c.args.rates.now c.args.self.now c.freeze.new.self c.ridge.new.self c.freeze.ensures.value c.ridge.ensures.value in
    let melt = melt_is c.args.rates.now c.args.self.now c.ridge.new.self c.melt-melt.new.self ridge c.melt-melt.ensures.value in
    let keeps = after_keeps c.args.rates.now c.args.self.now c.melt-melt.new.self melt in
    let water_skin : c.melt-melt.new.self.skin.water ≡ c.args.self.now.skin.water = ap (λ (s : Salty). s.water) keeps.skin in
    let heat_skin : c.melt-melt.new.self.skin.heat ≡ c.args.self.now.skin.heat = ap (λ (s : Salty). s.heat) keeps.skin in
    let salt_is : to_z w64 (of_z w64 c.melt-melt.new.self.skin.salt) ≡ c.melt-melt.new.self.skin.salt = omega (arith, ints, c.melt-melt.ensures.cell.skin.salt.0, c.melt-melt.ensures.cell.skin.salt.1) in
    let water_rest = total_least c.melt-melt.new.self.ice c.melt-melt.ensures.cell.ice in
    let heat_rest = total_least c.melt-melt.new.self.heat c.melt-melt.ensures.cell.heat in
    record {
      water = sum_amount c.melt-melt.new.self.skin.water c.melt-melt.result.water c.args.runoff.water c.melt-melt.ensures.cell.skin.water.0 c.melt-melt.ensures.least.0 c.requires.runoff.runoff_water (omega (arith, ints, water_skin, water_rest, c.melt-melt.ensures.water, c.melt-melt.ensures.least.0, c.ridge.ensures.water, c.freeze.ensures.water, c.requires.runoff.water, c.requires.runoff.runoff_water, c.requires.cell.skin.water.0));
      heat = sum_amount c.melt-melt.new.self.skin.heat c.melt-melt.result.heat c.args.runoff.heat c.melt-melt.ensures.cell.skin.heat.0 c.melt-melt.ensures.least.1 c.requires.runoff.runoff_heat (omega (arith, ints, heat_skin, heat_rest, c.melt-melt.ensures.heat, c.melt-melt.ensures.least.1, c.ridge.ensures.heat, c.freeze.ensures.heat, c.requires.runoff.heat, c.requires.runoff.runoff_heat, c.requires.cell.skin.heat.0));
      salt = (omega (arith, ints, salt_is, c.melt-melt.ensures.cell.skin.salt.0), omega (arith, ints, salt_is, c.melt-melt.ensures.cell.skin.salt.1));
    }
