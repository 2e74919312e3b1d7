use Rattle.std.proofs.Common.{◌≡◌, ◌∙◌, sym, ap, subst, arith, ℕ, ◌*◌, length, vec_len, pos}
use Rattle.cpl_faces.specs.Faces.{faces_of}
use Rattle.cpl_made_grid.specs.Shapes.{ocean_count, ocean_mosaic}
use Rattle.cpl_made_grid.specs.Areas.{land_areas, ocean_areas}
use Rattle.cpl_made_grid.proofs.OutletLaws.{ocean_length}
use Rattle.cpl_make.specs.declared.sections.Section.TheVariants as section
use Rattle.cpl_make.specs.Sections.{AreAreas, made_section, made_parts}
use Rattle.cpl_make.specs.Starts.{made_start, zeros, air_areas}
use Rattle.cpl_make.proofs.StartLaws.{lawful_for, air_for, land_for, ocean_for, faces_for, air_areas_are, land_areas_are, ocean_areas_are}
use Rattle.cpl_make.proofs.start.make_start.Goals as goal

pub made_section-requires-clause-areas : goal.made_section-requires-clause-areas
made_section-requires-clause-areas c = subst AreAreas (sym (c.as_slice-air.ensures ∙ air_for c.args.recipe c.requires.size c.args.grid.now c.requires.grid)) (air_areas_are c.args.recipe c.requires.size)

pub made_section-requires-2-clause-areas : goal.made_section-requires-2-clause-areas
made_section-requires-2-clause-areas c = subst AreAreas (sym (c.as_slice-air.ensures ∙ air_for c.args.recipe c.requires.size c.args.grid.now c.requires.grid)) (air_areas_are c.args.recipe c.requires.size)

pub made_section-requires-3-clause-areas : goal.made_section-requires-3-clause-areas
made_section-requires-3-clause-areas c = subst AreAreas (sym (c.as_slice-air.ensures ∙ air_for c.args.recipe c.requires.size c.args.grid.now c.requires.grid)) (air_areas_are c.args.recipe c.requires.size)

pub made_section-requires-4-clause-areas : goal.made_section-requires-4-clause-areas
made_section-requires-4-clause-areas c = subst AreAreas (sym (c.as_slice-land.ensures ∙ land_for c.args.recipe c.requires.size c.args.grid.now c.requires.grid)) (land_areas_are c.args.recipe c.requires.size)

pub made_section-requires-5-clause-areas : goal.made_section-requires-5-clause-areas
made_section-requires-5-clause-areas c = subst AreAreas (sym (c.as_slice-land.ensures ∙ land_for c.args.recipe c.requires.size c.args.grid.now c.requires.grid)) (land_areas_are c.args.recipe c.requires.size)

pub made_section-requires-6-clause-areas : goal.made_section-requires-6-clause-areas
made_section-requires-6-clause-areas c = subst AreAreas (sym (c.as_slice-ocean.ensures ∙ ocean_for c.args.recipe c.requires.size c.args.grid.now c.requires.grid)) (ocean_areas_are c.args.recipe c.requires.size)

pub made_section-requires-7-clause-areas : goal.made_section-requires-7-clause-areas
made_section-requires-7-clause-areas c = subst AreAreas (sym (c.as_slice-ocean.ensures ∙ ocean_for c.args.recipe c.requires.size c.args.grid.now c.requires.grid)) (ocean_areas_are c.args.recipe c.requires.size)

pub made_section-requires-8-clause-areas : goal.made_section-requires-8-clause-areas
made_section-requires-8-clause-areas c = subst AreAreas (sym (c.as_slice-ocean.ensures ∙ ocean_for c.args.recipe c.requires.size c.args.grid.now c.requires.grid)) (ocean_areas_are c.args.recipe c.requires.size)

pub made_parts-requires-clause-cells : goal.made_parts-requires-clause-cells
made_parts-requires-clause-cells c = (subst AreAreas (sym (c.as_slice-ocean.ensures ∙ ocean_for c.args.recipe c.requires.size c.args.grid.now c.requires.grid)) (ocean_areas_are c.args.recipe c.requires.size)).cells

pub returns-clause-start : goal.returns-clause-start
unfolding made_start
returns-clause-start c =
    let recipe = c.args.recipe in
    let number = recipe.number in
    let grid = c.args.grid.now in
    let air = c.as_slice-air.ensures ∙ air_for recipe c.requires.size grid c.requires.grid in
    let land = c.as_slice-land.ensures ∙ land_for recipe c.requires.size grid c.requires.grid in
    let ocean = c.as_slice-ocean.ensures ∙ ocean_for recipe c.requires.size grid c.requires.grid in
    let cells : length c.as_slice-ocean.result.now ≡ ocean_count recipe.size = ap length ocean ∙ ocean_length recipe in
    let listed : vec_len c.in_ok-faces.field-0 ≡ length c.in_ok-faces.field-0.items = omega (arith, c.in_ok-faces.field-0.ok.0) in
    let count = c.len-faces.ensures ∙ listed ∙ ap length (c.in_ok-faces.ensures.faces ∙ faces_for recipe c.requires.size grid c.requires.grid) in
    let air_heat : c.in_ok-made_section.field-0 ≡ made_section number section.AirHeat 1 (air_areas recipe.size) = c.in_ok-made_section.ensures ∙ ap (made_section number section.AirHeat 1) air in
    let air_vapour : c.in_ok-made_section-2.field-0 ≡ made_section number section.Vapour 1 (air_areas recipe.size) = c.in_ok-made_section-2.ensures ∙ ap (made_section number section.Vapour 1) air in
    let air_sun : c.in_ok-made_section-3.field-0 ≡ made_section number section.Sun 1 (air_areas recipe.size) = c.in_ok-made_section-3.ensures ∙ ap (made_section number section.Sun 1) air in
    let land_heat : c.in_ok-made_section-4.field-0 ≡ made_section number section.LandHeat 1 (land_areas recipe) = c.in_ok-made_section-4.ensures ∙ ap (made_section number section.LandHeat 1) land in
    let land_water : c.in_ok-made_section-5.field-0 ≡ made_section number section.LandWater 1 (land_areas recipe) = c.in_ok-made_section-5.ensures ∙ ap (made_section number section.LandWater 1) land in
    let parts : c.in_ok-made_parts.field-0 ≡ made_parts 4 (ocean_areas recipe) = c.in_ok-made_parts.ensures ∙ ap (made_parts 4) ocean in
    let ice : c.in_ok-zeros.field-0 ≡ zeros (3 * ocean_count recipe.size) = c.in_ok-zeros.ensures ∙ ap (λ (n : ℕ). zeros (3 * n)) cells in
    let ice_heat : c.in_ok-zeros-2.field-0 ≡ zeros (3 * ocean_count recipe.size) = c.in_ok-zeros-2.ensures ∙ ap (λ (n : ℕ). zeros (3 * n)) cells in
    let water : c.in_ok-made_section-6.field-0 ≡ made_section number section.OceanWater 2 (ocean_areas recipe) = c.in_ok-made_section-6.ensures ∙ ap (made_section number section.OceanWater 2) ocean in
    let heat : c.in_ok-made_section-7.field-0 ≡ made_section number section.OceanHeat 2 (ocean_areas recipe) = c.in_ok-made_section-7.ensures ∙ ap (made_section number section.OceanHeat 2) ocean in
    let salt : c.in_ok-made_section-8.field-0 ≡ made_section number section.Salt 2 (ocean_areas recipe) = c.in_ok-made_section-8.ensures ∙ ap (made_section number section.Salt 2) ocean in
    let faces : c.in_ok-zeros-3.field-0 ≡ zeros (2 * length (faces_of (ocean_mosaic recipe.size))) = c.in_ok-zeros-3.ensures ∙ ap (λ (n : ℕ). zeros (2 * n)) count in
    let to_ice : c.in_ok-zeros-4.field-0 ≡ zeros (5 * ocean_count recipe.size) = c.in_ok-zeros-4.ensures ∙ ap (λ (n : ℕ). zeros (5 * n)) cells in
    let to_ocean : c.in_ok-zeros-5.field-0 ≡ zeros (3 * ocean_count recipe.size) = c.in_ok-zeros-5.ensures ∙ ap (λ (n : ℕ). zeros (3 * n)) cells in
    λ i. record {
      elapsed = pos 0;
      air_heat = air_heat i;
      air_vapour = air_vapour i;
      air_sun = air_sun i;
      land_heat = land_heat i;
      land_water = land_water i;
      parts = parts i;
      ice = ice i;
      ice_heat = ice_heat i;
      water = water i;
      heat = heat i;
      salt = salt i;
      faces = faces i;
      to_ice = to_ice i;
      to_ocean = to_ocean i;
    }

pub returns-clause-lawful : goal.returns-clause-lawful
returns-clause-lawful c = lawful_for c.args.recipe c.requires.size c.args.grid.now _ c.requires.grid (returns-clause-start c)
