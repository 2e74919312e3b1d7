-- The lists are the recipe's, so that their areas can be summed.
use Rattle.std.proofs.Common.{◌∙◌, ap}
use Rattle.cpl_mosaic.specs.Lists.{MosaicLists}
use Rattle.cpl_made_grid.specs.Shapes.{sphere_tiles, ocean_tiles}
use Rattle.cpl_made_grid.specs.Overlaps.{land_rows, ocean_rows}
use Rattle.cpl_made_grid.specs.Areas.{sums_of, land_areas, ocean_areas}
use Rattle.cpl_made_grid.proofs.GridLaws.{CanSum, land_sums, ocean_sums, sums_same}
use Rattle.cpl_made_grid.proofs.grid.make_surface.Goals.{After-deref, After-deref-2}
use Rattle.cpl_made_grid.proofs.grid.make_surface.Goals as goal

lands : (c : After-deref) → CanSum c.in_ok-sphere.sphere.tiles c.deref.result.now
lands c =
    sums_same c.in_ok-sphere.sphere.tiles c.deref.result.now (sphere_tiles c.args.recipe.size) (land_rows c.args.recipe) (ap (λ (mosaic : MosaicLists). mosaic.tiles) c.in_ok-sphere.ensures) (c.deref.ensures.value ∙ c.in_ok-rows.ensures.land)
    (land_sums c.args.recipe c.requires)

oceans : (c : After-deref-2) → CanSum c.in_ok-ocean.ocean.tiles c.deref-2.result.now
oceans c =
    sums_same c.in_ok-ocean.ocean.tiles c.deref-2.result.now (ocean_tiles c.args.recipe.size) (ocean_rows c.args.recipe) (ap (λ (mosaic : MosaicLists). mosaic.tiles) c.in_ok-ocean.ensures) (c.deref-2.ensures.value ∙ c.in_ok-rows.ensures.ocean)
    (ocean_sums c.args.recipe c.requires)

pub sums_of-requires-clause-cells : goal.sums_of-requires-clause-cells
sums_of-requires-clause-cells c = (lands c).cells

pub sums_of-requires-clause-areas : goal.sums_of-requires-clause-areas
sums_of-requires-clause-areas c = (lands c).areas

pub sums_of-requires-clause-few : goal.sums_of-requires-clause-few
sums_of-requires-clause-few c = (lands c).few

pub sums_of-requires-2-clause-cells : goal.sums_of-requires-2-clause-cells
sums_of-requires-2-clause-cells c = (oceans c).cells

pub sums_of-requires-2-clause-areas : goal.sums_of-requires-2-clause-areas
sums_of-requires-2-clause-areas c = (oceans c).areas

pub sums_of-requires-2-clause-few : goal.sums_of-requires-2-clause-few
sums_of-requires-2-clause-few c = (oceans c).few

pub returns-clause-land : goal.returns-clause-land
unfolding land_areas
returns-clause-land c =
    let rows = c.deref.ensures.value ∙ c.in_ok-rows.ensures.land in
    let areas = c.from_vec.ensures ∙ c.in_ok-land_areas.ensures ∙ (λ i. sums_of (c.in_ok-sphere.ensures i).tiles (rows i)) in
    λ i. record { mosaic = c.in_ok-sphere.ensures i; area = areas i }

pub returns-clause-ocean : goal.returns-clause-ocean
unfolding ocean_areas
returns-clause-ocean c =
    let rows = c.deref-2.ensures.value ∙ c.in_ok-rows.ensures.ocean in
    let areas = c.from_vec-2.ensures ∙ c.in_ok-ocean_areas.ensures ∙ (λ i. sums_of (c.in_ok-ocean.ensures i).tiles (rows i)) in
    λ i. record { mosaic = c.in_ok-ocean.ensures i; area = areas i }
