-- A coupled grid that is read is a grid for the crates above.
use Rattle.std.proofs.Common.{◌≡◌, refl, sym, ap, List, Option, Some, None, Result, Ok, Err}
use Rattle.std.specs.Prelude.{IfOk, All}
use Rattle.cpl_fixed.specs.Flows.{IsAirArea}
use Rattle.cpl_fixed.specs.Ranges.{IsFromℤ}
use Rattle.cpl_fixed.specs.declared.limits.TheConstants.{MOST_WEIGHT}
use Rattle.cpl_fixed.specs.declared.words.Component.TheVariants.{Atmos, Land, Ocean}
use Rattle.cpl_xgrid.specs.declared.grid.Grid.{Grid}
use Rattle.cpl_xgrid.specs.declared.parts.XRow.{XRow}
use Rattle.cpl_xgrid.specs.declared.parts.Outlet.{Outlet}
use Rattle.cpl_xgrid.specs.declared.error.XGridError.{XGridError}
use Rattle.cpl_xgrid.specs.Grids.{IsGrid}
use Rattle.cpl_xgrid.specs.Lists.{IsArea}
use Rattle.cpl_gridfile.specs.declared.fault.GridError.{GridError}
use Rattle.cpl_gridfile.specs.GridFormat.{Parts}
use Rattle.cpl_gridfile.specs.Within.{RowIsWithin, OutletIsWithin}
use Rattle.cpl_gridfile.specs.Rules.{◌then◌, mosaic_fault}
use Rattle.cpl_gridfile.specs.AirGrid.{air_fault}
use Rattle.cpl_gridfile.specs.CoupledGrid.{IsCoupledGrid, parts_of_grid, at_xgrid, exchange_fault, coupled_fault}
use Rattle.cpl_gridfile.proofs.AirAreas.{air_areas}
use Rattle.cpl_gridfile.proofs.CoupledJudging.{mesh_is_mesh}

first_none : (first others : Option GridError) → (first then others) ≡ None → first ≡ None
first_none None others e = refl
first_none (Some fault) others e = absurd cc

last_none : (first others : Option GridError) → (first then others) ≡ None → others ≡ None
last_none None others e = e
last_none (Some fault) others e = absurd cc

no_fault : (found : Option XGridError) → at_xgrid found ≡ None → found ≡ None
no_fault None e = refl
no_fault (Some fault) e = absurd cc

exchange_kept : (p : Parts) → coupled_fault p ≡ None → exchange_fault p ≡ None
exchange_kept p e =
    last_none (mosaic_fault Ocean p.ocean) (exchange_fault p)
    (last_none (mosaic_fault Land p.land) (mosaic_fault Ocean p.ocean then exchange_fault p)
    (last_none (air_fault p.air) (mosaic_fault Land p.land then mosaic_fault Ocean p.ocean then exchange_fault p) e))

row_areas : (rows : List XRow) → All RowIsWithin rows → All (λ (row : XRow). IsArea row.area) rows
row_areas rows each = λ i d lt. (each i d lt).area

outlet_weights : (outlets : List Outlet) → All OutletIsWithin outlets → All (λ (outlet : Outlet). IsFromℤ 0 MOST_WEIGHT outlet.weight) outlets
outlet_weights outlets each = λ i d lt. (each i d lt).weight

is_grid : (grid : Grid) → IsCoupledGrid grid → IsGrid grid
is_grid grid is =
    let limits = is.limits.limits in
    record {
      air = mesh_is_mesh grid.air limits.air;
      land = mesh_is_mesh grid.land limits.land;
      ocean = mesh_is_mesh grid.ocean limits.ocean;
      lists = sym (ap (λ (g : Grid). g.xgrid) is.limits.whole);
      rows = record {
        few = limits.few_rows;
        land = row_areas grid.xgrid.land_rows limits.land_rows;
        ocean = row_areas grid.xgrid.ocean_rows limits.ocean_rows;
      };
      outlets = record { few = limits.few_outlets; each = outlet_weights grid.xgrid.outlets limits.outlets };
      column = record {
        layers = (limits.column.layers_least, limits.column.layers_most);
        categories = (limits.column.categories_least, limits.column.categories_most);
      };
      rules = no_fault _ (exchange_kept (parts_of_grid grid) is.rules);
    }

pub whole_grid : (returned : Result Grid GridError) → IfOk returned IsCoupledGrid → IfOk returned IsGrid
whole_grid (Ok grid) is = is_grid grid is
whole_grid (Err fault) is = tt

-- each cell of the air has an area above 0
pub air_has_areas : (grid : Grid) → IsCoupledGrid grid → All IsAirArea grid.air.area
air_has_areas grid is =
    let p = parts_of_grid grid in
    let others = mosaic_fault Land p.land then mosaic_fault Ocean p.ocean then exchange_fault p in
    air_areas grid.air.area (mosaic_fault Atmos grid.air) is.limits.limits.air.areas (first_none (air_fault p.air) others is.rules)

pub whole_areas : (returned : Result Grid GridError) → IfOk returned IsCoupledGrid → IfOk returned (λ grid. All IsAirArea grid.air.area)
whole_areas (Ok grid) is = air_has_areas grid is
whole_areas (Err fault) is = tt
