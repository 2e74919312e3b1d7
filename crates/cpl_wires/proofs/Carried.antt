-- What edges carry: how many exchange cells, outlets or cells there are at most, and that there is an edge where there are some.
use Rattle.std.proofs.Common.{◌≡◌, refl, ℕ, ◌≤◌, arith, length}
use Rattle.std.proofs.lemmas.List.FromFn.{length-map-range_with_len}
use Rattle.cpl_fixed.specs.declared.limits.TheConstants.{MOST_EXCHANGE_CELLS}
use Rattle.cpl_fixed.specs.declared.words.Component.TheVariants.{Atmos, Land, Ice, Ocean}
use Rattle.cpl_mosaic.specs.declared.parts.CellId.{CellId}
use Rattle.cpl_mosaic.specs.Contacts.{cells_of}
use Rattle.cpl_mosaic.specs.Cells.{cell_of}
use Rattle.cpl_xgrid.specs.declared.parts.XRow.{XRow}
use Rattle.cpl_xgrid.specs.declared.parts.Outlet.{Outlet}
use Rattle.cpl_xgrid.specs.Grids.{IsGrid}
use Rattle.cpl_wires.specs.declared.parts.Purpose.{Purpose}
use Rattle.cpl_wires.specs.declared.parts.Purpose.TheVariants.{AirHalo, LandToAir, IceToAir, AirToLand, AirToIce, LandToIce, IceToOcean, OceanToIce, OceanHalo, Sums}
use Rattle.cpl_wires.specs.Settings.{Setting, IsSetting, layout_of}
use Rattle.cpl_wires.specs.Pairs.{some, carried, has_edge, is_between, sea_cells, land_rows_between, ice_rows_between, outlets_between, cells_between}
use Rattle.cpl_wires.proofs.Numbers.{numbers_few}

module _ (setting : Setting) (is : IsSetting setting) (grid : IsGrid setting.grid) where
  land_few : (air land : ℕ) → length (land_rows_between setting air land) ≤ MOST_EXCHANGE_CELLS
  unfolding land_rows_between
  land_few air land =
      let few = numbers_few (λ (row : XRow). is_between setting (air, Atmos, row.air) (land, Land, row.other)) 0 setting.grid.xgrid.land_rows in
      let all = grid.rows.few in omega arith

  ice_few : (air ice : ℕ) → length (ice_rows_between setting air ice) ≤ MOST_EXCHANGE_CELLS
  unfolding ice_rows_between
  ice_few air ice =
      let few = numbers_few (λ (row : XRow). is_between setting (air, Atmos, row.air) (ice, Ice, row.other)) 0 setting.grid.xgrid.ocean_rows in
      let all = grid.rows.few in omega arith

  outlets_few : (land ice : ℕ) → length (outlets_between setting land ice) ≤ MOST_EXCHANGE_CELLS
  unfolding outlets_between
  outlets_few land ice =
      let few = numbers_few (λ (outlet : Outlet). is_between setting (land, Land, outlet.land) (ice, Ice, outlet.ocean)) 0 setting.grid.xgrid.outlets in
      let all = grid.outlets.few in omega arith

  cells_few : (ice ocean : ℕ) → length (cells_between setting ice ocean) ≤ MOST_EXCHANGE_CELLS
  unfolding cells_between
  cells_few ice ocean =
      let tiles = (layout_of setting Ocean).tiles in
      let few = numbers_few (λ (cell : CellId). is_between setting (ice, Ice, cell) (ocean, Ocean, cell)) 0 (sea_cells setting) in
      let long : length (sea_cells setting) ≡ cells_of tiles = length-map-range_with_len (cell_of tiles) 0 (cells_of tiles) in
      let all = (is.layouts Ocean).sizes.cells in omega arith

  pub carried_few : (purpose : Purpose) (from to : ℕ) → length (carried setting purpose from to) ≤ MOST_EXCHANGE_CELLS
  carried_few AirHalo from to = omega arith
  carried_few LandToAir from to = land_few to from
  carried_few IceToAir from to = ice_few to from
  carried_few AirToLand from to = land_few from to
  carried_few AirToIce from to = ice_few from to
  carried_few LandToIce from to = outlets_few from to
  carried_few IceToOcean from to = cells_few from to
  carried_few OceanToIce from to = cells_few to from
  carried_few OceanHalo from to = omega arith
  carried_few Sums from to = omega arith

-- there is an edge where it carries something, but for halos and sums
pub edge_carries : (setting : Setting) (purpose : Purpose) (from to : ℕ) → (purpose ≡ AirHalo → ⊥) → (purpose ≡ OceanHalo → ⊥) → (purpose ≡ Sums → ⊥)
    → has_edge setting purpose from to ≡ some (carried setting purpose from to)
unfolding has_edge
edge_carries setting AirHalo from to a b c = absurd (a refl)
edge_carries setting LandToAir from to a b c = refl
edge_carries setting IceToAir from to a b c = refl
edge_carries setting AirToLand from to a b c = refl
edge_carries setting AirToIce from to a b c = refl
edge_carries setting LandToIce from to a b c = refl
edge_carries setting IceToOcean from to a b c = refl
edge_carries setting OceanToIce from to a b c = refl
edge_carries setting OceanHalo from to a b c = absurd (b refl)
edge_carries setting Sums from to a b c = absurd (c refl)
