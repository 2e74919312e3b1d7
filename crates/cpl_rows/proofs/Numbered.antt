-- The numbers of the cells that exchange cells, outlets and cells are of.
use Rattle.std.proofs.Common.{◌≡◌, ◌∙◌, refl, ap, ℕ, ◌<◌, arith, List, [], length, get_or, map, inl, inr, ◌⊎◌}
use Rattle.std.proofs.lemmas.List.{get_or-map, length-map}
use Rattle.std.proofs.lemmas.List.FromFn.{length-map-range_with_len, get_or-map-range_with_len}
use Rattle.cpl_fixed.specs.declared.words.Component.{Component}
use Rattle.cpl_fixed.specs.declared.words.Component.TheVariants.{Atmos, Land, Ice, Ocean}
use Rattle.cpl_mosaic.specs.declared.parts.CellId.{CellId}
use Rattle.cpl_mosaic.specs.Contacts.{cells_of}
use Rattle.cpl_mosaic.specs.Cells.{cell_of, number_of}
use Rattle.cpl_mosaic.proofs.Numbers.{numbers_agree}
use Rattle.cpl_xgrid.specs.Grids.{IsGrid}
use Rattle.cpl_xgrid.specs.Indexes.{no_row}
use Rattle.cpl_state.specs.Elements.{air_number, surface_number}
use Rattle.cpl_state.specs.Slow.{drained_cell, no_outlet}
use Rattle.cpl_wires.specs.declared.parts.Purpose.{Purpose}
use Rattle.cpl_wires.specs.declared.parts.Purpose.TheVariants.{AirHalo, LandToAir, IceToAir, AirToLand, AirToIce, LandToIce, IceToOcean, OceanToIce, OceanHalo, Sums}
use Rattle.cpl_wires.specs.Settings.{Setting, IsSetting}
use Rattle.cpl_wires.specs.Pairs.{carried, sea_cells}
use Rattle.cpl_wires.specs.Tables.{Pair, row_pair, outlet_pair, same_pair}
use Rattle.cpl_rows.specs.declared.ends.End.{End}
use Rattle.cpl_rows.specs.declared.ends.End.TheVariants.{From, To}
use Rattle.cpl_rows.specs.Rows.{giver_cell, CarriesCells}
use Rattle.cpl_rows.specs.Ends.{ends_of, end_of, cell_by, no_cell, row_back}
use Rattle.cpl_rows.proofs.Linked.{IsLink, tiles_at, land_to_air, ice_to_air, air_to_land, air_to_ice, land_to_ice, ice_to_ocean, ocean_to_ice}

-- a cell at an end, of an item
end_read : {T : Type 0} (f : T → Pair) (items : List T) (end : End) (k : ℕ) (d : T) → k < length (map f items) → get_or (map (end_of end) (map f items)) k no_cell ≡ end_of end (f (get_or items k d))
end_read f items end k d l =
    let long = length-map items f in
    get_or-map (end_of end) (map f items) k (f d) no_cell l ∙ ap (end_of end) (get_or-map f items k d (f d) (omega arith))

either : (end : End) (cell : CellId) → end_of end (same_pair cell) ≡ cell
either From cell = refl
either To cell = refl

module _ (setting : Setting) (is : IsSetting setting) (grid : IsGrid setting.grid) where
  land_item : (item : ℕ) → item < length (ends_of setting.grid LandToAir) → number_of (tiles_at setting Land) (cell_by setting.grid LandToAir From item) ≡ giver_cell setting.grid LandToAir item
  unfolding surface_number
  land_item item l = ap (number_of (tiles_at setting Land)) (end_read row_back setting.grid.xgrid.land_rows From item no_row l)

  ice_item : (item : ℕ) → item < length (ends_of setting.grid IceToAir) → number_of (tiles_at setting Ice) (cell_by setting.grid IceToAir From item) ≡ giver_cell setting.grid IceToAir item
  unfolding surface_number
  ice_item item l = ap (number_of (tiles_at setting Ice)) (end_read row_back setting.grid.xgrid.ocean_rows From item no_row l)

  air_item : (item : ℕ) → item < length (ends_of setting.grid AirToLand) → number_of (tiles_at setting Atmos) (cell_by setting.grid AirToLand From item) ≡ giver_cell setting.grid AirToLand item
  unfolding air_number
  air_item item l = ap (number_of (tiles_at setting Atmos)) (end_read row_pair setting.grid.xgrid.land_rows From item no_row l)

  sky_item : (item : ℕ) → item < length (ends_of setting.grid AirToIce) → number_of (tiles_at setting Atmos) (cell_by setting.grid AirToIce From item) ≡ giver_cell setting.grid AirToIce item
  unfolding air_number
  sky_item item l = ap (number_of (tiles_at setting Atmos)) (end_read row_pair setting.grid.xgrid.ocean_rows From item no_row l)

  way_item : (item : ℕ) → item < length (ends_of setting.grid LandToIce) → number_of (tiles_at setting Land) (cell_by setting.grid LandToIce From item) ≡ giver_cell setting.grid LandToIce item
  unfolding drained_cell
  way_item item l = ap (number_of (tiles_at setting Land)) (end_read outlet_pair setting.grid.xgrid.outlets From item no_outlet l)

  sea_item : (end : End) (item : ℕ) → item < length (map same_pair (sea_cells setting)) → number_of (tiles_at setting Ocean) (get_or (map (end_of end) (map same_pair (sea_cells setting))) item no_cell) ≡ item
  sea_item end item l =
      let tiles = tiles_at setting Ocean in
      let long = length-map (sea_cells setting) same_pair in
      let all = length-map-range_with_len (cell_of tiles) 0 (cells_of tiles) in
      let below : item < cells_of tiles = omega arith in
      let end_is : end_of end (same_pair (get_or (sea_cells setting) item no_cell)) ≡ get_or (sea_cells setting) item no_cell = either end (get_or (sea_cells setting) item no_cell) in
      let here : get_or (sea_cells setting) item no_cell ≡ cell_of tiles item = get_or-map-range_with_len (cell_of tiles) 0 (cells_of tiles) item item no_cell below (omega arith) in
      ap (number_of tiles) (end_read same_pair (sea_cells setting) end item no_cell l ∙ end_is ∙ here) ∙ (numbers_agree tiles (is.layouts Ocean).sizes).number_cell item below

  pub record IsGiver (purpose : Purpose) : Type 0 where
    pub one : Component
    pub other : Component
    pub link : IsLink setting purpose one other
    pub numbers : (item : ℕ) → item < length (ends_of setting.grid purpose) → number_of (tiles_at setting one) (cell_by setting.grid purpose From item) ≡ giver_cell setting.grid purpose item
    pub taken : CarriesCells purpose → (item : ℕ) → item < length (ends_of setting.grid purpose) → number_of (tiles_at setting other) (cell_by setting.grid purpose To item) ≡ item

  -- edges of a purpose carry nothing, or lead from a component
  pub giver_of : (purpose : Purpose) → IsGiver purpose ⊎ ((from to : ℕ) → carried setting purpose from to ≡ [])
  giver_of AirHalo = inr (λ from to. refl)
  giver_of LandToAir = inl (record { one = Land; other = Atmos; link = land_to_air setting is grid; numbers = land_item; taken = λ cells. elim cells [ ] })
  giver_of IceToAir = inl (record { one = Ice; other = Atmos; link = ice_to_air setting is grid; numbers = ice_item; taken = λ cells. elim cells [ ] })
  giver_of AirToLand = inl (record { one = Atmos; other = Land; link = air_to_land setting is grid; numbers = air_item; taken = λ cells. elim cells [ ] })
  giver_of AirToIce = inl (record { one = Atmos; other = Ice; link = air_to_ice setting is grid; numbers = sky_item; taken = λ cells. elim cells [ ] })
  giver_of LandToIce = inl (record { one = Land; other = Ice; link = land_to_ice setting is grid; numbers = way_item; taken = λ cells. elim cells [ ] })
  giver_of IceToOcean = inl (record { one = Ice; other = Ocean; link = ice_to_ocean setting is grid; numbers = sea_item From; taken = λ cells. sea_item To })
  giver_of OceanToIce = inl (record { one = Ocean; other = Ice; link = ocean_to_ice setting is grid; numbers = sea_item From; taken = λ cells. sea_item To })
  giver_of OceanHalo = inr (λ from to. refl)
  giver_of Sums = inr (λ from to. refl)
