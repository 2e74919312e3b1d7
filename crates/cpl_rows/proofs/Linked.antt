-- What edges of a purpose carry, by the cells at both ends.
use Rattle.std.proofs.Common.{◌≡◌, refl, sym, subst, ℕ, ◌&&◌, Bool, true, false, List, get_or, map, eqb}
use Rattle.std.specs.Prelude.{Some}
use Rattle.std.proofs.lemmas.List.Elements.{All-map}
use Rattle.cpl_fixed.specs.declared.words.Component.{Component}
use Rattle.cpl_fixed.specs.declared.words.Component.TheVariants.{Atmos, Land, Ice, Ocean}
use Rattle.cpl_mosaic.specs.declared.parts.CellId.{CellId}
use Rattle.cpl_mosaic.specs.declared.parts.Tile.{Tile}
use Rattle.cpl_mosaic.specs.Sides.{IsCellOf, is_same_cell}
use Rattle.cpl_mosaic.specs.Cells.{cell_of}
use Rattle.cpl_xgrid.specs.declared.parts.XRow.{XRow}
use Rattle.cpl_xgrid.specs.Grids.{IsGrid}
use Rattle.cpl_xgrid.specs.Groups.{numbers_from}
use Rattle.cpl_xgrid.proofs.CellRefs.{numbers_map}
use Rattle.cpl_state.specs.Slow.{outlets_to}
use Rattle.cpl_wires.specs.declared.parts.Purpose.{Purpose}
use Rattle.cpl_wires.specs.declared.parts.Purpose.TheVariants.{AirHalo, LandToAir, IceToAir, AirToLand, AirToIce, LandToIce, IceToOcean, OceanToIce, OceanHalo, Sums}
use Rattle.cpl_wires.specs.Settings.{Setting, IsSetting, mesh_of, piece_with, component_of}
use Rattle.cpl_wires.specs.Purposes.{giver, receiver}
use Rattle.cpl_wires.specs.Pairs.{some, carried, has_edge, is_between, sea_cells, land_rows_between, ice_rows_between, outlets_between, cells_between}
use Rattle.cpl_wires.specs.Tables.{Pair, ArePairs, row_pair, outlet_pair, same_pair}
use Rattle.cpl_wires.specs.Laws.{IsOf}
use Rattle.cpl_wires.proofs.Members.{component_is}
use Rattle.cpl_wires.proofs.Sharing.{all_back}
use Rattle.cpl_wires.proofs.Celled.{land_pairs, sea_pairs, way_pairs, cell_pairs_are}
use Rattle.cpl_wires.proofs.Grouped.{numbers_same}
use Rattle.cpl_rows.specs.Rows.{items_of_cell, TakesRows}
use Rattle.cpl_rows.specs.Ends.{ends_of, row_back}

-- an exchange cell, outlet or cell lies between two pieces
abbrev pub lies : Setting → (one other : Component) → (from to : ℕ) → Pair → Bool
lies setting one other from to pair = eqb (piece_with setting one pair.0) from && eqb (piece_with setting other pair.1) to

-- the tiles of a component
abbrev pub tiles_at : Setting → Component → List Tile
tiles_at setting component = (mesh_of setting.grid component).mosaic.tiles

-- a purpose whose edges carry numbers, from a component to another
pub record IsLink (setting : Setting) (purpose : Purpose) (one other : Component) : Type 0 where
  pub gives : giver purpose ≡ Some one
  pub takes : receiver purpose ≡ Some other
  pub carries : (from to : ℕ) → carried setting purpose from to ≡ numbers_from (lies setting one other from to) 0 (ends_of setting.grid purpose)
  pub shares : (from to : ℕ) → has_edge setting purpose from to ≡ some (carried setting purpose from to)
  pub inside : ArePairs (tiles_at setting one) (tiles_at setting other) (ends_of setting.grid purpose)

and_swap : (a b : Bool) → (a && b) ≡ (b && a)
and_swap true true = refl
and_swap true false = refl
and_swap false true = refl
and_swap false false = refl

-- the same items, with the ends the other way round
swapped : {T : Type 0} (setting : Setting) (one other : Component) (from to : ℕ) (f : T → Pair) (items : List T)
    → numbers_from (λ item. is_between setting (to, other, (f item).1) (from, one, (f item).0)) 0 items ≡ numbers_from (lies setting one other from to) 0 (map f items)
swapped setting one other from to f items =
    numbers_same (λ item. is_between setting (to, other, (f item).1) (from, one, (f item).0)) (lies setting one other from to) f 0 items
    (λ k d l. and_swap (eqb (piece_with setting other (f (get_or items k d)).1) to) (eqb (piece_with setting one (f (get_or items k d)).0) from))

straight : {T : Type 0} (setting : Setting) (one other : Component) (from to : ℕ) (f : T → Pair) (items : List T)
    → numbers_from (λ item. is_between setting (from, one, (f item).0) (to, other, (f item).1)) 0 items ≡ numbers_from (lies setting one other from to) 0 (map f items)
straight setting one other from to f items =
    numbers_same (λ item. is_between setting (from, one, (f item).0) (to, other, (f item).1)) (lies setting one other from to) f 0 items (λ k d l. refl)

back_pairs : (ones others : List Tile) (rows : List XRow) → ArePairs ones others (map row_pair rows) → ArePairs others ones (map row_back rows)
back_pairs ones others rows are =
    All-map (λ (pair : Pair). IsCellOf others pair.0 × IsCellOf ones pair.1) row_back rows
    (λ k d h. let it = all_back (λ (pair : Pair). IsCellOf ones pair.0 × IsCellOf others pair.1) row_pair rows are k d h in (it.1, it.0))

module _ (setting : Setting) (is : IsSetting setting) (grid : IsGrid setting.grid) where
  pub land_to_air : IsLink setting LandToAir Land Atmos
  unfolding land_rows_between has_edge
  land_to_air = record {
    gives = refl;
    takes = refl;
    carries = λ from to. swapped setting Land Atmos from to row_back setting.grid.xgrid.land_rows;
    shares = λ from to. refl;
    inside = back_pairs _ _ setting.grid.xgrid.land_rows (land_pairs setting.grid grid);
  }

  pub ice_to_air : IsLink setting IceToAir Ice Atmos
  unfolding ice_rows_between has_edge
  ice_to_air = record {
    gives = refl;
    takes = refl;
    carries = λ from to. swapped setting Ice Atmos from to row_back setting.grid.xgrid.ocean_rows;
    shares = λ from to. refl;
    inside = back_pairs _ _ setting.grid.xgrid.ocean_rows (sea_pairs setting.grid grid);
  }

  pub air_to_land : IsLink setting AirToLand Atmos Land
  unfolding land_rows_between has_edge
  air_to_land = record {
    gives = refl;
    takes = refl;
    carries = λ from to. straight setting Atmos Land from to row_pair setting.grid.xgrid.land_rows;
    shares = λ from to. refl;
    inside = land_pairs setting.grid grid;
  }

  pub air_to_ice : IsLink setting AirToIce Atmos Ice
  unfolding ice_rows_between has_edge
  air_to_ice = record {
    gives = refl;
    takes = refl;
    carries = λ from to. straight setting Atmos Ice from to row_pair setting.grid.xgrid.ocean_rows;
    shares = λ from to. refl;
    inside = sea_pairs setting.grid grid;
  }

  pub land_to_ice : IsLink setting LandToIce Land Ice
  unfolding outlets_between has_edge
  land_to_ice = record {
    gives = refl;
    takes = refl;
    carries = λ from to. straight setting Land Ice from to outlet_pair setting.grid.xgrid.outlets;
    shares = λ from to. refl;
    inside = way_pairs setting.grid grid;
  }

  pub ice_to_ocean : IsLink setting IceToOcean Ice Ocean
  unfolding cells_between has_edge
  ice_to_ocean = record {
    gives = refl;
    takes = refl;
    carries = λ from to. straight setting Ice Ocean from to same_pair (sea_cells setting);
    shares = λ from to. refl;
    inside = cell_pairs_are (tiles_at setting Ocean) (is.layouts Ocean).sizes;
  }

  pub ocean_to_ice : IsLink setting OceanToIce Ocean Ice
  unfolding cells_between has_edge
  ocean_to_ice = record {
    gives = refl;
    takes = refl;
    carries = λ from to. swapped setting Ocean Ice from to same_pair (sea_cells setting);
    shares = λ from to. refl;
    inside = cell_pairs_are (tiles_at setting Ocean) (is.layouts Ocean).sizes;
  }

-- THE ITEMS OF A CELL

abbrev pub is_of : CellId → Pair → Bool
is_of cell pair = is_same_cell pair.1 cell

module _ (setting : Setting) where
  rows_back : (rows : List XRow) (cell : CellId) → numbers_from (is_of cell) 0 (map row_back rows) ≡ numbers_from (λ (row : XRow). is_same_cell row.air cell) 0 rows
  rows_back rows cell = numbers_map (is_of cell) row_back 0 rows

  rows_on : (rows : List XRow) (cell : CellId) → numbers_from (is_of cell) 0 (map row_pair rows) ≡ numbers_from (λ (row : XRow). is_same_cell row.other cell) 0 rows
  rows_on rows cell = numbers_map (is_of cell) row_pair 0 rows

  ways_on : (c : ℕ) → numbers_from (is_of (cell_of (tiles_at setting Ice) c)) 0 (map outlet_pair setting.grid.xgrid.outlets) ≡ outlets_to setting.grid c
  unfolding outlets_to
  ways_on c = numbers_map (is_of (cell_of (tiles_at setting Ice) c)) outlet_pair 0 setting.grid.xgrid.outlets

-- A PURPOSE WITH ROWS AND A PIECE THAT TAKES

pub record IsTaker (setting : Setting) (purpose : Purpose) (piece : ℕ) : Type 0 where
  pub one : Component
  pub link : IsLink setting purpose one (component_of setting piece)
  pub items : (c : ℕ) → numbers_from (is_of (cell_of (tiles_at setting (component_of setting piece)) c)) 0 (ends_of setting.grid purpose) ≡ items_of_cell setting.grid purpose c
  pub of : IsOf setting 0 (Some (component_of setting piece)) piece

taker_by : (setting : Setting) (purpose : Purpose) (piece : ℕ) (one other : Component) → IsLink setting purpose one other
    → ((c : ℕ) → numbers_from (is_of (cell_of (tiles_at setting other) c)) 0 (ends_of setting.grid purpose) ≡ items_of_cell setting.grid purpose c)
    → IsOf setting 0 (Some other) piece → IsTaker setting purpose piece
taker_by setting purpose piece one other link items is =
    let same : other ≡ component_of setting piece = sym (component_is setting other piece is.0 is.1) in record {
      one = one;
      link = subst (IsLink setting purpose one) same link;
      items = λ c. subst (λ (own : Component). numbers_from (is_of (cell_of (tiles_at setting own) c)) 0 (ends_of setting.grid purpose) ≡ items_of_cell setting.grid purpose c) same (items c);
      of = subst (λ (own : Component). IsOf setting 0 (Some own) piece) same is;
    }

pub taker_of : (setting : Setting) → IsSetting setting → IsGrid setting.grid → (purpose : Purpose) (piece : ℕ) → TakesRows purpose → IsOf setting 0 (receiver purpose) piece → IsTaker setting purpose piece
taker_of setting is grid LandToAir piece rows of =
    taker_by setting LandToAir piece Land Atmos (land_to_air setting is grid) (λ c. rows_back setting setting.grid.xgrid.land_rows (cell_of (tiles_at setting Atmos) c)) of
taker_of setting is grid IceToAir piece rows of =
    taker_by setting IceToAir piece Ice Atmos (ice_to_air setting is grid) (λ c. rows_back setting setting.grid.xgrid.ocean_rows (cell_of (tiles_at setting Atmos) c)) of
taker_of setting is grid AirToLand piece rows of =
    taker_by setting AirToLand piece Atmos Land (air_to_land setting is grid) (λ c. rows_on setting setting.grid.xgrid.land_rows (cell_of (tiles_at setting Land) c)) of
taker_of setting is grid AirToIce piece rows of =
    taker_by setting AirToIce piece Atmos Ice (air_to_ice setting is grid) (λ c. rows_on setting setting.grid.xgrid.ocean_rows (cell_of (tiles_at setting Ice) c)) of
taker_of setting is grid LandToIce piece rows of = taker_by setting LandToIce piece Land Ice (land_to_ice setting is grid) (ways_on setting) of
taker_of setting is grid AirHalo piece rows of = elim rows [ ]
taker_of setting is grid IceToOcean piece rows of = elim rows [ ]
taker_of setting is grid OceanToIce piece rows of = elim rows [ ]
taker_of setting is grid OceanHalo piece rows of = elim rows [ ]
taker_of setting is grid Sums piece rows of = elim rows [ ]
