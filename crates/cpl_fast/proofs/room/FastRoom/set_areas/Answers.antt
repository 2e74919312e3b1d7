use Rattle.std.proofs.Common.{◌∙◌, sym, ap, subst, arith, length, ℕ, List, ◌≡◌}
use Rattle.std.proofs.lemmas.List.{with_items_is}
use Rattle.cpl_xgrid.specs.declared.parts.Surface.TheVariants.{Land, Ocean}
use Rattle.cpl_laws.specs.Once.{IsNumbered}
use Rattle.cpl_fast.specs.declared.flows.Flow.{Flow}
use Rattle.cpl_fast.specs.Flows.{flow_at}
use Rattle.cpl_fast.specs.Sums.{AreClear, AreStill}
use Rattle.cpl_fast.specs.declared.flows.Tables.{Tables}
use Rattle.cpl_fast.specs.Filled.{AreElementAreas}
use Rattle.cpl_fast.specs.Places.{place_in}
use Rattle.cpl_fast.specs.Rooms.{ArePartAreas, HasTables}
use Rattle.cpl_xgrid.specs.declared.grid.Grid.{Grid}
use Rattle.cpl_xgrid.specs.declared.parts.Surface.{Surface}
use Rattle.cpl_fast.specs.Tables.{CanSumAreas, cells_on}
use Rattle.cpl_state.specs.States.{ocean_cells, part_count}
use Rattle.cpl_fast.proofs.Filling.{ends_by, ends_in}
use Rattle.cpl_fast.proofs.Dividing.{areas_natural, can_sum_cell, land_shares, land_tiles, ocean_shares, ocean_tiles, parts_divided}
use Rattle.cpl_fast.proofs.room.FastRoom.set_areas.Goals as goal

pub sum_land_areas-requires-clause-least : goal.sum_land_areas-requires-clause-least
sum_land_areas-requires-clause-least c =
    let is : IsNumbered c.args.grid.now = record { rules = c.requires.grid; air = c.cells-airs.ensures.numbers; land = c.cells-lands.ensures.numbers; ocean = c.cells-oceans.ensures.numbers } in
    let are = subst (AreElementAreas c.args.grid.now c.args.whole.now Land) (sym c.deref.ensures.value) c.divide_land.ensures.areas in
    areas_natural c.args.grid.now is c.args.whole.now c.requires.whole Land c.deref.result.now are

pub sum_land_areas-requires-clause-can : goal.sum_land_areas-requires-clause-can
sum_land_areas-requires-clause-can c =
    let is : IsNumbered c.args.grid.now = record { rules = c.requires.grid; air = c.cells-airs.ensures.numbers; land = c.cells-lands.ensures.numbers; ocean = c.cells-oceans.ensures.numbers } in
    let are = subst (AreElementAreas c.args.grid.now c.args.whole.now Land) (sym c.deref.ensures.value) c.divide_land.ensures.areas in
    λ n l. can_sum_cell c.args.grid.now is c.args.whole.now c.requires.whole Land c.deref.result.now are n (omega (arith, l, land_tiles c.args.grid.now is c.args.whole.now c.requires.whole))

pub sum_ocean_areas-requires-clause-least : goal.sum_ocean_areas-requires-clause-least
sum_ocean_areas-requires-clause-least c =
    let is : IsNumbered c.args.grid.now = record { rules = c.requires.grid; air = c.cells-airs.ensures.numbers; land = c.cells-lands.ensures.numbers; ocean = c.cells-oceans.ensures.numbers } in
    let are = subst (AreElementAreas c.args.grid.now c.args.whole.now Ocean) (sym c.deref-2.ensures.value) c.divide_ocean.ensures.areas in
    areas_natural c.args.grid.now is c.args.whole.now c.requires.whole Ocean c.deref-2.result.now are

pub sum_ocean_areas-requires-clause-can : goal.sum_ocean_areas-requires-clause-can
sum_ocean_areas-requires-clause-can c =
    let is : IsNumbered c.args.grid.now = record { rules = c.requires.grid; air = c.cells-airs.ensures.numbers; land = c.cells-lands.ensures.numbers; ocean = c.cells-oceans.ensures.numbers } in
    let are = subst (AreElementAreas c.args.grid.now c.args.whole.now Ocean) (sym c.deref-2.ensures.value) c.divide_ocean.ensures.areas in
    λ n l. subst (λ (width : ℕ). CanSumAreas (cells_on c.args.grid.now.xgrid Ocean n) c.deref-2.result.now (length c.args.grid.now.xgrid.ocean_rows) width) (sym c.divide_ocean.ensures.tables.width)
    (can_sum_cell c.args.grid.now is c.args.whole.now c.requires.whole Ocean c.deref-2.result.now are n (omega (arith, l, ocean_tiles c.args.grid.now is c.args.whole.now c.requires.whole)))

-- nothing flows by other tables of the grid either
still_by : (grid : Grid) (list : Surface) (old new : Tables) (flows : List Flow) → HasTables grid list old → HasTables grid list new → AreStill old flows → AreStill new flows
still_by grid list old new flows was has still row l k h =
    let rows : length old.links.items ≡ length new.links.items = was.links.count ∙ sym has.links.count in
    let width = was.width ∙ sym has.width in
    ap (λ (r : ℕ). flow_at flows (place_in r row k)) (sym rows) ∙ still row (omega (arith, l, rows)) k (omega (arith, h, width))

pub list_still-requires-clause-clear : goal.list_still-requires-clause-clear
list_still-requires-clause-clear c = subst (AreClear c.args.self.now.land) (sym c.deref_mut.ensures.value) c.requires.room.land_clear

pub list_still-requires-2-clause-clear : goal.list_still-requires-2-clause-clear
list_still-requires-2-clause-clear c = subst (AreClear c.args.self.now.ocean) (sym c.deref_mut-2.ensures.value) c.requires.room.ocean_clear

pub returns : goal.returns
returns c =
    let grid = c.args.grid.now in
    let whole = c.args.whole.now in
    let is : IsNumbered c.args.grid.now = record { rules = c.requires.grid; air = c.cells-airs.ensures.numbers; land = c.cells-lands.ensures.numbers; ocean = c.cells-oceans.ensures.numbers } in
    let land_are = subst (AreElementAreas c.args.grid.now c.args.whole.now Land) (sym c.deref.ensures.value) c.divide_land.ensures.areas in
    let ocean_are = subst (AreElementAreas c.args.grid.now c.args.whole.now Ocean) (sym c.deref-2.ensures.value) c.divide_ocean.ensures.areas in
    let land_gone = with_items_is c.args.self.now.land_area c.sum_land_areas.new.sums (omega (arith, c.deref_mut-3.ensures.len, c.sum_land_areas.ensures.count)) in
    let ocean_gone = with_items_is c.args.self.now.ocean_area c.sum_ocean_areas.new.sums (omega (arith, c.deref_mut-4.ensures.len, c.sum_ocean_areas.ensures.count)) in
    let used_gone = with_items_is c.args.self.now.ocean_used c.sum_ocean_areas.new.used (omega (arith, c.deref_mut-5.ensures.len, c.sum_ocean_areas.auto.used)) in
    let land_left = with_items_is c.args.self.now.land_flows c.list_still.new.flows (omega (arith, c.deref_mut.ensures.len, c.list_still.auto.flows)) in
    let ocean_left = with_items_is c.args.self.now.ocean_flows c.list_still-2.new.flows (omega (arith, c.deref_mut-2.ensures.len, c.list_still-2.auto.flows)) in
    let land_long = c.list_still.auto.flows ∙ ap length c.deref_mut.ensures.value ∙ c.requires.room.land_flows in
    let ocean_long = c.list_still-2.auto.flows ∙ ap length c.deref_mut-2.ensures.value ∙ c.requires.room.ocean_flows in
    let land_count = c.sum_land_areas.ensures.count ∙ ap length c.deref_mut-3.ensures.value ∙ c.requires.room.land_area in
    let ocean_count = c.sum_ocean_areas.ensures.count ∙ ap length c.deref_mut-4.ensures.value ∙ c.requires.room.ocean_area in
    let land_parts = parts_divided grid is whole c.requires.whole Land c.deref.result.now land_are c.sum_land_areas.new.sums (omega (arith, land_count))
    (land_shares grid is whole c.requires.whole c.deref.result.now c.sum_land_areas.new.sums c.sum_land_areas.ensures.value) in
    let ocean_parts = parts_divided grid is whole c.requires.whole Ocean c.deref-2.result.now ocean_are c.sum_ocean_areas.new.sums ocean_count
    (ocean_shares grid is whole c.requires.whole c.deref-2.result.now c.sum_ocean_areas.new.sums c.cells-oceans.result c.divide_ocean.new.self.width c.cells-oceans.ensures.count c.divide_ocean.ensures.tables.width c.sum_ocean_areas.ensures.value) in
    let land_still = subst (AreStill c.divide_land.new.self) (sym land_left) (still_by grid Land c.args.self.now.land c.divide_land.new.self c.list_still.new.flows c.requires.room.land c.divide_land.ensures.tables c.list_still.ensures) in
    let ocean_still = subst (AreStill c.divide_ocean.new.self) (sym ocean_left) (still_by grid Ocean c.args.self.now.ocean c.divide_ocean.new.self c.list_still-2.new.flows c.requires.room.ocean c.divide_ocean.ensures.tables c.list_still-2.ensures) in
    record {
      room = record {
        room = record {
          ways = c.requires.room.ways;
          diffusion = c.requires.room.diffusion;
          land = c.divide_land.ensures.tables;
          ocean = c.divide_ocean.ensures.tables;
          land_area = ap length land_gone ∙ land_count;
          ocean_area = ap length ocean_gone ∙ ocean_count;
          ocean_used = ends_in _ c.sum_ocean_areas.new.sums _ c.sum_ocean_areas.new.used (ocean_cells grid) (part_count grid) ocean_gone used_gone
              (ends_by c.sum_ocean_areas.new.sums c.sum_ocean_areas.new.used c.cells-oceans.result (ocean_cells grid) c.divide_ocean.new.self.width (part_count grid) c.cells-oceans.ensures.count c.divide_ocean.ensures.tables.width c.sum_ocean_areas.ensures.used);
          land_flows = ap length land_left ∙ land_long;
          ocean_flows = ap length ocean_left ∙ ocean_long;
          skies = c.requires.room.skies;
          rain = c.requires.room.rain;
          air_heat = c.requires.room.air_heat;
          air_vapour = c.requires.room.air_vapour;
          land_clear = λ row l k h empty. land_still row l k h;
          ocean_clear = λ row l k h empty. ocean_still row l k h;
        };
        land = land_still;
        ocean = ocean_still;
      };
      areas = record {
        land = c.divide_land.ensures.areas;
        ocean = c.divide_ocean.ensures.areas;
        land_area = subst (ArePartAreas grid whole Land) (sym land_gone) land_parts;
        ocean_area = subst (ArePartAreas grid whole Ocean) (sym ocean_gone) ocean_parts;
      };
    }
