use Rattle.std.proofs.Common.{◌≡◌, ◌∙◌, sym, ap, subst, arith, ℕ, ◌<◌, List, length, replicate}
use Rattle.std.specs.Prelude.{ℤ, pos}
use Rattle.std.proofs.lemmas.List.{length-replicate}
use Rattle.cpl_fixed.specs.Amounts.{at}
use Rattle.cpl_mosaic.specs.declared.parts.Tile.{Tile}
use Rattle.cpl_xgrid.specs.declared.parts.XRow.{XRow}
use Rattle.cpl_state.specs.States.{air_cells}
use Rattle.cpl_laws.specs.Once.{IsNumbered}
use Rattle.cpl_fast.specs.declared.flows.Link.{Link}
use Rattle.cpl_fast.specs.Tables.{AreLinked, CanLink}
use Rattle.cpl_fast.proofs.Linking.{can_land, can_ocean, land_links, ocean_links, zeros, given_back}
use Rattle.cpl_fast.proofs.tables.links_of.Goals as goal

-- a list of as many zeros
zero_at : (cells : ℕ) (items now : List ℤ) → items ≡ replicate cells (pos 0) → now ≡ items → (c : ℕ) → c < cells → at now c ≡ pos 0
zero_at cells items now made lent c l = ap (λ (xs : List ℤ). at xs c) (lent ∙ made) ∙ zeros cells c l

long : (cells : ℕ) (items now : List ℤ) → items ≡ replicate cells (pos 0) → now ≡ items → length now ≡ cells
long cells items now made lent = ap length (lent ∙ made) ∙ length-replicate cells (pos 0)

-- the rows that were read are the grid's
linked_by : (air tiles : List Tile) (rows own : List XRow) (old now : List ℤ) (links : List Link) → rows ≡ own → AreLinked air tiles rows (length rows) old links now → AreLinked air tiles own (length own) old links now
linked_by air tiles rows own old now links e are = subst (λ (r : List XRow). AreLinked air tiles r (length r) old links now) e are

pub list_links-requires : goal.list_links-requires
list_links-requires c =
    let is : IsNumbered c.args.grid.now = record { rules = c.requires; air = c.cells-cells.ensures.numbers; land = c.cells-land_cells.ensures.numbers; ocean = c.cells-ocean_cells.ensures.numbers } in
    let grid = c.args.grid.now in
    let now = c.deref_mut.result.now in
    let made = c.in_ok-areas.ensures.items_if_clones_equal (λ y q. q) in
    let count = long c.cells-cells.result c.in_ok-areas.areas.items now made c.deref_mut.ensures.value ∙ c.cells-cells.ensures.count in
    subst (λ (rows : List XRow). CanLink grid.air.mosaic.tiles grid.land.mosaic.tiles rows now) (sym c.rows-rows.ensures)
    (can_land grid is now count (λ n l. zero_at c.cells-cells.result c.in_ok-areas.areas.items now made c.deref_mut.ensures.value n (omega (arith, c.cells-cells.ensures.count))))

pub list_links-requires-2 : goal.list_links-requires-2
list_links-requires-2 c =
    let is : IsNumbered c.args.grid.now = record { rules = c.requires; air = c.cells-cells.ensures.numbers; land = c.cells-land_cells.ensures.numbers; ocean = c.cells-ocean_cells.ensures.numbers } in
    let grid = c.args.grid.now in
    let now = c.deref_mut.result.now in
    let made = c.in_ok-areas.ensures.items_if_clones_equal (λ y q. q) in
    let own = long c.cells-cells.result c.in_ok-areas.areas.items now made c.deref_mut.ensures.value in
    let none = λ (n : ℕ) (l : n < air_cells grid). zero_at c.cells-cells.result c.in_ok-areas.areas.items now made c.deref_mut.ensures.value n (omega (arith, c.cells-cells.ensures.count)) in
    let lands = linked_by grid.air.mosaic.tiles grid.land.mosaic.tiles c.rows-rows.result.now grid.xgrid.land_rows now c.list_links.new.areas c.in_ok-land.land.items c.rows-rows.ensures c.in_ok-land.ensures in
    let size = ap length (sym c.deref_mut.ensures.value) in
    let back = c.deref_mut-2.ensures.value ∙ given_back c.in_ok-areas.areas.len c.list_links.new.areas c.in_ok-areas.areas.items (lands.cells ∙ sym size) (c.in_ok-areas.ensures.len ∙ sym own ∙ sym size) in
    subst (λ (rows : List XRow). CanLink grid.air.mosaic.tiles grid.ocean.mosaic.tiles rows c.deref_mut-2.result.now) (sym c.rows-rows-2.ensures)
    (subst (λ (areas : List ℤ). CanLink grid.air.mosaic.tiles grid.ocean.mosaic.tiles grid.xgrid.ocean_rows areas) (sym back)
    (can_ocean grid is now c.list_links.new.areas (own ∙ c.cells-cells.ensures.count) none c.in_ok-land.land.items lands))

pub returns-clause-land : goal.returns-clause-land
returns-clause-land c =
    let is : IsNumbered c.args.grid.now = record { rules = c.requires; air = c.cells-cells.ensures.numbers; land = c.cells-land_cells.ensures.numbers; ocean = c.cells-ocean_cells.ensures.numbers } in
    let grid = c.args.grid.now in
    let now = c.deref_mut.result.now in
    let made = c.in_ok-areas.ensures.items_if_clones_equal (λ y q. q) in
    let none = λ (n : ℕ) (l : n < air_cells grid). zero_at c.cells-cells.result c.in_ok-areas.areas.items now made c.deref_mut.ensures.value n (omega (arith, c.cells-cells.ensures.count)) in
    let lands = linked_by grid.air.mosaic.tiles grid.land.mosaic.tiles c.rows-rows.result.now grid.xgrid.land_rows now c.list_links.new.areas c.in_ok-land.land.items c.rows-rows.ensures c.in_ok-land.ensures in
    land_links grid is now c.list_links.new.areas none c.in_ok-land.land.items lands

pub returns-clause-ocean : goal.returns-clause-ocean
returns-clause-ocean c =
    let is : IsNumbered c.args.grid.now = record { rules = c.requires; air = c.cells-cells.ensures.numbers; land = c.cells-land_cells.ensures.numbers; ocean = c.cells-ocean_cells.ensures.numbers } in
    let grid = c.args.grid.now in
    let now = c.deref_mut.result.now in
    let made = c.in_ok-areas.ensures.items_if_clones_equal (λ y q. q) in
    let own = long c.cells-cells.result c.in_ok-areas.areas.items now made c.deref_mut.ensures.value in
    let none = λ (n : ℕ) (l : n < air_cells grid). zero_at c.cells-cells.result c.in_ok-areas.areas.items now made c.deref_mut.ensures.value n (omega (arith, c.cells-cells.ensures.count)) in
    let lands = linked_by grid.air.mosaic.tiles grid.land.mosaic.tiles c.rows-rows.result.now grid.xgrid.land_rows now c.list_links.new.areas c.in_ok-land.land.items c.rows-rows.ensures c.in_ok-land.ensures in
    let size = ap length (sym c.deref_mut.ensures.value) in
    let back = c.deref_mut-2.ensures.value ∙ given_back c.in_ok-areas.areas.len c.list_links.new.areas c.in_ok-areas.areas.items (lands.cells ∙ sym size) (c.in_ok-areas.ensures.len ∙ sym own ∙ sym size) in
    let oceans = linked_by grid.air.mosaic.tiles grid.ocean.mosaic.tiles c.rows-rows-2.result.now grid.xgrid.ocean_rows c.deref_mut-2.result.now c.list_links-2.new.areas c.in_ok-ocean.ocean.items c.rows-rows-2.ensures c.in_ok-ocean.ensures in
    ocean_links grid is now c.list_links.new.areas c.list_links-2.new.areas none c.in_ok-land.land.items c.in_ok-ocean.ocean.items lands
    (subst (λ (areas : List ℤ). AreLinked grid.air.mosaic.tiles grid.ocean.mosaic.tiles grid.xgrid.ocean_rows (length grid.xgrid.ocean_rows) areas c.in_ok-ocean.ocean.items c.list_links-2.new.areas) back oceans)
