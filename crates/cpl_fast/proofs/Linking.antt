-- The rows of a grid can be linked, the land list first.
use Rattle.std.proofs.Common.{◌≡◌, ◌∙◌, ap, ℕ, ◌<◌, arith, List, ◌++◌, length, take, drop, replicate}
use Rattle.std.proofs.Math.Seq.{take-append_seam}
use Rattle.std.specs.Prelude.{ℤ, pos, ◌≤ℤ◌}
use Rattle.std.proofs.lemmas.Int.{ints}
use Rattle.std.proofs.lemmas.List.{take_all, get_or-replicate}
use Rattle.cpl_fixed.specs.Amounts.{at}
use Rattle.cpl_fixed.specs.declared.limits.TheConstants.{MOST_AREA}
use Rattle.cpl_mosaic.specs.Cells.{cell_of}
use Rattle.cpl_mosaic.specs.Sides.{is_same_cell}
use Rattle.cpl_xgrid.specs.declared.grid.Grid.{Grid}
use Rattle.cpl_xgrid.specs.declared.parts.XRow.{XRow}
use Rattle.cpl_xgrid.specs.declared.parts.Surface.TheVariants.{Land, Ocean}
use Rattle.cpl_xgrid.specs.Rows.{air_cell, area_of}
use Rattle.cpl_state.specs.States.{air_cells}
use Rattle.cpl_state.specs.Elements.{air_number, surface_number}
use Rattle.cpl_laws.specs.Once.{IsNumbered}
use Rattle.cpl_laws.proofs.Rows.{air_cells_are, other_cells_are}
use Rattle.cpl_laws.proofs.Elements.{air_area, air_below, air_found}
use Rattle.cpl_laws.proofs.Weights.{measured_all}
use Rattle.cpl_fast.specs.declared.flows.Link.{Link}
use Rattle.cpl_fast.specs.Tables.{AreLinked, AreLinks, CanLink}

module _ (grid : Grid) (is : IsNumbered grid) where
  area_most : (c : ℕ) → c < air_cells grid → at grid.air.area c ≤ℤ pos MOST_AREA
  area_most c l = (is.rules.air.each c (pos 0) (let e = is.rules.air.count in omega arith)).1

  oceans_natural : (c : ℕ) → pos 0 ≤ℤ area_of air_cell (cell_of grid.air.mosaic.tiles c) grid.xgrid.ocean_rows
  oceans_natural c = measured_all (λ (row : XRow). is_same_cell (air_cell row) (cell_of grid.air.mosaic.tiles c)) (λ (row : XRow). row.area) grid.xgrid.ocean_rows (λ k d h. (is.rules.rows.ocean k d h).0)

  lands_natural : (c : ℕ) → pos 0 ≤ℤ area_of air_cell (cell_of grid.air.mosaic.tiles c) grid.xgrid.land_rows
  lands_natural c = measured_all (λ (row : XRow). is_same_cell (air_cell row) (cell_of grid.air.mosaic.tiles c)) (λ (row : XRow). row.area) grid.xgrid.land_rows (λ k d h. (is.rules.rows.land k d h).0)

  -- before any row
  pub can_land : (areas : List ℤ) → length areas ≡ air_cells grid → ((c : ℕ) → c < air_cells grid → at areas c ≡ pos 0) → CanLink grid.air.mosaic.tiles grid.land.mosaic.tiles grid.xgrid.land_rows areas
  can_land areas count none = record {
    airs = air_cells_are grid is.rules Land;
    others = other_cells_are grid is.rules Land;
    ranges = is.rules.rows.land;
    cells = count;
    least = λ c l. let e = none c l in omega (arith, ints, e);
    most = λ c l. let e = none c l in let all = air_area grid is c l in let most = area_most c l in let rest = oceans_natural c in omega (arith, ints, e, all, most, rest);
  }

  -- behind the rows of the land list
  after_land : (areas now : List ℤ) → ((c : ℕ) → c < air_cells grid → at areas c ≡ pos 0) → (links : List Link)
      → AreLinked grid.air.mosaic.tiles grid.land.mosaic.tiles grid.xgrid.land_rows (length grid.xgrid.land_rows) areas links now
      → (c : ℕ) → c < air_cells grid → at now c ≡ area_of air_cell (cell_of grid.air.mosaic.tiles c) grid.xgrid.land_rows
  after_land areas now none links are c l =
      let e = none c l in
      let own = are.areas c l in
      let all = ap (area_of air_cell (cell_of grid.air.mosaic.tiles c)) (take_all (length grid.xgrid.land_rows) grid.xgrid.land_rows (omega arith)) in
      omega (arith, ints, e, own, all)

  pub can_ocean : (areas now : List ℤ) → length areas ≡ air_cells grid → ((c : ℕ) → c < air_cells grid → at areas c ≡ pos 0) → (links : List Link)
      → AreLinked grid.air.mosaic.tiles grid.land.mosaic.tiles grid.xgrid.land_rows (length grid.xgrid.land_rows) areas links now
      → CanLink grid.air.mosaic.tiles grid.ocean.mosaic.tiles grid.xgrid.ocean_rows now
  can_ocean areas now count none links are = record {
    airs = air_cells_are grid is.rules Ocean;
    others = other_cells_are grid is.rules Ocean;
    ranges = is.rules.rows.ocean;
    cells = are.cells ∙ count;
    least = λ c l. let e = after_land areas now none links are c l in let own = lands_natural c in omega (arith, ints, e, own);
    most = λ c l. let e = after_land areas now none links are c l in let all = air_area grid is c l in let most = area_most c l in omega (arith, ints, e, all, most);
  }

  -- the links are the grid's
  pub land_links : (areas now : List ℤ) → ((c : ℕ) → c < air_cells grid → at areas c ≡ pos 0) → (links : List Link)
      → AreLinked grid.air.mosaic.tiles grid.land.mosaic.tiles grid.xgrid.land_rows (length grid.xgrid.land_rows) areas links now → AreLinks grid Land links
  unfolding air_number surface_number
  land_links areas now none links are = record {
    count = are.count;
    each = λ m l. (let e = are.each m l in let zero_start = none (air_number grid (record { list = Land; row = m })) (air_below grid is Land m l) in record {
      air = ap (λ (link : Link). link.air) e;
      surface = ap (λ (link : Link). link.surface) e;
      before = (let b = ap (λ (link : Link). link.before) e in omega (arith, ints, b, zero_start));
    });
  }

  pub ocean_links : (areas now last : List ℤ) → ((c : ℕ) → c < air_cells grid → at areas c ≡ pos 0) → (links others : List Link)
      → AreLinked grid.air.mosaic.tiles grid.land.mosaic.tiles grid.xgrid.land_rows (length grid.xgrid.land_rows) areas links now
      → AreLinked grid.air.mosaic.tiles grid.ocean.mosaic.tiles grid.xgrid.ocean_rows (length grid.xgrid.ocean_rows) now others last → AreLinks grid Ocean others
  unfolding air_number surface_number
  ocean_links areas now last none links others lands are = record {
    count = are.count;
    each = λ m l. (
        let e = are.each m l in
        let n = air_number grid (record { list = Ocean; row = m }) in
        let start = after_land areas now none links lands n (air_below grid is Ocean m l) in
        let found = ap (λ c. area_of air_cell c grid.xgrid.land_rows) (air_found grid is Ocean m l) in
        record {
          air = ap (λ (link : Link). link.air) e;
          surface = ap (λ (link : Link). link.surface) e;
          before = (let b = ap (λ (link : Link). link.before) e in omega (arith, ints, b, start, found));
        });
  }

-- nothing has been counted yet
pub zeros : (n c : ℕ) → c < n → at (replicate n (pos 0)) c ≡ pos 0
zeros n c l = get_or-replicate n c (pos 0) (pos 0) l

-- what was lent to a loop is given back whole
pub given_back : (len : ℕ) (new old : List ℤ) → length new ≡ length old → len ≡ length old → take len (new ++ drop (length new) old) ≡ new
given_back len new old same e =
    let all : len ≡ length new = omega arith in
    ap (λ (n : ℕ). take n (new ++ drop (length new) old)) all ∙ take-append_seam new (drop (length new) old)
