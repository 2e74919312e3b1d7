use Rattle.std.proofs.Common.{◌≡◌, ◌∙◌, sym, subst, ap, ◌+◌, ◌*◌, ◌<◌, arith, ℕ, length, List, w64, to_z, of_z}
use Rattle.std.specs.Prelude.{ℤ, pos, ◌≤ℤ◌, ◌+ℤ◌, slice_index_or, slice_set}
use Rattle.std.proofs.lemmas.Int.{ints}
use Rattle.std.proofs.lemmas.List.{get_or_read}
use Rattle.cpl_fixed.specs.Amounts.{at}
use Rattle.cpl_fixed.specs.Ranges.{IsFromℤ}
use Rattle.cpl_fixed.specs.declared.limits.TheConstants.{MOST_WEIGHT}
use Rattle.cpl_mosaic.specs.Cells.{number_of, NumbersAgree}
use Rattle.cpl_xgrid.specs.declared.grid.Grid.{Grid}
use Rattle.cpl_xgrid.specs.declared.parts.Outlet.{Outlet}
use Rattle.cpl_xgrid.specs.Grids.{IsGrid}
use Rattle.cpl_state.specs.Slow.{no_outlet, outlet_at}
use Rattle.cpl_slow.specs.declared.drains.Drain.{Drain}
use Rattle.cpl_slow.specs.Drains.{AreDrainsTo}
use Rattle.cpl_laws.proofs.Outlets.{IsOutlet, outlet_in}
use Rattle.cpl_slow.proofs.Listed.{before_range, drains_more, drains_all}
use Rattle.cpl_slow.proofs.drains.drains_of.Goals as goal

-- an outlet of a list that is the grid's
outlet_of : (grid : Grid) → IsGrid grid → (outlets : List Outlet) (n : ℕ) → outlets ≡ grid.xgrid.outlets → n < length outlets → IsOutlet grid.land grid.ocean (slice_index_or outlets n no_outlet)
outlet_of grid is outlets n e l =
    subst (λ (os : List Outlet). IsOutlet grid.land grid.ocean (slice_index_or os n no_outlet)) (sym e) (outlet_in grid is n (omega (arith, ap length e)))

pub number-land-requires : goal.number-land-requires
number-land-requires c = (outlet_of c.args.grid.now c.requires c.outlets-outlets.result.now c.loop-outlet.outlet-index c.outlets-outlets.ensures (omega arith)).land_cell

pub number-ocean-requires : goal.number-ocean-requires
number-ocean-requires c = (outlet_of c.args.grid.now c.requires c.outlets-outlets.result.now c.loop-outlet.outlet-index c.outlets-outlets.ensures (omega arith)).ocean_cell

pub index-from-requires : goal.index-from-requires
index-from-requires c =
    let cell = (outlet_of c.args.grid.now c.requires c.outlets-outlets.result.now c.loop-outlet.outlet-index c.outlets-outlets.ensures (omega arith)).land_cell in
    let below = c.cells-cells.ensures.numbers.below _ cell in
    omega (arith, below, c.number-land.ensures, c.loop-outlet.invariant.cells, c.loop-outlet.weights.ok.0)

pub index_mut-requires : goal.index_mut-requires
index_mut-requires c =
    let cell = (outlet_of c.args.grid.now c.requires c.outlets-outlets.result.now c.loop-outlet.outlet-index c.outlets-outlets.ensures (omega arith)).land_cell in
    let below = c.cells-cells.ensures.numbers.below _ cell in
    omega (arith, below, c.number-land.ensures, c.loop-outlet.invariant.cells, c.loop-outlet.weights.ok.0)

-- what is read of an outlet and of the weights before it
record IsRead (weights : List ℤ) (land n : ℕ) (from weight read : ℤ) : Type 0 where
  is : from ≡ at weights land
  least : pos 0 ≤ℤ from
  most : from ≤ℤ pos (1048576 * n)
  weight_is : read ≡ weight
  weight_range : IsFromℤ 0 MOST_WEIGHT weight

read_is : (grid : Grid) → IsGrid grid → NumbersAgree grid.land.mosaic.tiles → (outlets : List Outlet) (n : ℕ) → outlets ≡ grid.xgrid.outlets → n < length outlets
    → (each : List Drain) (weights : List ℤ) → AreDrainsTo grid n each weights → (land : ℕ) → land ≡ number_of grid.land.mosaic.tiles (slice_index_or outlets n no_outlet).land
    → (from : ℤ) → from ≡ slice_index_or weights land from → IsRead weights land n from (outlet_at grid n).weight (slice_index_or outlets n no_outlet).weight
read_is grid is agree outlets n e l each weights are land land_e from from_e =
    let long : n < length grid.xgrid.outlets = omega (arith, ap length e) in
    let same : (slice_index_or outlets n no_outlet).land ≡ (outlet_at grid n).land = ap (λ (os : List Outlet). (slice_index_or os n no_outlet).land) e in
    let land_is = land_e ∙ ap (number_of grid.land.mosaic.tiles) same in
    let below = agree.below (outlet_at grid n).land (outlet_in grid is n long).land_cell in
    let is_at : from ≡ at weights land = get_or_read weights land from (omega (arith, below, land_is, are.cells)) from_e (pos 0) in
    let range = before_range grid is agree n long each weights are land land_is in
    record {
      is = is_at;
      least = omega (arith, ints, is_at, range.0);
      most = omega (arith, ints, is_at, range.1);
      weight_is = ap (λ (os : List Outlet). (slice_index_or os n no_outlet).weight) e;
      weight_range = is.outlets.each n no_outlet long;
    }

pub overflow_add-to : goal.overflow_add-to
overflow_add-to c =
    let n = c.loop-outlet.outlet-index in
    let outlets = c.outlets-outlets.result.now in
    let l : n < length outlets = omega arith in
    let read = read_is c.args.grid.now c.requires c.cells-cells.ensures.numbers outlets n c.outlets-outlets.ensures l c.loop-outlet.each.items c.loop-outlet.weights.items c.loop-outlet.invariant c.number-land.result c.number-land.ensures c.index-from.result.now c.index-from.ensures in
    omega (arith, ints, read.least, read.most, read.weight_is, read.weight_range.0, read.weight_range.1, c.requires.outlets.few, ap length c.outlets-outlets.ensures)

pub loop-outlet-preserved : goal.loop-outlet-preserved
loop-outlet-preserved c =
    let grid = c.args.grid.now in
    let n = c.loop-outlet.outlet-index in
    let outlets = c.outlets-outlets.result.now in
    let e = c.outlets-outlets.ensures in
    let l : n < length outlets = omega arith in
    let long : n < length grid.xgrid.outlets = omega (arith, ap length e) in
    let each = c.loop-outlet.each.items in
    let weights = c.loop-outlet.weights.items in
    let land = c.number-land.result in
    let read = read_is grid c.requires c.cells-cells.ensures.numbers outlets n e l each weights c.loop-outlet.invariant land c.number-land.ensures c.index-from.result.now c.index-from.ensures in
    let land_is = c.number-land.ensures ∙ ap (λ (os : List Outlet). number_of grid.land.mosaic.tiles (slice_index_or os n no_outlet).land) e in
    let ocean_is = c.number-ocean.ensures ∙ ap (λ (os : List Outlet). number_of grid.ocean.mosaic.tiles (slice_index_or os n no_outlet).ocean) e in
    let few = c.requires.outlets.few in
    let weight = (slice_index_or outlets n no_outlet).weight in
    let to = to_z w64 (of_z w64 (to_z w64 (of_z w64 c.index-from.result.now) +ℤ to_z w64 (of_z w64 weight))) in
    subst (λ (xs : List Drain). AreDrainsTo grid (n + 1) xs (slice_set weights land to)) (sym c.in_ok-push.ensures.items)
    (drains_more grid c.requires c.cells-cells.ensures.numbers n long each weights c.loop-outlet.invariant land c.number-ocean.result _ _ land_is ocean_is
    (omega (arith, ints, read.is, read.least, read.most, few, ap length e))
    (omega (arith, ints, read.is, read.least, read.most, read.weight_is, read.weight_range.0, read.weight_range.1, few, ap length e)))

pub returns : goal.returns
returns c =
    let long : c.loop-outlet.outlet-index ≡ length c.args.grid.now.xgrid.outlets = omega (arith, ap length c.outlets-outlets.ensures) in
    let all = drains_all c.args.grid.now c.loop-outlet.outlet-index c.loop-outlet.each.items c.loop-outlet.weights.items long c.loop-outlet.invariant in
    record { count = all.0; each = all.1; cells = all.2; weights = all.3 }
