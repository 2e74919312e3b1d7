-- What the rules of an exchange grid say of each outlet.
use Rattle.std.proofs.Common.{◌≡◌, refl, Bool, true, false, not, cond, ℕ, ◌+◌, ◌<◌, length, Some, None}
use Rattle.std.specs.Prelude.{pos}
use Rattle.std.specs.Ordering.{int_eq}
use Rattle.std.proofs.lemmas.Bool.{and_parts}
use Rattle.cpl_mosaic.specs.declared.mosaic.Mesh.{Mesh}
use Rattle.cpl_mosaic.specs.Sides.{IsCellOf}
use Rattle.cpl_xgrid.specs.declared.grid.Grid.{Grid}
use Rattle.cpl_xgrid.specs.declared.parts.Outlet.{Outlet}
use Rattle.cpl_xgrid.specs.declared.error.XGridError.TheVariants as fault
use Rattle.cpl_xgrid.specs.Grids.{IsGrid}
use Rattle.cpl_xgrid.specs.Rules.{area_at, outlet_fault}
use Rattle.cpl_xgrid.proofs.CellNumbers.{cell_is}
use Rattle.cpl_xgrid.proofs.Faults.{none_faulty}
use Rattle.cpl_laws.proofs.Rows.{outlets_none}
use Rattle.cpl_state.specs.Slow.{no_outlet, outlet_at}

-- an outlet of which nothing is wrong: its cells are cells, that of the ocean has an area, and it has a weight
pub record IsOutlet (land ocean : Mesh) (outlet : Outlet) : Type 0 where
  pub land_cell : IsCellOf land.mosaic.tiles outlet.land
  pub ocean_cell : IsCellOf ocean.mosaic.tiles outlet.ocean
  pub wet : int_eq (area_at ocean outlet.ocean) (pos 0) ≡ false
  pub weight : int_eq outlet.weight (pos 0) ≡ false

passes : (n : ℕ) (b : Bool) → cond b None (Some (fault.Outlet n)) ≡ None → b ≡ true
passes n true e = refl
passes n false e = absurd (cc)

refused : (b : Bool) → not b ≡ true → b ≡ false
refused false e = refl
refused true e = absurd (cc)

outlet_is : (land ocean : Mesh) (n : ℕ) (outlet : Outlet) → outlet_fault land ocean n outlet ≡ None → IsOutlet land ocean outlet
outlet_is land ocean n outlet none =
    let all = and_parts _ _ (passes n _ none) in
    let most = and_parts _ _ all.0 in
    let cells = and_parts _ _ most.0 in
    record {
      land_cell = cell_is land.mosaic.tiles outlet.land cells.0;
      ocean_cell = cell_is ocean.mosaic.tiles outlet.ocean cells.1;
      wet = refused _ most.1;
      weight = refused _ all.1;
    }

pub outlet_in : (grid : Grid) → IsGrid grid → (o : ℕ) → o < length grid.xgrid.outlets → IsOutlet grid.land grid.ocean (outlet_at grid o)
outlet_in grid is o l =
    outlet_is grid.land grid.ocean (0 + o) (outlet_at grid o)
    (none_faulty (outlet_fault grid.land grid.ocean) 0 grid.xgrid.outlets (outlets_none grid is) o no_outlet l)
