-- Sums of flows in tables are sums over elements.
use Rattle.std.proofs.Common.{◌≡◌, ◌∙◌, ap, ℕ, ◌<◌, List, length, arith}
use Rattle.std.specs.Prelude.{ℤ}
use Rattle.cpl_mosaic.specs.declared.parts.Tile.{Tile}
use Rattle.cpl_mosaic.specs.Contacts.{cells_of}
use Rattle.cpl_mosaic.specs.Cells.{cell_of}
use Rattle.cpl_xgrid.specs.Lists.{XGridLists}
use Rattle.cpl_xgrid.specs.Rows.{refs_of_air, refs_of_other, rows_of}
use Rattle.cpl_xgrid.specs.declared.parts.XRef.{XRef}
use Rattle.cpl_xgrid.specs.declared.parts.Surface.{Surface}
use Rattle.cpl_xgrid.specs.declared.parts.Surface.TheVariants.{Land, Ocean}
use Rattle.cpl_state.specs.States.{air_cells}
use Rattle.cpl_state.specs.Elements.{tiles_of, element_count, over_all, over_elements, over_part, refs_of_air_cell, refs_of_surface_cell}
use Rattle.cpl_state.specs.FastStep.{Before}
use Rattle.cpl_laws.specs.Once.{IsNumbered}
use Rattle.cpl_laws.proofs.Elements.{each_of_air, each_of_surface}
use Rattle.cpl_laws.proofs.FastSums.{over_rows}
use Rattle.cpl_laws.proofs.Groups.{total_same}
use Rattle.cpl_laws.proofs.Sums.{cells_same}
use Rattle.cpl_fast.specs.declared.flows.Flow.{Flow}
use Rattle.cpl_fast.specs.declared.sums.FlowLists.{FlowLists}
use Rattle.cpl_fast.specs.Air.{refs_at}
use Rattle.cpl_fast.specs.Filled.{AreTables}
use Rattle.cpl_fast.specs.Flows.{flow_at}
use Rattle.cpl_fast.specs.Places.{place_in}
use Rattle.cpl_fast.specs.Rain.{in_list}
use Rattle.cpl_fast.specs.Stages.{AreFlows, flow_of}
use Rattle.cpl_fast.specs.Sums as sums
use Rattle.cpl_fast.specs.Sums.{in_part, in_row, in_rows}
use Rattle.cpl_fast.specs.Surfaces.{refs_on, tiles_on}

-- the flows of both lists in a step, where this rains on their elements, and the tables of the ocean's
pub record AreFlowLists (s : Before) (wet : XRef → ℕ → ℤ) (flows : FlowLists) : Type 0 where
  pub land : AreFlows s wet Land flows.land.now
  pub ocean : AreFlows s wet Ocean flows.ocean.now
  pub tables : AreTables s Ocean flows.tables.now

-- ROWS

module _ (s : Before) (wet : XRef → ℕ → ℤ) (number : Flow → ℤ) where
  -- a number of the flows of elements
  abbrev pub each : XRef → ℕ → ℤ
  each ref k = number (flow_of s wet ref k)

  -- over the elements of a row
  pub row_is : (list : Surface) (flows : List Flow) → AreFlows s wet list flows → (m : ℕ) → m < length (rows_of s.grid.xgrid list)
      → in_row flows (length (rows_of s.grid.xgrid list)) (element_count s.grid list) m number ≡ over_elements s.grid each (record { list = list; row = m })
  row_is list flows are m l =
      cells_same (λ k. number (flow_at flows (place_in (length (rows_of s.grid.xgrid list)) m k))) (each (record { list = list; row = m })) (element_count s.grid list)
      (λ k h. ap number (are.each m k l h))

  -- over the elements of all rows of a list
  pub list_is : (list : Surface) (flows : List Flow) → AreFlows s wet list flows
      → in_list flows (length (rows_of s.grid.xgrid list)) (element_count s.grid list) number ≡ over_rows s.grid list each
  list_is list flows are =
      cells_same (λ row. in_row flows (length (rows_of s.grid.xgrid list)) (element_count s.grid list) row number) (λ m. over_elements s.grid each (record { list = list; row = m })) (length (rows_of s.grid.xgrid list))
      (row_is list flows are)

  -- over the elements of a row of either list
  either_is : (flows : FlowLists) → AreFlowLists s wet flows → (list : Surface) (m : ℕ) → m < length (rows_of s.grid.xgrid list)
      → sums.in_list flows list m number ≡ over_elements s.grid each (record { list = list; row = m })
  either_is flows are Land m l =
      let count = are.land.count in
      let rows : length flows.land.now ≡ length s.grid.xgrid.land_rows = omega (arith, count) in
      ap (λ (r : ℕ). in_row flows.land.now r 1 m number) rows ∙ row_is Land flows.land.now are.land m l
  either_is flows are Ocean m l = (λ i. in_row flows.ocean.now (are.tables.links.count i) (are.tables.width i) m number) ∙ row_is Ocean flows.ocean.now are.ocean m l

-- CELLS

-- the exchange cells of a cell by the exchange grid
pub air_refs : (s : Before) → IsNumbered s.grid → (n : ℕ) → refs_at s.grid.xgrid n ≡ refs_of_air_cell s.grid n
unfolding refs_of_air_cell
air_refs s is n = ap (λ (xgrid : XGridLists). refs_of_air s.grid.xgrid.land_rows s.grid.xgrid.ocean_rows (cell_of xgrid.air n)) is.rules.lists

pub tiles_are : (s : Before) → IsNumbered s.grid → (list : Surface) → tiles_on s.grid.xgrid list ≡ tiles_of s.grid list
tiles_are s is Land = ap (λ (xgrid : XGridLists). xgrid.land) is.rules.lists
tiles_are s is Ocean = ap (λ (xgrid : XGridLists). xgrid.ocean) is.rules.lists

pub surface_refs : (s : Before) → IsNumbered s.grid → (list : Surface) (n : ℕ) → refs_on s.grid.xgrid list n ≡ refs_of_surface_cell s.grid list n
unfolding refs_of_surface_cell
surface_refs s is list n = ap (λ (tiles : List Tile). refs_of_other list (rows_of s.grid.xgrid list) (cell_of tiles n)) (tiles_are s is list)

module _ (s : Before) (is : IsNumbered s.grid) (wet : XRef → ℕ → ℤ) (number : Flow → ℤ) where
  -- over all elements of a cell of the air
  pub air_is : (flows : FlowLists) → AreFlowLists s wet flows → (n : ℕ) → n < air_cells s.grid
      → in_rows flows (refs_at s.grid.xgrid n) number ≡ over_all s.grid (each s wet number) (refs_of_air_cell s.grid n)
  air_is flows are n l =
      let one = λ (ref : XRef). sums.in_list flows ref.list ref.row number in
      let other = over_elements s.grid (each s wet number) in
      ap (λ (refs : List XRef). in_rows flows refs number) (air_refs s is n)
      ∙ total_same one other (refs_of_air_cell s.grid n)
      (each_of_air s.grid is (λ (ref : XRef). one ref ≡ other ref) n l (λ list m h e. either_is s wet number flows are list m h))

  -- over the elements of part k of a cell of a surface
  pub part_is : (list : Surface) (flows : List Flow) → AreFlows s wet list flows → (n k : ℕ) → n < cells_of (tiles_of s.grid list) → k < element_count s.grid list
      → in_part flows (length (rows_of s.grid.xgrid list)) k (refs_on s.grid.xgrid list n) number ≡ over_part (each s wet number) k (refs_of_surface_cell s.grid list n)
  part_is list flows are n k l h =
      let one = λ (ref : XRef). number (flow_at flows (place_in (length (rows_of s.grid.xgrid list)) ref.row k)) in
      let other = λ (ref : XRef). each s wet number ref k in
      ap (λ (refs : List XRef). in_part flows (length (rows_of s.grid.xgrid list)) k refs number) (surface_refs s is list n)
      ∙ total_same one other (refs_of_surface_cell s.grid list n)
      (each_of_surface s.grid is (λ (ref : XRef). one ref ≡ other ref) list n l (λ m r e. ap number (are.each m k r h)))
