-- The sums of a piece: what its own cells have in the columns of the two tables. The sums of all pieces together are the rows.
use Rattle.std.specs.Prelude.{ℕ, zero, suc, ◌+◌, ◌-◌, List, [], ◌∷◌, map, ℤ, pos, ◌+ℤ◌}
use Rattle.std.specs.List.{flat_map, range_with_len}
use Rattle.cpl_fixed.specs.Totals.{total_of}
use Rattle.cpl_fixed.specs.declared.words.Component.{Component}
use Rattle.cpl_fixed.specs.declared.words.Component.TheVariants as component
use Rattle.cpl_fixed.specs.declared.words.Quantity.{Quantity}
use Rattle.cpl_fixed.specs.declared.words.Quantity.TheVariants.{Heat, Water, Salt}
use Rattle.cpl_layout.specs.Own.{own_cells}
use Rattle.cpl_namelist.specs.declared.names.Names.{Names}
use Rattle.cpl_xgrid.specs.declared.grid.Grid.{Grid}
use Rattle.cpl_xgrid.specs.declared.parts.Surface.TheVariants.{Land, Ocean}
use Rattle.cpl_state.specs.declared.whole.Whole.{Whole}
use Rattle.cpl_state.specs.States.{cells_in}
use Rattle.cpl_state.specs.Columns.{air_stock, land_stock, ice_stock, ocean_stock, to_ice_stock, to_ocean_stock, entered_at, left_at, air_gave, land_gave, ocean_gave, ice_gave, land_took, ice_took_of_air, ice_took_of_land, ice_took_of_ocean, ocean_took}
use Rattle.cpl_stocks.specs.declared.partial.Partial.{Partial}
use Rattle.cpl_stocks.specs.declared.rows.Exchange.{Exchange}
use Rattle.cpl_stocks.specs.declared.rows.Exchange.TheVariants.{AirLand, AirIce, LandIce, OceanIce, IceOcean}
use Rattle.cpl_stocks.specs.Partials.{both, no_sums}
use Rattle.cpl_wires.specs.Settings.{Setting, mesh_of, layout_of, base_of, component_of}
use Rattle.cpl_rounds.specs.Rounds.{PlanParts, state_at}
use Rattle.cpl_plan.specs.Plans.{setting_of}

abbrev pub quantities : List Quantity
quantities = Heat ∷ Water ∷ Salt ∷ []

abbrev pub exchanges : List Exchange
exchanges = AirLand ∷ AirIce ∷ LandIce ∷ OceanIce ∷ IceOcean ∷ []

-- the cells of a piece by their numbers, row by row
abbrev pub cells_of_own : Setting → ℕ → List ℕ
cells_of_own setting piece =
    let own = component_of setting piece in own_cells (layout_of setting own) (piece - base_of setting own)

-- COLUMNS, each as what cell c of a component has there

-- nothing
abbrev pub none : (c : ℕ) → ℤ
none c = pos 0

-- heat alone enters and leaves
abbrev pub of_heat : Quantity → ((c : ℕ) → ℤ) → (c : ℕ) → ℤ
of_heat Heat column = column
of_heat _ column = none

-- a tally of the coupling steps before state n
abbrev pub so_far : PlanParts → (Grid → Names → Whole → (c : ℕ) → ℤ) → (n c : ℕ) → ℤ
so_far plan tally zero c = pos 0
so_far plan tally (suc n) c = so_far plan tally n c +ℤ tally plan.grid plan.names (state_at plan n) c

-- The stocks of state n: air, land, ice, ocean, to ice, to ocean, and what entered and left before. The ocean's cells have what flies
-- to the ice, and the ice's what flies to the ocean.
abbrev pub stock_columns : PlanParts → (n : ℕ) → Component → Quantity → List ((c : ℕ) → ℤ)
stock_columns plan n component.Atmos quantity =
    air_stock (state_at plan n) quantity ∷ none ∷ none ∷ none ∷ none ∷ none
    ∷ of_heat quantity (so_far plan entered_at n) ∷ of_heat quantity (so_far plan left_at n) ∷ []
stock_columns plan n component.Land quantity =
    none ∷ land_stock (state_at plan n) quantity ∷ none ∷ none ∷ none ∷ none ∷ none ∷ none ∷ []
stock_columns plan n component.Ice quantity =
    none ∷ none ∷ ice_stock plan.grid (state_at plan n) quantity ∷ none
    ∷ none ∷ to_ocean_stock (state_at plan n) quantity ∷ none ∷ none ∷ []
stock_columns plan n component.Ocean quantity =
    none ∷ none ∷ none ∷ ocean_stock plan.grid (state_at plan n) quantity
    ∷ to_ice_stock (state_at plan n) quantity ∷ none ∷ none ∷ none ∷ []

-- of an exchange: in flight before, given, taken, in flight after
abbrev pub gives : (gave : (c : ℕ) → ℤ) → List ((c : ℕ) → ℤ)
gives gave = none ∷ gave ∷ none ∷ none ∷ []

abbrev pub takes : (took : (c : ℕ) → ℤ) → List ((c : ℕ) → ℤ)
takes took = none ∷ none ∷ took ∷ none ∷ []

-- what the giver gives flies on to the next coupling step
abbrev pub sends : (before gave after : (c : ℕ) → ℤ) → List ((c : ℕ) → ℤ)
sends before gave after = before ∷ gave ∷ none ∷ after ∷ []

-- the exchanges of coupling step n, which leads from state n to the next
abbrev pub exchange_columns : PlanParts → (n : ℕ) → Component → Exchange → Quantity → List ((c : ℕ) → ℤ)
exchange_columns plan n component.Atmos AirLand quantity = gives (air_gave plan.grid plan.names (state_at plan n) Land quantity)
exchange_columns plan n component.Land AirLand quantity = takes (land_took plan.grid plan.names (state_at plan n) quantity)
exchange_columns plan n component.Atmos AirIce quantity = gives (air_gave plan.grid plan.names (state_at plan n) Ocean quantity)
exchange_columns plan n component.Ice AirIce quantity = takes (ice_took_of_air plan.grid plan.names (state_at plan n) quantity)
exchange_columns plan n component.Land LandIce quantity = gives (land_gave plan.grid plan.names (state_at plan n) quantity)
exchange_columns plan n component.Ice LandIce quantity = takes (ice_took_of_land plan.grid plan.names (state_at plan n) quantity)
exchange_columns plan n component.Ocean OceanIce quantity =
    sends (to_ice_stock (state_at plan n) quantity) (ocean_gave plan.grid plan.names (state_at plan n) quantity)
    (to_ice_stock (state_at plan (n + 1)) quantity)
exchange_columns plan n component.Ice OceanIce quantity = takes (ice_took_of_ocean plan.grid (state_at plan n) quantity)
exchange_columns plan n component.Ice IceOcean quantity =
    sends (to_ocean_stock (state_at plan n) quantity) (ice_gave plan.grid plan.names (state_at plan n) quantity)
    (to_ocean_stock (state_at plan (n + 1)) quantity)
exchange_columns plan n component.Ocean IceOcean quantity = takes (ocean_took plan.grid (state_at plan n) quantity)
exchange_columns plan n _ _ quantity = none ∷ none ∷ none ∷ none ∷ []

-- SUMS

-- the sum of each column over these cells
abbrev pub sums_of : (cells : List ℕ) → List ((c : ℕ) → ℤ) → List ℤ
sums_of cells columns = map (λ column. total_of (map column cells)) columns

-- of heat, of water and of salt
abbrev pub stock_sums : PlanParts → (n : ℕ) → Component → (cells : List ℕ) → List (List ℤ)
stock_sums plan n own cells = map (λ quantity. sums_of cells (stock_columns plan n own quantity)) quantities

-- of each exchange of the coupling step that led to state n; nothing was exchanged before the first
abbrev pub exchange_sums : PlanParts → (n : ℕ) → Component → (cells : List ℕ) → List (List ℤ)
exchange_sums plan zero own cells = no_sums.exchanges
exchange_sums plan (suc n) own cells =
    flat_map (λ exchange. map (λ quantity. sums_of cells (exchange_columns plan n own exchange quantity)) quantities) exchanges

-- the sums over cells of a component with which coupling step n begins, or the run ends
abbrev pub cell_sums : PlanParts → (n : ℕ) → Component → (cells : List ℕ) → Partial
cell_sums plan n own cells = record { stocks = stock_sums plan n own cells; exchanges = exchange_sums plan n own cells }

-- those of a piece, over its own cells
unfoldable pub part_sums : PlanParts → (piece n : ℕ) → Partial
part_sums plan piece n = cell_sums plan n (component_of (setting_of plan) piece) (cells_of_own (setting_of plan) piece)

-- those of a component, over all its cells
abbrev pub component_sums : PlanParts → Component → (n : ℕ) → Partial
component_sums plan own n = cell_sums plan n own (range_with_len 0 (cells_in (mesh_of plan.grid own)))

-- those of the pieces below a number together
abbrev pub sums_below : PlanParts → (n piece : ℕ) → Partial
sums_below plan n zero = no_sums
sums_below plan n (suc piece) = both (sums_below plan n piece) (part_sums plan piece n)

-- those of all components together
abbrev pub all_sums : PlanParts → (n : ℕ) → Partial
all_sums plan n =
    both (both (both (component_sums plan component.Atmos n) (component_sums plan component.Land n)) (component_sums plan component.Ice n))
    (component_sums plan component.Ocean n)
