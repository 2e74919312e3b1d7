-- Sums of flows over elements.
use Rattle.std.specs.Prelude.{◌≡◌, ℕ, ◌*◌, ◌<◌, ◌≤◌, ◌^◌, List, map, length, ℤ, pos, neg_ℤ, ◌+ℤ◌, ◌-ℤ◌, ◌*ℤ◌, ◌≤ℤ◌, slice_index_or}
use Rattle.std.specs.List.{range_with_len}
use Rattle.cpl_fixed.specs.Totals.{total_of}
use Rattle.cpl_fixed.specs.declared.limits.TheConstants.{VAPOUR_HEAT, WATER_HEAT}
use Rattle.cpl_xgrid.specs.declared.parts.XRef.{XRef}
use Rattle.cpl_xgrid.specs.declared.parts.Surface.{Surface}
use Rattle.cpl_xgrid.specs.declared.parts.Surface.TheVariants.{Land, Ocean}
use Rattle.cpl_fast.specs.declared.flows.Flow.{Flow}
use Rattle.cpl_fast.specs.declared.flows.Tables.{Tables}
use Rattle.cpl_fast.specs.declared.sums.FlowLists.{FlowLists}
use Rattle.cpl_fast.specs.declared.sums.Sums.{Sums}
use Rattle.cpl_fast.specs.declared.sums.After.{After}
use Rattle.cpl_fast.specs.declared.sums.Taken.{Taken}
use Rattle.cpl_fast.specs.Flows.{AreUsed, area_in, flow_at, no_flow}
use Rattle.cpl_fast.specs.Places.{place_in}

abbrev pub none : Sums
none = record { heat = pos 0; water = pos 0; sun = pos 0; rain = pos 0 }

abbrev pub of_flow : Flow → Sums
of_flow flow = record { heat = flow.heat; water = flow.water; sun = flow.sun; rain = flow.rain }

abbrev pub joined : Sums → Sums → Sums
joined a b = record { heat = a.heat +ℤ b.heat; water = a.water +ℤ b.water; sun = a.sun +ℤ b.sun; rain = a.rain +ℤ b.rain }

-- a sum of at most n numbers of 64 bits
abbrev pub IsSmall : ℕ → ℤ → Type 0
IsSmall n x = (neg_ℤ (pos (n * 2 ^ 63)) ≤ℤ x) × (x ≤ℤ pos (n * 2 ^ 63))

pub record AreSmall (n : ℕ) (sums : Sums) : Type 0 where
  pub heat : IsSmall n sums.heat
  pub water : IsSmall n sums.water
  pub sun : IsSmall n sums.sun
  pub rain : IsSmall n sums.rain

-- the sums are those that `total` makes of each number of a flow
pub record SumsAre (sums : Sums) (total : (Flow → ℤ) → ℤ) : Type 0 where
  pub heat : sums.heat ≡ total (λ (flow : Flow). flow.heat)
  pub water : sums.water ≡ total (λ (flow : Flow). flow.water)
  pub sun : sums.sun ≡ total (λ (flow : Flow). flow.sun)
  pub rain : sums.rain ≡ total (λ (flow : Flow). flow.rain)

-- nothing flows through the elements of a row that have the area 0
abbrev pub IsClear : Tables → List Flow → (row : ℕ) → Type 0
IsClear tables flows row = (k : ℕ) → k < tables.width → area_in tables row k ≡ pos 0 → flow_at flows (place_in (length tables.links.items) row k) ≡ no_flow

-- nor through those of any row of a list
abbrev pub AreClear : Tables → List Flow → Type 0
AreClear tables flows = (row : ℕ) → row < length tables.links.items → IsClear tables flows row

-- the flows of a list fit its tables: a row has 6 elements at most, there is a flow and an area for each, and none has an area behind
-- those that are looked at
pub record FitFlows (tables : Tables) (flows : List Flow) : Type 0 where
  pub width : tables.width ≤ 6
  pub count : length flows ≡ length tables.links.items * tables.width
  pub areas : length tables.areas.items ≡ length tables.links.items * tables.width
  pub used : AreUsed tables

-- the flows of the ocean's list fit its tables, and nothing flows through the elements of the area 0
pub record FitTables (flows : FlowLists) : Type 0 where
  pub fit : FitFlows flows.tables.now flows.ocean.now
  pub clear : AreClear flows.tables.now flows.ocean.now

-- nothing flows through the elements of a row at all, nor through those of any row
abbrev pub IsStill : Tables → List Flow → (row : ℕ) → Type 0
IsStill tables flows row = (k : ℕ) → k < tables.width → flow_at flows (place_in (length tables.links.items) row k) ≡ no_flow

abbrev pub AreStill : Tables → List Flow → Type 0
AreStill tables flows = (row : ℕ) → row < length tables.links.items → IsStill tables flows row

-- over the elements of a row, of so many rows
abbrev pub in_row : List Flow → (rows width row : ℕ) → (Flow → ℤ) → ℤ
in_row flows rows width row number = total_of (map (λ k. number (flow_at flows (place_in rows row k))) (range_with_len 0 width))

-- over the elements of exchange cells in part k
abbrev pub in_part : List Flow → (rows k : ℕ) → List XRef → (Flow → ℤ) → ℤ
in_part flows rows k refs number = total_of (map (λ (ref : XRef). number (flow_at flows (place_in rows ref.row k))) refs)

-- over all elements of an exchange cell of a list
abbrev pub in_list : FlowLists → Surface → (row : ℕ) → (Flow → ℤ) → ℤ
in_list flows Land row number = in_row flows.land.now (length flows.land.now) 1 row number
in_list flows Ocean row number = in_row flows.ocean.now (length flows.tables.now.links.items) flows.tables.now.width row number

-- over all elements of exchange cells
abbrev pub in_rows : FlowLists → List XRef → (Flow → ℤ) → ℤ
in_rows flows refs number = total_of (map (λ (ref : XRef). in_list flows ref.list ref.row number) refs)

-- an exchange cell is one of so many rows
abbrev pub reaches : (rows : ℕ) → XRef → Type 0
reaches rows ref = ref.row < rows

-- or one of either list
abbrev pub within_list : FlowLists → Surface → (row : ℕ) → Type 0
within_list flows Land row = row < length flows.land.now
within_list flows Ocean row = row < length flows.tables.now.links.items

abbrev pub within : FlowLists → XRef → Type 0
within flows ref = within_list flows ref.list ref.row

-- the heat that flows to the surface, less that of the vapour
abbrev pub net_heat : Sums → ℤ
net_heat sums = sums.heat -ℤ (VAPOUR_HEAT *ℤ sums.water)

-- what elements take from the air beside the sun
abbrev pub taken : Sums → Taken
taken sums = record { heat = net_heat sums +ℤ (WATER_HEAT *ℤ sums.rain); water = sums.rain -ℤ sums.water }

-- with rain, and with its heat
abbrev pub with_rain : Taken → ℤ → Taken
with_rain taken rain = record { heat = taken.heat +ℤ (WATER_HEAT *ℤ rain); water = taken.water +ℤ rain }

abbrev pub nothing : Taken
nothing = record { heat = pos 0; water = pos 0 }

abbrev pub both_taken : Taken → Taken → Taken
both_taken a b = record { heat = a.heat +ℤ b.heat; water = a.water +ℤ b.water }

pub record IsSmallTaken (n : ℕ) (taken : Taken) : Type 0 where
  pub heat : IsSmall n taken.heat
  pub water : IsSmall n taken.water

-- a cell that takes this from the air and absorbs this sun
abbrev pub after : (heat water : ℤ) → Taken → (sun : ℤ) → After
after heat water taken sun = record { heat = heat +ℤ (taken.heat +ℤ sun); water = water +ℤ taken.water; taken = taken }

-- the sums over the elements of exchange cells in part k
unfoldable pub sums_in : List Flow → (rows k : ℕ) → List XRef → Sums
sums_in flows rows k refs = record {
  heat = in_part flows rows k refs (λ (flow : Flow). flow.heat);
  water = in_part flows rows k refs (λ (flow : Flow). flow.water);
  sun = in_part flows rows k refs (λ (flow : Flow). flow.sun);
  rain = in_part flows rows k refs (λ (flow : Flow). flow.rain);
}

-- an exchange cell of a list of them
abbrev pub ref_at : List XRef → ℕ → XRef
ref_at refs n = slice_index_or refs n (record { list = Land; row = 0 })
