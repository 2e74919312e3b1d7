-- Rain on the elements of a list.
use Rattle.std.specs.Prelude.{◌≡◌, ℕ, ◌<◌, List, map, length, ℤ, pos, ◌+ℤ◌}
use Rattle.std.specs.List.{range_with_len}
use Rattle.cpl_fixed.specs.Shares.{share}
use Rattle.cpl_fixed.specs.Totals.{total_of}
use Rattle.cpl_fast.specs.declared.flows.Flow.{Flow}
use Rattle.cpl_fast.specs.declared.flows.Tables.{Tables}
use Rattle.cpl_fast.specs.Flows.{area_in, before_in, flow_at}
use Rattle.cpl_fast.specs.Places.{place_in}
use Rattle.cpl_fast.specs.Sums.{in_row}

-- a flow with its share of the rain of its cell of the air
abbrev pub with_share : Flow → (rain from b area : ℤ) → Flow
with_share flow rain from b area = record flow { rain = share rain from (from +ℤ b) area }

unfoldable pub rained_on : (rain area : ℤ) → Tables → List Flow → (row k : ℕ) → Flow
rained_on rain area tables flows row k = with_share (flow_at flows (place_in (length tables.links.items) row k)) rain (before_in tables row k) (area_in tables row k) area

-- the rain on an element, from a cell of the air with this rain and this area
abbrev pub rain_in : (rain area : ℤ) → Tables → (row k : ℕ) → ℤ
rain_in rain area tables row k = share rain (before_in tables row k) (before_in tables row k +ℤ area_in tables row k) area

-- the rain on all elements of a row
abbrev pub rain_on_row : (rain area : ℤ) → Tables → (row : ℕ) → ℤ
rain_on_row rain area tables row = total_of (map (rain_in rain area tables row) (range_with_len 0 tables.width))

-- no rain falls on the elements of a list
abbrev pub AreDry : Tables → List Flow → Type 0
AreDry tables flows = (row k : ℕ) → row < length tables.links.items → k < tables.width → (flow_at flows (place_in (length tables.links.items) row k)).rain ≡ pos 0

-- the sum over the elements of all rows
abbrev pub in_list : List Flow → (rows width : ℕ) → (Flow → ℤ) → ℤ
in_list flows rows width number = total_of (map (λ row. in_row flows rows width row number) (range_with_len 0 rows))
