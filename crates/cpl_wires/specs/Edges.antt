-- The edges of a run by pieces, by their numbers, and how many numbers each carries.
use Rattle.std.specs.Prelude.{ℕ, ◌+◌, ◌*◌, ◌&&◌, ◌==◌, List, length, map, filter, take, count_by, flat_map, slice_index_or}
use Rattle.cpl_xgrid.specs.Groups.{numbers_from}
use Rattle.cpl_wires.specs.declared.parts.Purpose.{Purpose}
use Rattle.cpl_wires.specs.declared.parts.Purpose.TheVariants.{AirHalo, LandToAir, IceToAir, AirToLand, AirToIce, LandToIce, IceToOcean, OceanToIce, OceanHalo, Sums}
use Rattle.cpl_wires.specs.declared.parts.Edge.{Edge}
use Rattle.cpl_wires.specs.Settings.{Setting}
use Rattle.cpl_wires.specs.Purposes.{purposes, posters, takers, is_same_purpose}
use Rattle.cpl_wires.specs.Pairs.{has_edge, carried, air_halo, ocean_halo, ocean_faces}

-- the edges of a purpose that a piece posts, by the pieces that take
abbrev pub edges_from : Setting → Purpose → ℕ → List Edge
edges_from setting purpose from =
    map (λ to. record { purpose = purpose; from = from; to = to }) (filter (has_edge setting purpose from) (takers setting purpose))

-- the edges of a purpose, by the pieces that post
abbrev pub edges_for : Setting → Purpose → List Edge
edges_for setting purpose = flat_map (edges_from setting purpose) (posters setting purpose)

-- all edges: by purpose, then by the piece that posts, then by the piece that takes
unfoldable pub edges_of : Setting → List Edge
edges_of setting = flat_map (edges_for setting) purposes

-- the edge of a number
abbrev pub edge_at : Setting → ℕ → Edge
edge_at setting edge = slice_index_or (edges_of setting) edge (record { purpose = Sums; from = 0; to = 0 })

-- the numbers of the edges of a purpose that a piece posts, or takes, in order
unfoldable pub posted_by : Setting → ℕ → Purpose → List ℕ
posted_by setting piece purpose = numbers_from (λ (edge : Edge). is_same_purpose edge.purpose purpose && (edge.from == piece)) 0 (edges_of setting)

unfoldable pub taken_by : Setting → ℕ → Purpose → List ℕ
taken_by setting piece purpose = numbers_from (λ (edge : Edge). is_same_purpose edge.purpose purpose && (edge.to == piece)) 0 (edges_of setting)

-- the slot of an edge at the piece that posts, or takes: how many of the edges that this piece posts, or takes, come before
unfoldable pub post_slot : Setting → ℕ → ℕ
post_slot setting edge = count_by (λ (other : Edge). other.from == (edge_at setting edge).from) (take edge (edges_of setting))

unfoldable pub take_slot : Setting → ℕ → ℕ
take_slot setting edge = count_by (λ (other : Edge). other.to == (edge_at setting edge).to) (take edge (edges_of setting))

-- how many elements an exchange cell between air and ice has: open water and each category of ice
abbrev pub part_count : Setting → ℕ
part_count setting = setting.grid.column.categories + 1

-- how many numbers each use of an edge carries, where it carries so many exchange cells, outlets or cells
abbrev pub length_for : Setting → Purpose → (from to count : ℕ) → ℕ
length_for setting AirHalo from to count = 2 * length (air_halo setting from to).places
length_for setting LandToAir from to count = 2 * count
length_for setting IceToAir from to count = 4 * (part_count setting * count)
length_for setting AirToLand from to count = 4 * count
length_for setting AirToIce from to count = 4 * (part_count setting * count)
length_for setting LandToIce from to count = 2 * count
length_for setting IceToOcean from to count = 3 * count
length_for setting OceanToIce from to count = 5 * count
length_for setting OceanHalo from to count =
    setting.grid.column.layers * (3 * length (ocean_halo setting from to).places) + setting.grid.column.layers * length (ocean_faces setting from to).sources
length_for setting Sums from to count = 168

-- How many numbers each use of an edge carries. Halos: heat and vapour of the air; of each layer of the ocean water, heat and salt, and
-- the faces. Of the land heat and water. Of an element 4 numbers either way. Of an outlet 2, of a cell 3 to the ocean and 5 from it. Of
-- the sums two words each.
unfoldable pub length_of : Setting → Edge → ℕ
length_of setting edge = length_for setting edge.purpose edge.from edge.to (length (carried setting edge.purpose edge.from edge.to))
