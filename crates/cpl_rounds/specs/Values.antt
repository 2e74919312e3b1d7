-- The values of uses: the numbers that an edge between two pieces carries when it is used, as a function of the undivided run and of
-- what the edge carries: exchange cells, outlets, cells or sides of cells, each by its number in the whole. Land to air and ice to
-- air, their answers and the halos of the air go by fast steps, the halos of the ocean by its steps, all others by coupling steps.
use Rattle.std.specs.Prelude.{ℕ, ◌+◌, ◌*◌, ◌/◌, ◌%◌, List, [], ◌∷◌, ◌++◌, map, ℤ}
use Rattle.std.specs.List.{flat_map, range_with_len}
use Rattle.cpl_fixed.specs.declared.gain.Gain.{Gain}
use Rattle.cpl_mosaic.specs.declared.mosaic.Mesh.{Mesh}
use Rattle.cpl_mosaic.specs.declared.parts.Side.{Side}
use Rattle.cpl_mosaic.specs.Cells.{number_of}
use Rattle.cpl_layout.specs.Layouts.{Cuts}
use Rattle.cpl_layout.specs.Pieces.{piece_of}
use Rattle.cpl_layout.specs.Owners.{cell_in as cell_of_piece}
use Rattle.cpl_xgrid.specs.declared.grid.Grid.{Grid}
use Rattle.cpl_xgrid.specs.declared.parts.XRef.{XRef}
use Rattle.cpl_xgrid.specs.declared.parts.Surface.TheVariants.{Land, Ocean}
use Rattle.cpl_land.specs.declared.cell.LandCell.{LandCell}
use Rattle.cpl_flux.specs.declared.parts.Part.{Part}
use Rattle.cpl_ice.specs.declared.parts.Salty.{Salty}
use Rattle.cpl_state.specs.declared.whole.Mid.{Mid}
use Rattle.cpl_state.specs.States.{layers, part_count}
use Rattle.cpl_state.specs.Elements.{surface_number, element_area}
use Rattle.cpl_state.specs.FastStep.{Before, ocean_part, heat_down, water_up, absorbed, rain_on}
use Rattle.cpl_state.specs.Slow.{drain, outlet_share, returned_at}
use Rattle.cpl_state.specs.Transport.{Sea, cell_in}
use Rattle.cpl_state.specs.Cut.{cut_at, to_ice_numbers}
use Rattle.cpl_rounds.specs.Rounds.{PlanParts, mid_at, fast_step, air_at, land_at, ocean_at, element_area_at, ice_seen_at, outward_in}

-- NUMBERS

-- heat and water of a cell of the land
abbrev pub land_numbers : LandCell → List ℤ
land_numbers cell = cell.heat ∷ cell.water ∷ []

-- water and heat that run off
abbrev pub runoff_numbers : Gain → List ℤ
runoff_numbers gain = gain.water ∷ gain.heat ∷ []

-- water, heat and salt
abbrev pub salty_numbers : Salty → List ℤ
salty_numbers it = it.water ∷ it.heat ∷ it.salt ∷ []

-- the area of an element, and of its part of the surface area, heat and mass
abbrev pub part_numbers : ℤ → Part → List ℤ
part_numbers area part = area ∷ part.area ∷ part.heat ∷ part.mass ∷ []

-- an exchange cell of the land list, and of the ocean list
abbrev pub on_land : (row : ℕ) → XRef
on_land row = record { list = Land; row = row }

abbrev pub on_ocean : (row : ℕ) → XRef
on_ocean row = record { list = Ocean; row = row }

-- what the air sees of element k of an exchange cell of the ocean list
abbrev pub element_numbers : Grid → Mid → (row k : ℕ) → List ℤ
element_numbers grid mid row k =
    part_numbers (element_area grid mid.whole (on_ocean row) k) (ocean_part grid mid (surface_number grid (on_ocean row)) k)

-- the same by the cell of the ice before the step, where the areas are those of the coupling step
abbrev pub seen_numbers : PlanParts → (n i row k : ℕ) → List ℤ
seen_numbers plan n i row k =
    part_numbers (element_area_at plan n (on_ocean row) k) (ice_seen_at plan n i (surface_number plan.grid (on_ocean row)) k)

-- what flows through an element: heat to the surface and water from it, the sun that it absorbs, and the rain on it
abbrev pub element_flows : Before → XRef → (k : ℕ) → List ℤ
element_flows s ref k = heat_down s ref k ∷ water_up s ref k ∷ absorbed s ref k ∷ rain_on s ref k ∷ []

-- what an outlet has of what runs off its cell of the land
abbrev pub share_of_runoff : Grid → Gain → (o : ℕ) → Gain
share_of_runoff grid gain o = record { heat = outlet_share grid gain.heat o; water = outlet_share grid gain.water o }

-- the elements of exchange cells of the ocean list, those of a row in turn
abbrev pub for_elements : Grid → ((row k : ℕ) → List ℤ) → (rows : List ℕ) → List ℤ
for_elements grid numbers rows = flat_map (λ row. flat_map (numbers row) (range_with_len 0 (part_count grid))) rows

-- BETWEEN THE AIR AND THE SURFACE, IN FAST STEP i OF COUPLING STEP n

-- the land cell of each row before the step
unfoldable pub land_to_air : PlanParts → (n i : ℕ) → (rows : List ℕ) → List ℤ
land_to_air plan n i rows = flat_map (λ row. land_numbers (land_at plan n i (surface_number plan.grid (on_land row)))) rows

-- the elements of each row before the step
unfoldable pub ice_to_air : PlanParts → (n i : ℕ) → (rows : List ℕ) → List ℤ
ice_to_air plan n i rows = for_elements plan.grid (element_numbers plan.grid (mid_at plan n i)) rows

-- what flows through the elements of each row in the step
unfoldable pub air_to_land : PlanParts → (n i : ℕ) → (rows : List ℕ) → List ℤ
air_to_land plan n i rows = flat_map (λ row. element_flows (fast_step plan n i) (on_land row) 0) rows

unfoldable pub air_to_ice : PlanParts → (n i : ℕ) → (rows : List ℕ) → List ℤ
air_to_ice plan n i rows = for_elements plan.grid (λ row. element_flows (fast_step plan n i) (on_ocean row)) rows

-- BETWEEN LAND, ICE AND OCEAN, IN COUPLING STEP n

-- what each outlet brings
unfoldable pub land_to_ice : PlanParts → (n : ℕ) → (outlets : List ℕ) → List ℤ
land_to_ice plan n outlets = flat_map (λ o. runoff_numbers (drain plan.grid plan.names.rates (mid_at plan n plan.names.fast).whole o)) outlets

-- what the ice of each cell gives back
unfoldable pub ice_to_ocean : PlanParts → (n : ℕ) → (cells : List ℕ) → List ℤ
ice_to_ocean plan n cells = flat_map (λ c. salty_numbers (returned_at plan.grid plan.names.rates (mid_at plan n plan.names.fast) c)) cells

-- what each cell of the ocean cuts off
unfoldable pub ocean_to_ice : PlanParts → (n : ℕ) → (cells : List ℕ) → List ℤ
ocean_to_ice plan n cells = flat_map (λ c. to_ice_numbers (cut_at plan.grid.ocean (ocean_at plan n (plan.names.ocean_steps + 1)) c)) cells

-- HALOS

-- the cell at a place of a piece, by its number, and a side of it
abbrev pub cell_number_at : Cuts → (piece : ℕ) → (place : ℕ × ℕ) → ℕ
cell_number_at layout piece place = number_of layout.tiles (cell_of_piece (piece_of layout piece) place)

abbrev pub side_of : Cuts → (piece : ℕ) → (spot : ℕ × ℕ × Side) → ℕ × Side
side_of layout piece spot = (cell_number_at layout piece (spot.0, spot.1), spot.2)

-- the cells at places of a piece, and the sides at spots of it
abbrev pub cells_at : Cuts → (piece : ℕ) → (places : List (ℕ × ℕ)) → List ℕ
cells_at layout piece places = map (cell_number_at layout piece) places

abbrev pub sides_at : Cuts → (piece : ℕ) → (spots : List (ℕ × ℕ × Side)) → List (ℕ × Side)
sides_at layout piece spots = map (side_of layout piece) spots

-- heat and then vapour of cells of the air in fast step i of coupling step n, before the diffusion
unfoldable pub air_halo : PlanParts → (n i : ℕ) → (cells : List ℕ) → List ℤ
air_halo plan n i cells = map (λ c. (air_at plan n (2 * i + 1) c).heat) cells ++ map (λ c. (air_at plan n (2 * i + 1) c).vapour) cells

-- water, heat and salt of cells of a layer of the ocean
abbrev pub layer_halo : Mesh → Sea → (cells : List ℕ) → (layer : ℕ) → List ℤ
layer_halo mesh sea cells layer =
    map (λ c. (cell_in mesh sea layer c).water) cells ++ (map (λ c. (cell_in mesh sea layer c).heat) cells ++ map (λ c. (cell_in mesh sea layer c).salt) cells)

-- the numbers of faces of a layer, outward through these sides
abbrev pub layer_faces : Mesh → Sea → (sides : List (ℕ × Side)) → (layer : ℕ) → List ℤ
layer_faces mesh sea sides layer = map (λ side. outward_in mesh sea layer side.0 side.1) sides

-- those of all layers, the top one first, and then the faces of all layers
abbrev pub sea_halo : Mesh → (layers : ℕ) → Sea → (cells : List ℕ) → (sides : List (ℕ × Side)) → List ℤ
sea_halo mesh layers sea cells sides =
    flat_map (layer_halo mesh sea cells) (range_with_len 0 layers) ++ flat_map (layer_faces mesh sea sides) (range_with_len 0 layers)

-- the ocean before its step i of coupling step n
unfoldable pub ocean_halo : PlanParts → (n i : ℕ) → (cells : List ℕ) → (sides : List (ℕ × Side)) → List ℤ
ocean_halo plan n i cells sides = sea_halo plan.grid.ocean (layers plan.grid) (ocean_at plan n (i + 1)) cells sides

-- USES

-- the k-th use of an edge that is used once in each fast step of the run, or in each of the ocean's steps, by the coupling step and
-- the step in it
abbrev pub by_fast_step : PlanParts → ((n i : ℕ) → List ℤ) → (k : ℕ) → List ℤ
by_fast_step plan value k = value (k / plan.names.fast) (k % plan.names.fast)

abbrev pub by_ocean_step : PlanParts → ((n i : ℕ) → List ℤ) → (k : ℕ) → List ℤ
by_ocean_step plan value k = value (k / plan.names.ocean_steps) (k % plan.names.ocean_steps)
