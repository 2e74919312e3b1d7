-- The passes of a step over the layers.
use Rattle.std.specs.Prelude.{◌≡◌, false, ℕ, ◌+◌, ◌*◌, ◌<◌, ◌≤◌, List, ℤ, pos, nat_lt, slice_index_or, if◌then◌else◌}
use Rattle.cpl_fixed.specs.Amounts.{amount, at}
use Rattle.cpl_ice.specs.declared.parts.Salty.{Salty}
use Rattle.cpl_transport.specs.Heights.{height_of, next_face}
use Rattle.cpl_fixed.specs.declared.limits.TheConstants.{MOST_CELLS, MOST_LAYERS}
use Rattle.cpl_transport.specs.Mixing.{sum_of}
use Rattle.cpl_transport.specs.Moves.{through}
use Rattle.cpl_transport.specs.Salts.{joined, nothing}
use Rattle.cpl_sea.specs.Links.{seen_flow}
use Rattle.cpl_sea.specs.declared.links.Link.{Link}
use Rattle.cpl_sea.specs.declared.links.SideFace.{SideFace}
use Rattle.cpl_sea.specs.declared.links.SideFace.TheVariants.{Alone, First, Second}
use Rattle.cpl_sea.specs.declared.links.CellFaces.{CellFaces}

-- the cell at a place
abbrev pub salty_at : List Salty → ℕ → Salty
salty_at cells place = slice_index_or cells place nothing

abbrev pub link_at : List Link → ℕ → Link
link_at links f = slice_index_or links f (record { first = 0; second = 0; behind_first = 0; behind_second = 0; is_open = false })

abbrev pub cell_faces_at : List CellFaces → ℕ → CellFaces
cell_faces_at faces n = slice_index_or faces n (record { west = Alone; east = Alone; south = Alone; north = Alone })

-- the cells of a link are among so many
pub record IsLinkWithin (count : ℕ) (link : Link) : Type 0 where
  pub first : link.first < count
  pub second : link.second < count
  pub behind_first : link.behind_first < count
  pub behind_second : link.behind_second < count

-- the height of the column at n over its area, 0 where it has none
abbrev pub height_over : (area : ℤ) → (layers count : ℕ) → List ℤ → ℕ → ℤ
height_over area layers count water n =
    if nat_lt 0 (amount area) then height_of (sum_of layers (λ layer. at water (layer * count + n))) area else pos 0

-- the number of a face after the step
abbrev pub number_after : (slope : ℕ) → (heights : List ℤ) → Link → ℤ → ℤ
number_after slope heights link u = if link.is_open then next_face slope u (at heights link.first) (at heights link.second) else pos 0

-- what moves through a face of the layer whose cells begin at this place
abbrev pub flow_in : (cells : ℕ → Salty) → (begin : ℕ) → Link → ℤ → Salty
flow_in cells begin link u =
    if link.is_open
    then through u (cells (begin + link.behind_first)) (cells (begin + link.first)) (cells (begin + link.second)) (cells (begin + link.behind_second))
    else nothing

-- what moves out of a cell with these faces
abbrev pub out_of : (flows : ℕ → Salty) → CellFaces → Salty
out_of flows faces =
    joined (joined (seen_flow flows faces.west) (seen_flow flows faces.east)) (joined (seen_flow flows faces.south) (seen_flow flows faces.north))

-- a side's face is among so many
abbrev pub IsSideWithin : (count : ℕ) → SideFace → Type 0
IsSideWithin count Alone = Unit {0}
IsSideWithin count (First f) = f < count
IsSideWithin count (Second f) = f < count

pub record AreSidesWithin (count : ℕ) (faces : CellFaces) : Type 0 where
  pub west : IsSideWithin count faces.west
  pub east : IsSideWithin count faces.east
  pub south : IsSideWithin count faces.south
  pub north : IsSideWithin count faces.north

-- the column at n of cells that stand layer by layer
abbrev pub column_at : (count : ℕ) → List Salty → (n layer : ℕ) → Salty
column_at count cells n layer = salty_at cells (layer * count + n)

-- 1 to 8 layers of up to 2^18 cells each, and as many cells
pub record AreColumns (layers count whole : ℕ) : Type 0 where
  pub layers_most : layers ≤ MOST_LAYERS
  pub count_most : count ≤ MOST_CELLS
  pub all : whole ≡ layers * count

-- the cell at a place of the three lists of a state
abbrev pub top_at : (water heat salt : List ℤ) → ℕ → Salty
top_at water heat salt n = record { water = at water n; heat = at heat n; salt = at salt n }
