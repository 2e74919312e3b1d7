-- The mosaics of made grids: a cubed sphere for the air and the land, and for the ocean a tile that is cyclic and folded.
use Rattle.std.specs.Prelude.{ℕ, ◌+◌, ◌-◌, ◌*◌, List, [], ◌∷◌, Bool, true, false}
use Rattle.cpl_mosaic.specs.declared.parts.Side.{Side}
use Rattle.cpl_mosaic.specs.declared.parts.Side.TheVariants.{W, E, S, N}
use Rattle.cpl_mosaic.specs.declared.parts.Tile.{Tile}
use Rattle.cpl_mosaic.specs.declared.parts.Span.{Span}
use Rattle.cpl_mosaic.specs.declared.parts.Contact.{Contact}
use Rattle.cpl_mosaic.specs.Lists.{MosaicLists}

-- all sides along an edge of a tile, of which there are this many
abbrev pub whole_edge : ℕ → Side → (sides : ℕ) → Span
whole_edge tile side sides = record { tile = tile; side = side; lo = 0; hi = sides - 1 }

-- two edges of equal length that are joined
abbrev pub edges_joined : (sides : ℕ) → ℕ → Side → ℕ → Side → Bool → Contact
edges_joined sides tile side other other_side flip =
    record { first = whole_edge tile side sides; second = whole_edge other other_side sides; flip = flip }

-- THE CUBED SPHERE

-- its six tiles
unfoldable pub sphere_tiles : (size : ℕ) → List Tile
sphere_tiles size =
    let tile : Tile = record { nx = size; ny = size } in tile ∷ tile ∷ tile ∷ tile ∷ tile ∷ tile ∷ []

-- each of the 24 edges of its tiles stands in one contact
unfoldable pub sphere_contacts : (size : ℕ) → List Contact
sphere_contacts size =
    edges_joined size 0 E 1 W false ∷ edges_joined size 0 N 2 W true
    ∷ edges_joined size 0 W 4 N true ∷ edges_joined size 0 S 5 N false
    ∷ edges_joined size 1 N 2 S false ∷ edges_joined size 1 E 3 S true
    ∷ edges_joined size 1 S 5 E true ∷ edges_joined size 2 E 3 W false
    ∷ edges_joined size 2 N 4 W true ∷ edges_joined size 3 N 4 S false
    ∷ edges_joined size 3 E 5 S true ∷ edges_joined size 4 E 5 W false ∷ []

abbrev pub sphere : (size : ℕ) → MosaicLists
sphere size = record { tiles = sphere_tiles size; contacts = sphere_contacts size }

-- its cells
unfoldable pub air_count : (size : ℕ) → ℕ
air_count size = 6 * (size * size)

-- THE OCEAN'S TILE

abbrev pub ocean_columns : (size : ℕ) → ℕ
ocean_columns size = 6 * size + 72

abbrev pub ocean_rows : (size : ℕ) → ℕ
ocean_rows size = 4 * size + 8

unfoldable pub ocean_tiles : (size : ℕ) → List Tile
ocean_tiles size = record { nx = ocean_columns size; ny = ocean_rows size } ∷ []

-- its western edge meets the eastern one, and its northern edge itself
unfoldable pub ocean_contacts : (size : ℕ) → List Contact
ocean_contacts size = edges_joined (ocean_rows size) 0 W 0 E false ∷ edges_joined (ocean_columns size) 0 N 0 N true ∷ []

abbrev pub ocean_mosaic : (size : ℕ) → MosaicLists
ocean_mosaic size = record { tiles = ocean_tiles size; contacts = ocean_contacts size }

-- its cells
unfoldable pub ocean_count : (size : ℕ) → ℕ
ocean_count size = ocean_columns size * ocean_rows size
