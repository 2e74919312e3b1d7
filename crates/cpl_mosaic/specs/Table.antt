-- The table of what contacts join to the sides along the edges of tiles.
use Rattle.std.specs.Prelude.{◌≡◌, ℕ, ◌+◌, ◌*◌, Bool, List, [], ◌∷◌, map, length, take, Option, Some, None, if◌then◌else◌, option_and_then, slice_index_or, slice_set}
use Rattle.std.specs.List.{find, range_with_len}
use Rattle.std.specs.Option.{option_map, is_some}
use Rattle.cpl_mosaic.specs.declared.parts.Tile.{Tile}
use Rattle.cpl_mosaic.specs.declared.parts.Contact.{Contact}
use Rattle.cpl_mosaic.specs.declared.parts.Side.{Side}
use Rattle.cpl_mosaic.specs.declared.parts.Side.TheVariants.{W, E, S, N}
use Rattle.cpl_mosaic.specs.declared.parts.CellId.{CellId}
use Rattle.cpl_mosaic.specs.declared.offsets.TileOffset.{TileOffset}
use Rattle.cpl_mosaic.specs.Sides.{CellSide, tile_at, is_same_side, IsEdgeSide}
use Rattle.cpl_mosaic.specs.Contacts.{all_joins, cells_of, IsMosaic}

-- how many sides lie along the edges of tiles
abbrev pub sides_of : List Tile → ℕ
sides_of [] = 0
sides_of (tile ∷ tiles) = 2 * (tile.nx + tile.ny) + sides_of tiles

-- the cells and the edge sides of the tiles before the t-th
abbrev pub offset_at : List Tile → ℕ → TileOffset
offset_at tiles t = record { cells = cells_of (take t tiles); sides = sides_of (take t tiles) }

-- the offsets of all tiles, and after them the totals
abbrev pub offsets_of : List Tile → List TileOffset
offsets_of tiles = map (offset_at tiles) (range_with_len 0 (length tiles + 1))

-- the place of a side among those along the edges of its tile: W, E, S, N, each edge in its order
abbrev pub place_in : Tile → CellId → Side → ℕ
place_in tile cell W = cell.j
place_in tile cell E = tile.ny + cell.j
place_in tile cell S = 2 * tile.ny + cell.i
place_in tile cell N = 2 * tile.ny + tile.nx + cell.i

-- the place of a side among those along the edges of all tiles
abbrev pub place_of : List Tile → CellSide → ℕ
place_of tiles a = sides_of (take a.0.tile tiles) + place_in (tile_at tiles a.0.tile) a.0 a.1

-- what the first of the pairs that has the side joins to it
abbrev pub joined_to : List (CellSide × CellSide) → CellSide → Option CellSide
joined_to joins a = option_map (λ pair. pair.1) (find (λ pair. is_same_side a pair.0) joins)

-- the table holds at each edge side's place what the pairs join to it
pub record IsTable (tiles : List Tile) (joins : List (CellSide × CellSide)) (table : List (Option CellSide)) : Type 0 where
  pub size : length table ≡ sides_of tiles
  pub each : (a : CellSide) → IsEdgeSide tiles a → slice_index_or table (place_of tiles a) None ≡ joined_to joins a

-- whether the table has something at the place of the pair's first side
abbrev pub is_taken : List Tile → List (Option CellSide) → CellSide × CellSide → Bool
is_taken tiles table pair = is_some (slice_index_or table (place_of tiles pair.0) None)

-- the table with a side at a place, or None where another side stands there
abbrev pub put : List (Option CellSide) → ℕ → CellSide → Option CellSide → Option (List (Option CellSide))
put table place to None = Some (slice_set table place (Some to))
put table place to (Some other) = if is_same_side other to then Some table else None

-- the table with one more pair, seen from its first side
abbrev pub with_join : List Tile → List (Option CellSide) → CellSide × CellSide → Option (List (Option CellSide))
with_join tiles table pair =
    put table (place_of tiles pair.0) pair.1 (slice_index_or table (place_of tiles pair.0) None)

-- the table with more pairs, or None where they join one side to two different sides
abbrev pub with_joins : List Tile → List (CellSide × CellSide) → List (Option CellSide) → Option (List (Option CellSide))
with_joins tiles [] table = Some table
with_joins tiles (pair ∷ joins) table = option_and_then (with_joins tiles joins) (with_join tiles table pair)

-- what a mosaic keeps beside its lists
pub record IsKept (tiles : List Tile) (contacts : List Contact) (offsets : List TileOffset) (table : List (Option CellSide)) : Type 0 where
  pub mosaic : IsMosaic tiles contacts
  pub begin : offsets ≡ offsets_of tiles
  pub joined : IsTable tiles (all_joins tiles contacts) table
