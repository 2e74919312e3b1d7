-- Where the edges of a piece lie, and where walks lead.
use Rattle.std.proofs.Common.{◌≡◌, sym, ◌∙◌, ap, ℕ, zero, suc, ◌+◌, ◌<◌, ◌≤◌, arith, List, length, Some, inl, inr}
use Rattle.std.proofs.lemmas.Bool.{cases_lt}
use Rattle.std.proofs.lemmas.List.{get_or_past}
use Rattle.cpl_mosaic.specs.declared.parts.Side.{Side}
use Rattle.cpl_mosaic.specs.declared.parts.Side.TheVariants.{W, E, S, N}
use Rattle.cpl_mosaic.specs.declared.parts.Tile.{Tile}
use Rattle.cpl_mosaic.specs.declared.parts.CellId.{CellId}
use Rattle.cpl_mosaic.specs.Lists.{MosaicLists}
use Rattle.cpl_mosaic.specs.Sides.{CellSide, tile_at, IsCellOf}
use Rattle.cpl_mosaic.specs.Contacts.{IsTile, AreTiles}
use Rattle.cpl_mosaic.specs.Mates.{MatesAgree, onward, one_further, walk_of}
use Rattle.cpl_layout.specs.declared.piece.Piece.{Piece}
use Rattle.cpl_layout.specs.Owners.{Holds, IsPieceOf, IsPlaceOf, cell_in, place_in}
use Rattle.cpl_strip.specs.Holes.{edge_of, edge_place}
use Rattle.cpl_strip.proofs.Picks.{cases_option}

-- a piece ends within the longest tile
pub record Ends (piece : Piece) : Type 0 where
  pub east : piece.i0 + piece.nx ≤ 1024
  pub north : piece.j0 + piece.ny ≤ 1024

pub piece_ends : (tiles : List Tile) (piece : Piece) → AreTiles tiles → IsPieceOf tiles piece → Ends piece
piece_ends tiles piece sizes is = elim (cases_lt piece.tile (length tiles)) [
  | inl below ↦
      let tile : IsTile (tile_at tiles piece.tile) = sizes.each piece.tile (record { nx = 0; ny = 0 }) below in
      let nx = tile.nx_most in
      let ny = tile.ny_most in
      let east = is.east in
      let north = is.north in
      record { east = omega arith; north = omega arith }
  | inr past ↦
      let none : (tile_at tiles piece.tile).nx ≡ 0 = ap (λ (tile : Tile). tile.nx) (get_or_past tiles piece.tile (record { nx = 0; ny = 0 }) past) in
      let east = is.east in
      let least = is.shape.nx_least in
      absurd (omega arith)
]

-- the cells along the edges of a piece are of its tile
pub edge_inside : (tiles : List Tile) (piece : Piece) (side : Side) (k : ℕ) → IsPieceOf tiles piece → k < edge_of piece side → IsCellOf tiles (cell_in piece (edge_place piece side k))
edge_inside tiles piece W k is below =
    let east = is.east in let north = is.north in let nx = is.shape.nx_least in let ny = is.shape.ny_least in record { column = omega arith; row = omega arith }
edge_inside tiles piece E k is below =
    let east = is.east in let north = is.north in let nx = is.shape.nx_least in let ny = is.shape.ny_least in record { column = omega arith; row = omega arith }
edge_inside tiles piece S k is below =
    let east = is.east in let north = is.north in let nx = is.shape.nx_least in let ny = is.shape.ny_least in record { column = omega arith; row = omega arith }
edge_inside tiles piece N k is below =
    let east = is.east in let north = is.north in let nx = is.shape.nx_least in let ny = is.shape.ny_least in record { column = omega arith; row = omega arith }

-- a walk leads to a cell of the mosaic
pub walk_inside : (mosaic : MosaicLists) (n : ℕ) (a b : CellSide) → MatesAgree mosaic → IsCellOf mosaic.tiles a.0 → walk_of mosaic n a ≡ Some b → IsCellOf mosaic.tiles b.0
walk_inside mosaic zero a b mates cell walked = mates.within a b cell walked
walk_inside mosaic (suc n) a b mates cell walked = elim (cases_option (walk_of mosaic n a)) [
  | inl none ↦ absurd (let ended = ap (one_further mosaic) none in cc)
  | inr (before, some) ↦
      mates.within (onward before) b (walk_inside mosaic n a before mates cell some) (sym (ap (one_further mosaic) some) ∙ walked)
]

-- a cell's place is one of the piece that has it
pub place_is : (piece : Piece) (cell : CellId) → Holds piece cell → IsPlaceOf piece (place_in piece cell)
place_is piece cell held =
    let west = held.west in let east = held.east in let south = held.south in let north = held.north in
    record { column = omega arith; row = omega arith }
