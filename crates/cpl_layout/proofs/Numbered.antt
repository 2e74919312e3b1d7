-- Pieces by their numbers, and owners of cells.
use Rattle.std.proofs.Common.{◌≡◌, refl, sym, ◌∙◌, ap, subst, ℕ, ◌+◌, ◌*◌, ◌<◌, ◌≤◌, arith, length}
use Rattle.std.specs.Prelude.{◌/◌, ◌%◌}
use Rattle.std.proofs.lemmas.Nat.{div-mul-add, mod-mul-add, div-add-mod', div_below, mod_below, mul-add-lt, mul-le}
use Rattle.cpl_mosaic.specs.declared.parts.CellId.{CellId}
use Rattle.cpl_mosaic.specs.declared.parts.Tile.{Tile}
use Rattle.cpl_mosaic.specs.Sides.{tile_at, IsCellOf}
use Rattle.cpl_mosaic.specs.Contacts.{IsTile}
use Rattle.cpl_mosaic.proofs.Places.{tile_in, cells_fit}
use Rattle.cpl_layout.specs.declared.piece.Piece.{Piece}
use Rattle.cpl_layout.specs.Extents.{extent_length, extent_start, part_of}
use Rattle.cpl_layout.specs.Layouts.{Cuts, IsLayout}
use Rattle.cpl_layout.specs.Pieces.{pieces_of, piece_number, piece_in, piece_of, owner_of}
use Rattle.cpl_layout.specs.Owners.{Holds, IsPieceOf, OwnersAgree}
use Rattle.cpl_layout.proofs.Parts.{HasCell, in_part, part_is, part_within, length_some}

-- a piece's tile, row and column, from its number
pub record Placed (layout : Cuts) (p : ℕ) : Type 0 where
  pub tile : p / layout.px / layout.py < length layout.tiles
  pub row : p / layout.px % layout.py < layout.py
  pub column : p % layout.px < layout.px

pub placed : (layout : Cuts) (p : ℕ) → IsLayout layout → p < pieces_of layout → Placed layout p
placed layout p is below =
    let rows : p / layout.px < length layout.tiles * layout.py = div_below p layout.px (length layout.tiles * layout.py) is.columns (omega arith) in
    record {
      tile = div_below (p / layout.px) layout.py (length layout.tiles) is.rows rows;
      row = mod_below (p / layout.px) layout.py is.rows;
      column = mod_below p layout.px is.columns;
    }

-- a tile of a layout is within the limits, and has a cell for each piece of a row or a column
pub record IsCut (layout : Cuts) (t : ℕ) : Type 0 where
  pub tile : IsTile (tile_at layout.tiles t)
  pub wide : layout.px ≤ (tile_at layout.tiles t).nx
  pub high : layout.py ≤ (tile_at layout.tiles t).ny

pub is_cut : (layout : Cuts) (t : ℕ) → IsLayout layout → t < length layout.tiles → IsCut layout t
is_cut layout t is below = record {
  tile = is.sizes.each t (record { nx = 0; ny = 0 }) below;
  wide = is.wide t (record { nx = 0; ny = 0 }) below;
  high = is.high t (record { nx = 0; ny = 0 }) below;
}

-- the number of a piece by tile, row and column gives them back
pub number_back : (layout : Cuts) (t row column : ℕ) → row < layout.py → column < layout.px → piece_of layout (piece_number layout t row column) ≡ piece_in layout t row column
unfolding piece_of
number_back layout t row column below_row below_column =
    let rows = div-mul-add (t * layout.py + row) layout.px column below_column in
    let tile = ap (λ (m : ℕ). m / layout.py) rows ∙ div-mul-add t layout.py row below_row in
    let rows_rest = ap (λ (m : ℕ). m % layout.py) rows ∙ mod-mul-add t layout.py row below_row in
    let columns = mod-mul-add (t * layout.py + row) layout.px column below_column in
    λ s. piece_in layout (tile s) (rows_rest s) (columns s)

-- the piece of a number has this number
pub number_of_piece : (layout : Cuts) (p : ℕ) → piece_number layout (p / layout.px / layout.py) (p / layout.px % layout.py) (p % layout.px) ≡ p
number_of_piece layout p =
    ap (λ (m : ℕ). m * layout.px + p % layout.px) (div-add-mod' (p / layout.px) layout.py) ∙ div-add-mod' p layout.px

pub number_below : (layout : Cuts) (t row column : ℕ) → t < length layout.tiles → row < layout.py → column < layout.px → piece_number layout t row column < pieces_of layout
number_below layout t row column tile below_row below_column =
    let rows = mul-add-lt t layout.py row (length layout.tiles) tile below_row in
    let all = mul-add-lt (t * layout.py + row) layout.px column (layout.py * length layout.tiles) rows below_column in
    omega arith

-- each piece lies in its tile
pub piece_inside : (layout : Cuts) (p : ℕ) → IsLayout layout → p < pieces_of layout → IsPieceOf layout.tiles (piece_of layout p)
unfolding piece_of
piece_inside layout p is below =
    let at = placed layout p is below in
    let t = p / layout.px / layout.py in
    let cut = is_cut layout (p / layout.px / layout.py) is at.tile in
    let tile = cut.tile in
    let fit = cells_fit layout.tiles (p / layout.px / layout.py) is.sizes in
    let east = part_within (tile_at layout.tiles (p / layout.px / layout.py)).nx layout.px (p % layout.px) is.columns at.column in
    let north = part_within (tile_at layout.tiles (p / layout.px / layout.py)).ny layout.py (p / layout.px % layout.py) is.rows at.row in
    let nx_most = tile.nx_most in
    let ny_most = tile.ny_most in
    let whole = mul-le
    (extent_length (tile_at layout.tiles (p / layout.px / layout.py)).nx layout.px (p % layout.px))
    (extent_length (tile_at layout.tiles (p / layout.px / layout.py)).ny layout.py (p / layout.px % layout.py))
    (tile_at layout.tiles (p / layout.px / layout.py)).nx
    (tile_at layout.tiles (p / layout.px / layout.py)).ny
    (omega arith)
    (omega arith) in
    record {
      shape = record {
        nx_least = length_some (tile_at layout.tiles (p / layout.px / layout.py)).nx layout.px (p % layout.px) is.columns cut.wide;
        nx_most = omega arith;
        ny_least = length_some (tile_at layout.tiles (p / layout.px / layout.py)).ny layout.py (p / layout.px % layout.py) is.rows cut.high;
        ny_most = omega arith;
        cells = omega arith;
      };
      east = east;
      north = north;
    }

-- the row and the column of pieces that a cell lies in
pub record Within (layout : Cuts) (cell : CellId) : Type 0 where
  pub tile : cell.tile < length layout.tiles
  pub column : HasCell (tile_at layout.tiles cell.tile).nx layout.px cell.i (part_of (tile_at layout.tiles cell.tile).nx layout.px cell.i)
  pub row : HasCell (tile_at layout.tiles cell.tile).ny layout.py cell.j (part_of (tile_at layout.tiles cell.tile).ny layout.py cell.j)

pub within : (layout : Cuts) (cell : CellId) → IsLayout layout → IsCellOf layout.tiles cell → Within layout cell
within layout cell is of = record {
  tile = tile_in layout.tiles cell of;
  column = in_part (tile_at layout.tiles cell.tile).nx layout.px cell.i is.columns of.column;
  row = in_part (tile_at layout.tiles cell.tile).ny layout.py cell.j is.rows of.row;
}

pub owner_below : (layout : Cuts) (cell : CellId) → IsLayout layout → IsCellOf layout.tiles cell → owner_of layout cell < pieces_of layout
unfolding owner_of
owner_below layout cell is of =
    let at = within layout cell is of in
    number_below layout cell.tile (part_of (tile_at layout.tiles cell.tile).ny layout.py cell.j) (part_of (tile_at layout.tiles cell.tile).nx layout.px cell.i) at.tile at.row.below at.column.below

pub owner_holds : (layout : Cuts) (cell : CellId) → IsLayout layout → IsCellOf layout.tiles cell → Holds (piece_of layout (owner_of layout cell)) cell
unfolding owner_of
owner_holds layout cell is of =
    let at = within layout cell is of in
    subst (λ (piece : Piece). Holds piece cell)
    (sym (number_back layout cell.tile (part_of (tile_at layout.tiles cell.tile).ny layout.py cell.j) (part_of (tile_at layout.tiles cell.tile).nx layout.px cell.i) at.row.below at.column.below))
    (record { tile = refl; west = at.column.low; east = at.column.high; south = at.row.low; north = at.row.high })

-- the owner, from the row and the column of pieces
pub owner_is : (layout : Cuts) (cell : CellId) (row column : ℕ) → row ≡ part_of (tile_at layout.tiles cell.tile).ny layout.py cell.j → column ≡ part_of (tile_at layout.tiles cell.tile).nx layout.px cell.i → (cell.tile * layout.py + row) * layout.px + column ≡ owner_of layout cell
unfolding owner_of
owner_is layout cell row column row_is column_is = λ s. (cell.tile * layout.py + row_is s) * layout.px + column_is s

-- a piece, from the extents of its columns and rows
pub piece_is : (layout : Cuts) (p : ℕ) (tile : Tile) (columns rows : ℕ × ℕ) → tile ≡ tile_at layout.tiles (p / layout.px / layout.py) → columns.0 ≡ extent_start tile.nx layout.px (p % layout.px) → columns.1 ≡ extent_length tile.nx layout.px (p % layout.px) → rows.0 ≡ extent_start tile.ny layout.py (p / layout.px % layout.py) → rows.1 ≡ extent_length tile.ny layout.py (p / layout.px % layout.py)
    → record { tile = p / layout.px / layout.py; i0 = columns.0; nx = columns.1; j0 = rows.0; ny = rows.1 } ≡ piece_of layout p
unfolding piece_of
piece_is layout p tile columns rows at i0 nx j0 ny =
    let i0_is = i0 ∙ ap (λ (t : Tile). extent_start t.nx layout.px (p % layout.px)) at in
    let nx_is = nx ∙ ap (λ (t : Tile). extent_length t.nx layout.px (p % layout.px)) at in
    let j0_is = j0 ∙ ap (λ (t : Tile). extent_start t.ny layout.py (p / layout.px % layout.py)) at in
    let ny_is = ny ∙ ap (λ (t : Tile). extent_length t.ny layout.py (p / layout.px % layout.py)) at in
    λ s. record { tile = p / layout.px / layout.py; i0 = i0_is s; nx = nx_is s; j0 = j0_is s; ny = ny_is s }

-- a piece that has a cell is its owner
pub owner_only : (layout : Cuts) (p : ℕ) (cell : CellId) → IsLayout layout → p < pieces_of layout → Holds (piece_of layout p) cell → p ≡ owner_of layout cell
unfolding piece_of owner_of
owner_only layout p cell is below has =
    let at = placed layout p is below in
    let tile = has.tile in
    let nx : (tile_at layout.tiles (p / layout.px / layout.py)).nx ≡ (tile_at layout.tiles cell.tile).nx = ap (λ (t : ℕ). (tile_at layout.tiles t).nx) (sym tile) in
    let ny : (tile_at layout.tiles (p / layout.px / layout.py)).ny ≡ (tile_at layout.tiles cell.tile).ny = ap (λ (t : ℕ). (tile_at layout.tiles t).ny) (sym tile) in
    let column = ap (λ (n : ℕ). part_of n layout.px cell.i) (sym nx) ∙ part_is (tile_at layout.tiles (p / layout.px / layout.py)).nx layout.px cell.i (p % layout.px) at.column has.west has.east in
    let row = ap (λ (n : ℕ). part_of n layout.py cell.j) (sym ny) ∙ part_is (tile_at layout.tiles (p / layout.px / layout.py)).ny layout.py cell.j (p / layout.px % layout.py) at.row has.south has.north in
    sym (number_of_piece layout p) ∙ (λ s. piece_number layout (sym tile s) (sym row s) (sym column s))

pub owners_agree : (layout : Cuts) → IsLayout layout → OwnersAgree layout
owners_agree layout is = record {
  below = λ cell of. owner_below layout cell is of;
  holds = λ cell of. owner_holds layout cell is of;
  only = λ p cell below has. owner_only layout p cell is below has;
  inside = λ p below. piece_inside layout p is below;
  order = λ t row column below_row below_column. number_back layout t row column below_row below_column;
}
