-- Where each number of a value stands.
use Rattle.std.specs.Prelude.{◌≡◌, ℕ, ◌+◌, ◌*◌, ◌<◌, List, length, ℤ, slice_index_or}
use Rattle.cpl_fixed.specs.Amounts.{at}
use Rattle.cpl_mosaic.specs.declared.mosaic.Mesh.{Mesh}
use Rattle.cpl_mosaic.specs.declared.parts.Side.{Side}
use Rattle.cpl_mosaic.specs.declared.parts.Side.TheVariants.{W}
use Rattle.cpl_layout.specs.Layouts.{Cuts}
use Rattle.cpl_state.specs.Transport.{Sea, cell_in}
use Rattle.cpl_rounds.specs.Rounds.{outward_in}
use Rattle.cpl_rounds.specs.Values.{cell_number_at, side_of}

-- the item at a place of what an edge carries: an exchange cell, an outlet, a cell, or a side of a cell
abbrev pub item : (items : List ℕ) → (q : ℕ) → ℕ
item items q = slice_index_or items q 0

abbrev pub side_item : (sides : List (ℕ × Side)) → (q : ℕ) → ℕ × Side
side_item sides q = slice_index_or sides q (0, W)

-- each item is below a count
abbrev pub AreBelow : (count : ℕ) → (items : List ℕ) → Type 0
AreBelow count items = (q : ℕ) → q < length items → item items q < count

-- as many numbers for each item in turn
pub record HasBlocks (width : ℕ) (block : ℕ → List ℤ) (items : List ℕ) (numbers : List ℤ) : Type 0 where
  pub long : length numbers ≡ length items * width
  pub each : (q j : ℕ) → q < length items → j < width → at numbers (q * width + j) ≡ at (block (item items q)) j

-- four numbers for each element of each exchange cell in turn
pub record HasElements (parts : ℕ) (block : (row k : ℕ) → List ℤ) (rows : List ℕ) (numbers : List ℤ) : Type 0 where
  pub long : length numbers ≡ length rows * parts * 4
  pub each : (q k j : ℕ) → q < length rows → k < parts → j < 4 → at numbers ((q * parts + k) * 4 + j) ≡ at (block (item rows q) k) j

-- one number for each cell, and then another
pub record HasPairs (first second : ℕ → ℤ) (cells : List ℕ) (numbers : List ℤ) : Type 0 where
  pub long : length numbers ≡ 2 * length cells
  pub first_is : (q : ℕ) → q < length cells → at numbers q ≡ first (item cells q)
  pub second_is : (q : ℕ) → q < length cells → at numbers (length cells + q) ≡ second (item cells q)

-- water, heat and salt of these cells, layer by layer, and then the faces of these sides, layer by layer
pub record HasSea (mesh : Mesh) (layers : ℕ) (sea : Sea) (cells : List ℕ) (sides : List (ℕ × Side)) (numbers : List ℤ) : Type 0 where
  pub long : length numbers ≡ layers * 3 * length cells + layers * length sides
  pub water : (layer q : ℕ) → layer < layers → q < length cells → at numbers (layer * 3 * length cells + q) ≡ (cell_in mesh sea layer (item cells q)).water
  pub heat : (layer q : ℕ) → layer < layers → q < length cells → at numbers ((layer * 3 + 1) * length cells + q) ≡ (cell_in mesh sea layer (item cells q)).heat
  pub salt : (layer q : ℕ) → layer < layers → q < length cells → at numbers ((layer * 3 + 2) * length cells + q) ≡ (cell_in mesh sea layer (item cells q)).salt
  pub face : (layer q : ℕ) → layer < layers → q < length sides
      → at numbers (layers * 3 * length cells + (layer * length sides + q)) ≡ outward_in mesh sea layer (side_item sides q).0 (side_item sides q).1

-- the cell at each of these places of a piece, by its number
pub record AreCellsAt (layout : Cuts) (piece : ℕ) (places : List (ℕ × ℕ)) (cells : List ℕ) : Type 0 where
  pub count : length cells ≡ length places
  pub each : (q : ℕ) → q < length places → item cells q ≡ cell_number_at layout piece (slice_index_or places q (0, 0))

-- the side at each of these spots of a piece, with the number of its cell
pub record AreSidesAt (layout : Cuts) (piece : ℕ) (spots : List (ℕ × ℕ × Side)) (sides : List (ℕ × Side)) : Type 0 where
  pub count : length sides ≡ length spots
  pub each : (q : ℕ) → q < length spots → side_item sides q ≡ side_of layout piece (slice_index_or spots q (0, 0, W))
