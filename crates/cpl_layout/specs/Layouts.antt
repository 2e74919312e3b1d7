-- Layouts as data, and which there are.
use Rattle.std.specs.Prelude.{◌≡◌, ℕ, ◌*◌, ◌≤◌, ◌||◌, nat_lt, Bool, List, length, Option, Some, if◌then◌else◌, position, All}
use Rattle.std.specs.Option.{option_map}
use Rattle.cpl_fixed.specs.declared.words.LayoutError.{LayoutError}
use Rattle.cpl_fixed.specs.declared.words.LayoutError.TheVariants.{TooManyPieces, TooFine, Memory}
use Rattle.cpl_fixed.specs.declared.limits.TheConstants.{MOST_PIECES}
use Rattle.cpl_mosaic.specs.declared.parts.Tile.{Tile}
use Rattle.cpl_mosaic.specs.Contacts.{AreTiles}

-- tiles, each cut into px columns and py rows of pieces
pub record Cuts : Type 0 where
  pub tiles : List Tile
  pub px : ℕ
  pub py : ℕ

-- a tile with fewer columns or rows of cells than of pieces
abbrev pub is_too_fine : ℕ → ℕ → Tile → Bool
is_too_fine px py tile = nat_lt tile.nx px || nat_lt tile.ny py

-- the first broken rule: at most 64 pieces, and no tile too fine, the least such tile
abbrev pub layout_fault : List Tile → ℕ → ℕ → Option LayoutError
layout_fault tiles px py =
    if nat_lt MOST_PIECES (length tiles * px * py) then Some (TooManyPieces (length tiles * px * py)) else option_map TooFine (position (is_too_fine px py) tiles)

-- what making a layout answers is the first broken rule, or that there was no memory
abbrev pub IsFirstFault : Option LayoutError → LayoutError → Type 0
IsFirstFault found Memory = Unit {0}
IsFirstFault found fault = found ≡ Some fault

-- tiles within the limits, cut into at most 64 pieces, none of them empty
pub record IsLayout (layout : Cuts) : Type 0 where
  pub sizes : AreTiles layout.tiles
  pub columns : 1 ≤ layout.px
  pub rows : 1 ≤ layout.py
  pub few : length layout.tiles * layout.px * layout.py ≤ MOST_PIECES
  pub wide : All (λ tile. layout.px ≤ tile.nx) layout.tiles
  pub high : All (λ tile. layout.py ≤ tile.ny) layout.tiles
