-- What callers need to know of what crosses between pieces.
use Rattle.std.specs.Prelude.{◌≡◌, ◌≢◌, ℕ, ◌*◌, ◌<◌, List, [], length, ℤ, pos, ◌≤ℤ◌, slice_index_or, All}
use Rattle.cpl_fixed.specs.Totals.{total_of}
use Rattle.cpl_fixed.specs.declared.limits.TheConstants.{MOST_TOTAL}
use Rattle.cpl_mosaic.specs.Contacts.{cells_of}
use Rattle.cpl_layout.specs.declared.piece.Piece.{Piece}
use Rattle.cpl_layout.specs.Layouts.{Cuts}
use Rattle.cpl_layout.specs.Pieces.{pieces_of, piece_of}
use Rattle.cpl_xgrid.specs.declared.grid.Grid.{Grid}
use Rattle.cpl_xgrid.specs.Rules.{tiles_of}
use Rattle.cpl_xput.specs.Sums.{ArePlaces}
use Rattle.cpl_xput.specs.Exchanges.{Exchange}

-- how many cells a piece has
abbrev pub size_of : Piece → ℕ
size_of piece = piece.nx * piece.ny

-- there are places for each piece of a layout, and they lie in it
pub record LieInPieces (layout : Cuts) (places : List (List ℕ)) : Type 0 where
  pub count : length places ≡ pieces_of layout
  pub each : (p : ℕ) → p < pieces_of layout → ArePlaces (size_of (piece_of layout p)) (slice_index_or places p [])

-- weights that any amount can be divided over
pub record CanDrain (weights : List ℤ) : Type 0 where
  pub each : All (λ weight. pos 0 ≤ℤ weight) weights
  pub some : pos 1 ≤ℤ total_of weights
  pub most : total_of weights ≤ℤ pos MOST_TOTAL

-- The places of the exchange cells of each piece lie in it. What a cell of the land has can be divided over its outlets, if it
-- has one, and each with an area has one.
pub record IsExchange (grid : Grid) (air land ocean : Cuts) (exchange : Exchange) : Type 0 where
  pub of_air : LieInPieces air exchange.air
  pub of_land : LieInPieces land exchange.land
  pub of_ocean : LieInPieces ocean exchange.ocean
  pub elements : length exchange.elements ≡ cells_of (tiles_of grid.air)
  pub weights : length exchange.weights ≡ cells_of (tiles_of grid.land)
  pub drains : (n : ℕ) → n < cells_of (tiles_of grid.land) → slice_index_or exchange.weights n [] ≢ [] → CanDrain (slice_index_or exchange.weights n [])
  pub outlets : (n : ℕ) → n < cells_of (tiles_of grid.land) → slice_index_or grid.land.area n (pos 0) ≢ pos 0 → slice_index_or exchange.weights n [] ≢ []
