-- The pieces that a component runs in.
use Rattle.std.specs.Prelude.{ℕ, List, Option}
use Rattle.std.specs.Option.{option_map, option_and_then}
use Rattle.cpl_fixed.specs.Ranges.{IsFrom}
use Rattle.cpl_fixed.specs.declared.limits.TheConstants.{MOST_PIECES}
use Rattle.cpl_words.specs.Arguments.{positive_of}
use Rattle.cpl_top.specs.declared.pieces.Pieces.{Pieces}

-- 1 to 64 columns, and as many rows
pub record ArePieces (pieces : Pieces) : Type 0 where
  pub columns : IsFrom 1 MOST_PIECES pieces.px
  pub rows : IsFrom 1 MOST_PIECES pieces.py

-- the pieces that two words are, if they are such numbers
abbrev pub pieces_of : List ℕ → List ℕ → Option Pieces
pieces_of px py = option_and_then (λ columns. option_map (λ rows. record { px = columns; py = rows }) (positive_of MOST_PIECES py)) (positive_of MOST_PIECES px)
