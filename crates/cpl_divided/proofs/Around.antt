-- What a field with filled holes has around each of its cells: the numbers of the whole list.
use Rattle.std.proofs.Common.{◌≡◌, ◌∙◌, ap, ℕ, ◌-◌, arith, List}
use Rattle.std.specs.Prelude.{ℤ}
use Rattle.cpl_mosaic.specs.declared.parts.Side.{Side}
use Rattle.cpl_mosaic.specs.declared.parts.Side.TheVariants.{W, E, S, N}
use Rattle.cpl_mosaic.specs.Lists.{MosaicLists}
use Rattle.cpl_mosaic.specs.Mates.{mate_of, walk_of}
use Rattle.cpl_layout.specs.declared.piece.Piece.{Piece}
use Rattle.cpl_layout.specs.Owners.{IsPlaceOf, IsPieceOf, cell_in, edge_place}
use Rattle.cpl_field.specs.Spots.{FieldNumbers, HoleAt, IsSpot, number_at, out_from}
use Rattle.cpl_field.proofs.Walks.{Sees, out_sees}
use Rattle.cpl_divided.specs.Whole.{IsFieldOf, HasCells, HasHoles, beyond}

module _ (mosaic : MosaicLists) (piece : Piece) (is : IsPieceOf mosaic.tiles piece) (xs : List ℤ) (f : FieldNumbers) (sized : IsFieldOf piece f) (cells : HasCells mosaic.tiles xs piece f) (holes : HasHoles mosaic xs piece f) where
  -- a hole of a halo one cell wide is one step out
  hole_at : (side : Side) (k d : ℕ) → d ≡ 1 → number_at f (HoleAt side k 1) ≡ beyond mosaic.tiles xs (walk_of mosaic 0 (cell_in piece (edge_place piece side k), side)) → number_at f (HoleAt side k d) ≡ beyond mosaic.tiles xs (walk_of mosaic (d - 1) (cell_in piece (edge_place piece side k), side))
  hole_at side k d one has =
      let none : 0 ≡ d - 1 = omega arith in
      ap (λ (n : ℕ). number_at f (HoleAt side k n)) one ∙ has ∙ ap (λ (n : ℕ). beyond mosaic.tiles xs (walk_of mosaic n (cell_in piece (edge_place piece side k), side))) none

  hole_sees : (side : Side) (k d : ℕ) → IsSpot f (HoleAt side k d) → number_at f (HoleAt side k d) ≡ beyond mosaic.tiles xs (walk_of mosaic (d - 1) (cell_in piece (edge_place piece side k), side))
  hole_sees W k d on = hole_at W k d (omega arith) (holes W k (omega arith))
  hole_sees E k d on = hole_at E k d (omega arith) (holes E k (omega arith))
  hole_sees S k d on = hole_at S k d (omega arith) (holes S k (omega arith))
  hole_sees N k d on = hole_at N k d (omega arith) (holes N k (omega arith))

  sees : Sees mosaic piece (beyond mosaic.tiles xs) f
  sees = record { nx = sized.nx; ny = sized.ny; cells = λ i j side place. cells i j place; holes = hole_sees }

  pub out_is : (i j : ℕ) → IsPlaceOf piece (i, j) → (side : Side) → number_at f (out_from f i j side 1) ≡ beyond mosaic.tiles xs (mate_of mosaic (cell_in piece (i, j), side))
  out_is i j place side = out_sees mosaic piece is (beyond mosaic.tiles xs) f sees i j side 1 place (omega arith) (omega arith)
