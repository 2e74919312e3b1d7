-- Steps from a cell that lies inside a piece.
use Rattle.std.proofs.Common.{◌≡◌, ◌∙◌, refl, sym, ℕ, ◌+◌, ◌-◌, ◌≤◌, arith, Bool, true, false, nat_lt}
use Rattle.std.specs.Prelude.{nat_le, if◌then◌else◌}
use Rattle.std.proofs.lemmas.Bool.{leb-false, ltb-false}
use Rattle.cpl_mosaic.specs.declared.parts.Side.{Side}
use Rattle.cpl_mosaic.specs.declared.parts.Side.TheVariants.{W, E, S, N}
use Rattle.cpl_layout.specs.declared.piece.Piece.{Piece}
use Rattle.cpl_layout.specs.Owners.{IsPlaceOf}
use Rattle.cpl_field.specs.Spots.{FieldNumbers, Spot, CellAt, HoleAt, IsSameShape, out_from, stepped}
use Rattle.cpl_field.specs.Sweeps.{IsInside}
use Rattle.cpl_field.proofs.Walks.{ahead}

-- SHAPES

pub other_way : (f g : FieldNumbers) → IsSameShape f g → IsSameShape g f
other_way f g same = record { nx = sym same.nx; ny = sym same.ny; width = sym same.width }

pub both_shapes : (f g h : FieldNumbers) → IsSameShape f g → IsSameShape g h → IsSameShape f h
both_shapes f g h one other = record { nx = other.nx ∙ one.nx; ny = other.ny ∙ one.ny; width = other.width ∙ one.width }

-- STEPS

cell_if : (b : Bool) (one other : Spot) → (b ≡ false → ⊥) → (if b then one else other) ≡ one
cell_if true one other never = refl
cell_if false one other never = absurd (never refl)

pub out_cell : (width : ℕ) (area : FieldNumbers) (i j : ℕ) (side : Side) (d : ℕ) → IsInside width area i j → d ≤ width → out_from area i j side d ≡ CellAt (stepped i j side d).0 (stepped i j side d).1
out_cell width area i j W d inner most = let west = inner.west in cell_if (nat_le d i) (CellAt (i - d) j) (HoleAt W j (d - i)) (λ t. let l = leb-false d i t in omega arith)
out_cell width area i j E d inner most = let east = inner.east in cell_if (nat_lt (i + d) area.nx) (CellAt (i + d) j) (HoleAt E j (i + d + 1 - area.nx)) (λ t. let l = ltb-false (i + d) area.nx t in omega arith)
out_cell width area i j S d inner most = let south = inner.south in cell_if (nat_le d j) (CellAt i (j - d)) (HoleAt S i (d - j)) (λ t. let l = leb-false d j t in omega arith)
out_cell width area i j N d inner most = let north = inner.north in cell_if (nat_lt (j + d) area.ny) (CellAt i (j + d)) (HoleAt N i (j + d + 1 - area.ny)) (λ t. let l = ltb-false (j + d) area.ny t in omega arith)

module _ (width : ℕ) (piece : Piece) (area : FieldNumbers) (nx : area.nx ≡ piece.nx) (ny : area.ny ≡ piece.ny) (i j : ℕ) (place : IsPlaceOf piece (i, j)) (inner : IsInside width area i j) where
  pub far_from : (side : Side) (d : ℕ) → d ≤ width → d ≤ ahead piece i j side
  far_from W d most = let west = inner.west in omega arith
  far_from E d most = let east = inner.east in omega arith
  far_from S d most = let south = inner.south in omega arith
  far_from N d most = let north = inner.north in omega arith

  pub place_out : (side : Side) (d : ℕ) → d ≤ width → IsPlaceOf piece (stepped i j side d)
  place_out W d most = let column = place.column in record { column = omega arith; row = place.row }
  place_out E d most = let east = inner.east in record { column = omega arith; row = place.row }
  place_out S d most = let row = place.row in record { column = place.column; row = omega arith }
  place_out N d most = let north = inner.north in record { column = place.column; row = omega arith }
