-- Pieces of a row stay pieces of it, with little amounts, where a spot or a field is set.
use Rattle.std.proofs.Common.{◌≡◌, ◌≢◌, ◌∙◌, sym, ap, subst, ℕ, zero, suc, ◌<◌, ◌⊎◌, arith, inl, inr, true, false, to_z, of_z, w64}
use Rattle.std.specs.Prelude.{ℤ, pos}
use Rattle.std.proofs.lemmas.Int.{ints}
use Rattle.cpl_ice.specs.declared.parts.Salty.{Salty}
use Rattle.std.proofs.lemmas.Bool.{cases_Bool, cases_eq}
use Rattle.cpl_mosaic.specs.declared.parts.Side.{Side}
use Rattle.cpl_mosaic.specs.declared.parts.Side.TheVariants.{W}
use Rattle.cpl_mosaic.specs.Sides.{is_same_direction}
use Rattle.cpl_layout.specs.declared.piece.Piece.{Piece}
use Rattle.cpl_field.specs.Spots.{FieldNumbers, Spot, CellAt, HoleAt, IsSpot, IsSameShape, Sets, number_at}
use Rattle.cpl_ocean.specs.Pieces.{IsEmptyOcean, ChangesField, ChangesLayer, ChangesSide, LoadsCells, LoadsHoles, OceanNumbers, field_in, fields_at}
use Rattle.cpl_ocean.proofs.Around.{spot_same}
use Rattle.cpl_ocean.proofs.Stored.{back_shape, hole_not_cell}
use Rattle.cpl_sea.proofs.Sides.{own_way, same_way}
use Rattle.cpl_ocean_tests.specs.Rows.{IsFieldOf, IsLittle, IsOceanOf}

abbrev first : Spot → ℕ
first (CellAt i j) = i
first (HoleAt side k depth) = k

abbrev second : Spot → ℕ
second (CellAt i j) = j
second (HoleAt side k depth) = depth

abbrev side_of : Spot → Side
side_of (CellAt i j) = W
side_of (HoleAt side k depth) = side

other_side : (s t : Side) (k l d e : ℕ) → is_same_direction s t ≡ false → HoleAt s k d ≢ HoleAt t l e
other_side s t k l d e apart same =
    let yes : is_same_direction s t ≡ true = sym (ap (λ (u : Spot). is_same_direction s (side_of u)) same) ∙ own_way s in
    absurd (cc (yes, apart))

-- two spots are one or not
one_or_other : (a b : Spot) → (a ≡ b) ⊎ (a ≢ b)
one_or_other (CellAt i j) (CellAt k l) = elim (cases_eq i k) [
  | inl e ↦ elim (cases_eq j l) [
    | inl f ↦ inl (λ t. CellAt (e t) (f t))
    | inr ne ↦ inr (λ same. ne (ap second same))
  ]
  | inr ne ↦ inr (λ same. ne (ap first same))
]
one_or_other (CellAt i j) (HoleAt side k depth) = inr (λ same. hole_not_cell side k depth i j (sym same))
one_or_other (HoleAt side k depth) (CellAt i j) = inr (hole_not_cell side k depth i j)
one_or_other (HoleAt s k d) (HoleAt t l e) = elim (cases_Bool (is_same_direction s t)) [
  | inl way ↦ elim (cases_eq k l) [
    | inl f ↦ elim (cases_eq d e) [
      | inl g ↦ inl (λ x. HoleAt (same_way s t way x) (f x) (g x))
      | inr ne ↦ inr (λ same. ne (ap second same))
    ]
    | inr ne ↦ inr (λ same. ne (ap first same))
  ]
  | inr apart ↦ inr (other_side s t k l d e apart)
]

-- a word keeps what is little
pub in_word : (x : ℤ) → IsLittle x → IsLittle (to_z w64 (of_z w64 x))
in_word x little = (omega (arith, ints, little.0, little.1), omega (arith, ints, little.0, little.1))

-- a field with another number
pub set_little : (piece : Piece) (old new : FieldNumbers) (spot : Spot) (x : ℤ) → IsFieldOf piece old → Sets old new spot x → IsLittle x → IsFieldOf piece new
set_little piece old new spot x is sets little = record {
  columns = sets.shape.nx ∙ is.columns;
  rows = sets.shape.ny ∙ is.rows;
  width = sets.shape.width ∙ is.width;
  little = λ other on.
      let there = spot_same new old (back_shape old new sets.shape) other on in
      elim (one_or_other other spot) [
        | inl e ↦ subst IsLittle (sym (ap (number_at new) e ∙ sets.there)) little
        | inr ne ↦ subst IsLittle (sym (sets.others other there ne)) (is.little other there)
      ];
}

-- fields of one piece have one shape
pub alike : (piece : Piece) (f g : FieldNumbers) → IsFieldOf piece f → IsFieldOf piece g → IsSameShape f g
alike piece f g of also = record { nx = also.columns ∙ sym of.columns; ny = also.rows ∙ sym of.rows; width = also.width ∙ sym of.width }

-- a field with the cells or the holes of another
pub cells_little : (piece : Piece) (from old new : FieldNumbers) → IsFieldOf piece from → IsFieldOf piece old → LoadsCells from old new → IsFieldOf piece new
cells_little piece from old new of is loads = record {
  columns = loads.shape.nx ∙ is.columns;
  rows = loads.shape.ny ∙ is.rows;
  width = loads.shape.width ∙ is.width;
  little = λ other on. pick other (spot_same new old (back_shape old new loads.shape) other on);
}
  where
    pick : (other : Spot) → IsSpot old other → IsLittle (number_at new other)
    pick (CellAt i j) on = subst IsLittle (sym (loads.cells i j on)) (of.little (CellAt i j) (spot_same old from (alike piece old from is of) (CellAt i j) on))
    pick (HoleAt side k depth) on = subst IsLittle (sym (loads.holes side k depth on)) (is.little (HoleAt side k depth) on)

pub holes_little : (piece : Piece) (from old new : FieldNumbers) → IsFieldOf piece from → IsFieldOf piece old → LoadsHoles from old new → IsFieldOf piece new
holes_little piece from old new of is loads = record {
  columns = loads.shape.nx ∙ is.columns;
  rows = loads.shape.ny ∙ is.rows;
  width = loads.shape.width ∙ is.width;
  little = λ other on. pick other (spot_same new old (back_shape old new loads.shape) other on);
}
  where
    pick : (other : Spot) → IsSpot old other → IsLittle (number_at new other)
    pick (CellAt i j) on = subst IsLittle (sym (loads.cells i j on)) (is.little (CellAt i j) on)
    pick (HoleAt side k depth) on = subst IsLittle (sym (loads.holes side k depth on)) (of.little (HoleAt side k depth) (spot_same old from (alike piece old from is of) (HoleAt side k depth) on))

-- an ocean with another field
pub loaded : (piece : Piece) (n : ℕ) (Changes : FieldNumbers → FieldNumbers → Type 0) (old new : OceanNumbers) → n < 3
    → (IsFieldOf piece (field_in (fields_at old 0) n) → Changes (field_in (fields_at old 0) n) (field_in (fields_at new 0) n) → IsFieldOf piece (field_in (fields_at new 0) n))
    → IsOceanOf piece old → ChangesLayer 0 (ChangesField n Changes) old new → IsOceanOf piece new
loaded piece n Changes old new within keeps is changes = record {
  area = subst (IsFieldOf piece) (sym changes.area) is.area;
  count = changes.count ∙ is.count;
  fields = λ m few. elim (cases_eq m n) [
    | inl e ↦ subst (λ (k : ℕ). IsFieldOf piece (field_in (fields_at new 0) k)) (sym e) (keeps (is.fields n within) changes.there.there)
    | inr ne ↦ subst (IsFieldOf piece) (sym (changes.there.others m few ne)) (is.fields m few)
  ];
}

-- an ocean with another number of a face
pub faced : (piece : Piece) (i j : ℕ) (side : Side) (x : ℤ) (old new : OceanNumbers) → IsOceanOf piece old → ChangesLayer 0 (ChangesSide i j side x) old new → IsOceanOf piece new
faced piece i j side x old new is changes = record {
  area = subst (IsFieldOf piece) (sym changes.area) is.area;
  count = changes.count ∙ is.count;
  fields = kept;
}
  where
    kept : (n : ℕ) → n < 3 → IsFieldOf piece (field_in (fields_at new 0) n)
    kept zero few = subst (IsFieldOf piece) (sym changes.there.water) (is.fields 0 few)
    kept (suc zero) few = subst (IsFieldOf piece) (sym changes.there.heat) (is.fields 1 (omega arith))
    kept (suc (suc n)) few = subst (IsFieldOf piece) (sym changes.there.salt) (is.fields 2 (omega arith))

-- an ocean with nothing in it
pub empty_ocean : (piece : Piece) (area : FieldNumbers) (ocean : OceanNumbers) → IsFieldOf piece area → IsEmptyOcean piece area 1 ocean → IsOceanOf piece ocean
empty_ocean piece area ocean of empty = record { area = subst (IsFieldOf piece) (sym empty.areas) of; count = empty.count; fields = kept }
  where
    none : (x : ℤ) → x ≡ pos 0 → IsLittle x
    none x e = (omega (arith, ints, e), omega (arith, ints, e))

    kept : (n : ℕ) → n < 3 → IsFieldOf piece (field_in (fields_at ocean 0) n)
    kept zero few =
        let layer = empty.each 0 (omega arith) in
        record { columns = layer.columns; rows = layer.rows; width = layer.width; little = λ spot on. none (number_at (fields_at ocean 0).water spot) (ap (λ (it : Salty). it.water) (layer.cells spot)) }
    kept (suc zero) few =
        let layer = empty.each 0 (omega arith) in
        let same = layer.alike.heat in
        record { columns = same.nx ∙ layer.columns; rows = same.ny ∙ layer.rows; width = same.width ∙ layer.width; little = λ spot on. none (number_at (fields_at ocean 0).heat spot) (ap (λ (it : Salty). it.heat) (layer.cells spot)) }
    kept (suc (suc n)) few =
        let layer = empty.each 0 (omega arith) in
        let same = layer.alike.salt in
        record { columns = same.nx ∙ layer.columns; rows = same.ny ∙ layer.rows; width = same.width ∙ layer.width; little = λ spot on. none (number_at (fields_at ocean 0).salt spot) (ap (λ (it : Salty). it.salt) (layer.cells spot)) }
