-- What is built for each piece and each strip.
use Rattle.std.proofs.Common.{◌≡◌, ◌∙◌, refl, sym, ap, subst, ℕ, zero, suc, ◌+◌, ◌-◌, ◌*◌, ◌<◌, ◌≤◌, arith, inl, inr, List, [], length, get_or}
use Rattle.std.specs.Prelude.{ℤ, pos, All}
use Rattle.std.proofs.Math.Nat.{le-mul_of_pos_right}
use Rattle.std.proofs.lemmas.Bool.{cases_eq, cases_lt}
use Rattle.std.proofs.lemmas.List.{ext_get_or}
use Rattle.std.proofs.lemmas.List.Elements.{All-from_get_or}
use Rattle.cpl_mosaic.specs.declared.parts.Side.{Side}
use Rattle.cpl_mosaic.specs.declared.parts.Side.TheVariants.{W, E, S, N}
use Rattle.cpl_mosaic.specs.declared.parts.Tile.{Tile}
use Rattle.cpl_mosaic.specs.declared.parts.CellId.{CellId}
use Rattle.cpl_mosaic.specs.declared.mosaic.Mesh.{Mesh}
use Rattle.cpl_mosaic.specs.Lists.{MosaicLists}
use Rattle.cpl_mosaic.specs.Contacts.{cells_of}
use Rattle.cpl_mosaic.specs.Sides.{IsCellOf, tile_at}
use Rattle.cpl_mosaic.specs.Cells.{NumbersAgree, number_of, cell_of}
use Rattle.cpl_layout.specs.declared.piece.Piece.{Piece}
use Rattle.cpl_layout.specs.Layouts.{Cuts, IsLayout}
use Rattle.cpl_layout.specs.Pieces.{pieces_of, piece_of, owner_of}
use Rattle.cpl_layout.specs.Owners.{IsPlaceOf, IsPieceOf, OwnersAgree, cell_in, place_in}
use Rattle.cpl_strip.specs.declared.parts.Strip.{Strip}
use Rattle.cpl_strip.specs.Strips.{AreStrips, StandsAt, strip_at, link_at}
use Rattle.cpl_field.specs.Spots.{FieldNumbers, CellAt, HoleAt, IsSpot, IsSameShape, SetsRow, number_at}
use Rattle.cpl_group.specs.Parts.{IsStrip, size_of}
use Rattle.cpl_atmos.specs.Sweeps.{AirNumbers}
use Rattle.cpl_state.specs.Diffusion.{at}
use Rattle.cpl_divided.specs.Buffers.{AreEnds, AreBuffers}
use Rattle.cpl_divided.specs.Whole.{IsFieldOf, HasCells, HasEmpty, HasHoles, HoldWhole, HaveAreas, Gathers, number_in}
use Rattle.cpl_divided.proofs.Built.{IsBuilt}
use Rattle.cpl_divided.proofs.Filled.{hole_spot, hole_back, cell_back}

-- the ends of a strip
abbrev pub IsEnd : List Strip → ℕ → ℕ × ℕ → Type 0
IsEnd strips m ends = ends ≡ ((strip_at strips m).from, (strip_at strips m).to)

pub ends_all : (strips : List Strip) (ends : List (ℕ × ℕ)) (n : ℕ) → length strips ≡ n → IsBuilt (IsEnd strips) (0, 0) n ends → AreEnds strips ends
ends_all strips ends n all is = record { count = is.count ∙ sym all; each = λ m l. is.each m (omega arith) }

-- the size of a strip's buffer
abbrev pub IsSized : List Strip → ℕ → List ℤ → Type 0
IsSized strips m buffer = length buffer ≡ size_of (strip_at strips m) * 1

pub buffers_all : (strips : List Strip) (buffers : List (List ℤ)) (n : ℕ) → length strips ≡ n → IsBuilt (IsSized strips) [] n buffers → AreBuffers strips buffers
buffers_all strips buffers n all is = record { count = is.count ∙ sym all; each = λ m l. is.each m (omega arith) }

-- strips as a group has them
pub strips_are : (mosaic : MosaicLists) (layout : Cuts) (strips : List Strip) → AreStrips mosaic layout 1 strips → All IsStrip strips
strips_are mosaic layout strips are = All-from_get_or IsStrip strips (record { from = 0; to = 0; places = []; holes = [] }) (λ m l. record {
  even = sym (are.even m l);
  once = λ j k below under same.
      let even = are.even m l in
      let a : StandsAt strips m j (link_at (strip_at strips m) j) = record { strip = l; within = omega arith; is = refl } in
      let b : StandsAt strips m k (link_at (strip_at strips m) k) = record { strip = l; within = omega arith; is = refl } in
      (are.once m m j k (link_at (strip_at strips m) j) (link_at (strip_at strips m) k) a b refl (hole_back (link_at (strip_at strips m) j).hole (link_at (strip_at strips m) k).hole same)).1;
})

-- two pieces have at most one strip, so there are few
module _ (mosaic : MosaicLists) (layout : Cuts) (strips : List Strip) (are : AreStrips mosaic layout 1 strips) (rules : IsLayout layout) where
  abbrev rank_of : ℕ → ℕ
  rank_of m = (strip_at strips m).from * 64 + (strip_at strips m).to

  ends_below : (m : ℕ) → m < length strips → ((strip_at strips m).from < 64) × ((strip_at strips m).to < 64)
  ends_below m l =
      let within = are.within m 0 (link_at (strip_at strips m) 0) (record { strip = l; within = are.some m l; is = refl }) in
      let few = rules.few in
      (omega (arith, within.from), omega (arith, within.to))

  ranked : (m : ℕ) → m < length strips → m ≤ rank_of m
  ranked zero l = omega arith
  ranked (suc m) l =
      let before = ranked m (omega arith) in
      let here = ends_below m (omega arith) in
      let there = ends_below (suc m) l in
      elim (are.sorted m (suc m) (omega arith) l) [
        | inl less ↦ omega arith
        | inr same ↦ omega (arith, same.0, same.1)
      ]

  pub strips_few : length strips ≤ 4096
  strips_few = elim (cases_lt 4096 (length strips)) [
    | inl more ↦ let rank = ranked 4096 more in let ends = ends_below 4096 more in absurd (omega arith)
    | inr few ↦ few
  ]

-- the field of one piece, with a whole list's numbers
pub record IsLoaded (mosaic : MosaicLists) (layout : Cuts) (xs : List ℤ) (p : ℕ) (field : FieldNumbers) : Type 0 where
  pub field_of : IsFieldOf (piece_of layout p) field
  pub cells : HasCells mosaic.tiles xs (piece_of layout p) field
  pub empty : HasEmpty mosaic (piece_of layout p) field

pub loaded : (mosaic : MosaicLists) (layout : Cuts) (xs : List ℤ) (p : ℕ) (piece : Piece) (field : FieldNumbers) → piece ≡ piece_of layout p → IsFieldOf piece field → HasCells mosaic.tiles xs piece field → ((side : Side) (k depth : ℕ) → IsSpot field (HoleAt side k depth) → number_at field (HoleAt side k depth) ≡ pos 0) → IsLoaded mosaic layout xs p field
loaded mosaic layout xs p piece field e is cells holes =
    let of_piece = subst (λ (a : Piece). IsFieldOf a field) e is in
    record {
      field_of = of_piece;
      cells = subst (λ (a : Piece). HasCells mosaic.tiles xs a field) e cells;
      empty = λ side k along none. holes side k 1 (hole_spot (piece_of layout p) field of_piece side k 1 along (omega arith) (omega arith));
    }

pub loaded_all : (mosaic : MosaicLists) (layout : Cuts) (xs : List ℤ) (n : ℕ) (fields : List FieldNumbers) → n ≡ pieces_of layout → IsBuilt (IsLoaded mosaic layout xs) (record { nx = 0; ny = 0; width = 0; numbers = [] }) n fields → HoldWhole mosaic layout xs fields
loaded_all mosaic layout xs n fields all is = record {
  sized = record { count = is.count ∙ all; each = λ p l. (is.each p (omega arith)).field_of };
  cells = λ p l. (is.each p (omega arith)).cells;
  empty = λ p l. (is.each p (omega arith)).empty;
}

-- the rows of a piece before one have their numbers
pub record IsLoadedTo (tiles : List Tile) (xs : List ℤ) (piece : Piece) (j : ℕ) (field : FieldNumbers) : Type 0 where
  pub field_of : IsFieldOf piece field
  pub cells : (i k : ℕ) → IsPlaceOf piece (i, k) → k < j → number_at field (CellAt i k) ≡ at xs (number_of tiles (cell_in piece (i, k)))
  pub holes : (side : Side) (k depth : ℕ) → IsSpot field (HoleAt side k depth) → number_at field (HoleAt side k depth) ≡ pos 0

hole_kept : (old new : FieldNumbers) → IsSameShape old new → (side : Side) (k depth : ℕ) → IsSpot new (HoleAt side k depth) → IsSpot old (HoleAt side k depth)
hole_kept old new same W k depth on = let ny = same.ny in let width = same.width in (omega arith, omega arith, omega arith)
hole_kept old new same E k depth on = let ny = same.ny in let width = same.width in (omega arith, omega arith, omega arith)
hole_kept old new same S k depth on = let nx = same.nx in let width = same.width in (omega arith, omega arith, omega arith)
hole_kept old new same N k depth on = let nx = same.nx in let width = same.width in (omega arith, omega arith, omega arith)

pub loaded_more : (tiles : List Tile) (xs row : List ℤ) (piece : Piece) (j : ℕ) (field new : FieldNumbers) → j < piece.ny → IsLoadedTo tiles xs piece j field → SetsRow field new j row → ((n : ℕ) → n < piece.nx → get_or row n (pos 0) ≡ get_or xs (number_of tiles (cell_in piece (0, j)) + n) (pos 0)) → IsLoadedTo tiles xs piece (j + 1) new
loaded_more tiles xs row piece j field new below to sets read = record {
  field_of = record { nx = sets.shape.nx ∙ to.field_of.nx; ny = sets.shape.ny ∙ to.field_of.ny; width = sets.shape.width ∙ to.field_of.width };
  cells = λ i k place l. elim (cases_eq k j) [
    | inl e ↦
        let nx = to.field_of.nx in
        let column = place.column in
        let P : ℕ → Type 0 = λ m. number_at new (CellAt i m) ≡ at xs (number_of tiles (cell_in piece (i, m))) in
        let number : number_of tiles (cell_in piece (0, j)) + i ≡ number_of tiles (cell_in piece (i, j)) = omega arith in
        subst P (sym e) (sets.there i (omega arith) ∙ read i column ∙ ap (at xs) number)
    | inr ne ↦
        let nx = to.field_of.nx in
        let ny = to.field_of.ny in
        let column = place.column in
        let row = place.row in
        sets.cells i k (omega arith) (omega arith) ne ∙ to.cells i k place (omega arith)
  ];
  holes = λ side k depth on. let before = hole_kept field new sets.shape side k depth on in sets.holes side k depth before ∙ to.holes side k depth before;
}

-- a row of a piece lies in the whole list
pub row_inside : (tiles : List Tile) (piece : Piece) (j : ℕ) → IsPieceOf tiles piece → NumbersAgree tiles → j < piece.ny → number_of tiles (cell_in piece (0, j)) + piece.nx ≤ cells_of tiles
row_inside tiles piece j is numbers below =
    let shape = is.shape in
    let east = is.east in
    let north = is.north in
    let last = numbers.below (cell_in piece (piece.nx - 1, j)) (record { column = omega arith; row = omega arith }) in
    omega arith

-- and so does each of its rows among the rows of a tile
pub row_small : (tiles : List Tile) (piece : Piece) (j : ℕ) → IsPieceOf tiles piece → NumbersAgree tiles → j < piece.ny → piece.j0 + j < cells_of tiles
row_small tiles piece j is numbers below =
    let shape = is.shape in
    let east = is.east in
    let north = is.north in
    let first = numbers.below (cell_in piece (0, j)) (record { column = omega arith; row = omega arith }) in
    let some : 0 < (tile_at tiles piece.tile).nx = omega arith in
    let wide : piece.j0 + j ≤ (piece.j0 + j) * (tile_at tiles piece.tile).nx = le-mul_of_pos_right (piece.j0 + j) some in
    omega arith

-- the air of one piece
pub record IsOver (mesh : Mesh) (layout : Cuts) (p : ℕ) (air : AirNumbers) : Type 0 where
  pub field_of : IsFieldOf (piece_of layout p) air.area
  pub cells : HasCells mesh.mosaic.tiles mesh.area (piece_of layout p) air.area
  pub holes : HasHoles mesh.mosaic mesh.area (piece_of layout p) air.area

pub over : (mesh : Mesh) (layout : Cuts) (p : ℕ) (air : AirNumbers) (area : FieldNumbers) → air.area ≡ area → IsFieldOf (piece_of layout p) area → HasCells mesh.mosaic.tiles mesh.area (piece_of layout p) area → HasHoles mesh.mosaic mesh.area (piece_of layout p) area → IsOver mesh layout p air
over mesh layout p air area e is cells holes = record {
  field_of = subst (λ (a : FieldNumbers). IsFieldOf (piece_of layout p) a) (sym e) is;
  cells = subst (λ (a : FieldNumbers). HasCells mesh.mosaic.tiles mesh.area (piece_of layout p) a) (sym e) cells;
  holes = subst (λ (a : FieldNumbers). HasHoles mesh.mosaic mesh.area (piece_of layout p) a) (sym e) holes;
}

pub over_all : (mesh : Mesh) (layout : Cuts) (n : ℕ) (airs : List AirNumbers) → n ≡ pieces_of layout → IsBuilt (IsOver mesh layout) (record { area = record { nx = 0; ny = 0; width = 0; numbers = [] }; values = [] }) n airs → HaveAreas mesh layout airs
over_all mesh layout n airs all is = record {
  count = is.count ∙ all;
  each = λ p l. (is.each p (omega arith)).field_of;
  cells = λ p l. (is.each p (omega arith)).cells;
  holes = λ p l. (is.each p (omega arith)).holes;
}

-- the number of one cell
abbrev pub IsNumber : List Tile → Cuts → List FieldNumbers → ℕ → ℤ → Type 0
IsNumber tiles layout fields n x = x ≡ number_in layout fields (cell_of tiles n)

pub gathered_all : (tiles : List Tile) (layout : Cuts) (fields : List FieldNumbers) (n : ℕ) (xs : List ℤ) → n ≡ cells_of tiles → IsBuilt (IsNumber tiles layout fields) (pos 0) n xs → Gathers tiles layout fields xs
gathered_all tiles layout fields n xs all is = record { count = is.count ∙ all; each = λ m l. is.each m (omega arith) }

-- what is gathered is the whole list that the fields hold
pub gathered : (mosaic : MosaicLists) (layout : Cuts) (fields : List FieldNumbers) (xs ys : List ℤ) → OwnersAgree layout → NumbersAgree mosaic.tiles → layout.tiles ≡ mosaic.tiles → HoldWhole mosaic layout ys fields → length ys ≡ cells_of mosaic.tiles → Gathers mosaic.tiles layout fields xs → xs ≡ ys
gathered mosaic layout fields xs ys owners numbers tiles whole count gathers =
    ext_get_or (pos 0) xs ys (gathers.count ∙ sym count) (λ n l.
    let total = gathers.count in
    let below : n < cells_of mosaic.tiles = omega arith in
    let cell = cell_of mosaic.tiles n in
    let is : IsCellOf layout.tiles cell = subst (λ t. IsCellOf t cell) (sym tiles) (numbers.is_cell n below) in
    let owner = owner_of layout cell in
    let holds = owners.holds cell is in
    let west = holds.west in
    let east = holds.east in
    let south = holds.south in
    let north = holds.north in
    let place = place_in (piece_of layout owner) cell in
    let on : IsPlaceOf (piece_of layout owner) place = record { column = omega arith; row = omega arith } in
    gathers.each n below
    ∙ whole.cells owner (owners.below cell is) place.0 place.1 on
    ∙ ap (λ (c : CellId). at ys (number_of mosaic.tiles c)) (cell_back (piece_of layout owner) cell holds)
    ∙ ap (at ys) (numbers.number_cell n below))
