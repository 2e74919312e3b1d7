-- Each side is of one face at most.
use Rattle.std.proofs.Common.{◌≡◌, sym, ◌∙◌, ap, ℕ, ◌<◌, arith, List, length, Some, inl, inr}
use Rattle.std.proofs.lemmas.Bool.{cases_order}
use Rattle.std.proofs.lemmas.List.{get_or_default}
use Rattle.cpl_mosaic.specs.declared.parts.Side.{Side}
use Rattle.cpl_mosaic.specs.declared.parts.Side.TheVariants.{W}
use Rattle.cpl_mosaic.specs.declared.parts.CellId.{CellId}
use Rattle.cpl_mosaic.specs.declared.parts.Tile.{Tile}
use Rattle.cpl_mosaic.specs.Lists.{MosaicLists}
use Rattle.cpl_mosaic.specs.Sides.{CellSide, IsCellOf}
use Rattle.cpl_mosaic.specs.Cells.{number_of, cell_of, NumbersAgree}
use Rattle.cpl_mosaic.specs.Mates.{MatesAgree, mate_of}
use Rattle.cpl_faces.specs.declared.face.Face.{Face}
use Rattle.cpl_faces.specs.Faces.{rank, IsFace, face_of, face_in, Precedes, AreFaces, AreApart}
use Rattle.cpl_faces.proofs.Numbered.{ByNumber, by_number}

abbrev no_face : Face
no_face = record { first = 0; first_side = W; second = 0; second_side = W }

-- a face of the list, by its sides
record Sides (mosaic : MosaicLists) (face : Face) : Type 0 where
  a : CellSide
  b : CellSide
  is : IsFace mosaic a b
  same : face ≡ face_of mosaic a b

sides_of : (mosaic : MosaicLists) (faces : List Face) (i : ℕ) → AreFaces mosaic faces → i < length faces → Sides mosaic (face_in faces i)
sides_of mosaic faces i are lt =
    let it = are.only (face_in faces i) (i, lt, get_or_default faces i (face_in faces i) no_face lt) in
    record { a = it.0; b = it.1; is = it.2; same = it.3 }

not_before : (a b : Face) → a.first ≡ b.first → a.first_side ≡ b.first_side → Precedes a b → ⊥
not_before a b cell side (inl less) = omega arith
not_before a b cell side (inr (same, less)) = let e = ap rank side in omega arith

firsts : (mosaic : MosaicLists) (faces : List Face) (i j : ℕ) → AreFaces mosaic faces → i < length faces → j < length faces
    → (face_in faces i).first ≡ (face_in faces j).first → (face_in faces i).first_side ≡ (face_in faces j).first_side → i ≡ j
firsts mosaic faces i j are li lj cell side = elim (cases_order i j) [
  | inl same ↦ same
  | inr (inl less) ↦ absurd (not_before (face_in faces i) (face_in faces j) cell side (are.sorted i j no_face less lj))
  | inr (inr more) ↦ absurd (not_before (face_in faces j) (face_in faces i) (sym cell) (sym side) (are.sorted j i no_face more li))
]

-- sides with one number and one direction are one
one_side : (tiles : List Tile) (a b : CellSide) → NumbersAgree tiles → IsCellOf tiles a.0 → IsCellOf tiles b.0 → number_of tiles a.0 ≡ number_of tiles b.0 → a.1 ≡ b.1 → a ≡ b
one_side tiles a b numbers in_a in_b cell side =
    let same : a.0 ≡ b.0 = sym (numbers.cell_number a.0 in_a) ∙ ap (λ n. cell_of tiles n) cell ∙ numbers.cell_number b.0 in_b in
    ap (λ (c : CellId). (c, a.1)) same ∙ ap (λ (s : Side). (b.0, s)) side

some_is : (a b : CellSide) → Some a ≡ Some b → a ≡ b
some_is a b e = cc

seconds : (mosaic : MosaicLists) (faces : List Face) (i j : ℕ) → NumbersAgree mosaic.tiles → MatesAgree mosaic → AreFaces mosaic faces → i < length faces → j < length faces
    → (face_in faces i).second ≡ (face_in faces j).second → (face_in faces i).second_side ≡ (face_in faces j).second_side → i ≡ j
seconds mosaic faces i j numbers mates are li lj cell side =
    let x = sides_of mosaic faces i are li in
    let y = sides_of mosaic faces j are lj in
    let in_x = mates.within x.a x.b x.is.cell x.is.mate in
    let in_y = mates.within y.a y.b y.is.cell y.is.mate in
    let number : number_of mosaic.tiles x.b.0 ≡ number_of mosaic.tiles y.b.0 = sym (ap (λ (f : Face). f.second) x.same) ∙ cell ∙ ap (λ (f : Face). f.second) y.same in
    let direction : x.b.1 ≡ y.b.1 = sym (ap (λ (f : Face). f.second_side) x.same) ∙ side ∙ ap (λ (f : Face). f.second_side) y.same in
    let b : x.b ≡ y.b = one_side mosaic.tiles x.b y.b numbers in_x in_y number direction in
    let a : x.a ≡ y.a = some_is x.a y.a (sym (mates.back x.a x.b x.is.cell x.is.mate) ∙ ap (mate_of mosaic) b ∙ mates.back y.a y.b y.is.cell y.is.mate) in
    firsts mosaic faces i j are li lj
    (ap (λ (f : Face). f.first) x.same ∙ ap (λ (s : CellSide). number_of mosaic.tiles s.0) a ∙ sym (ap (λ (f : Face). f.first) y.same))
    (ap (λ (f : Face). f.first_side) x.same ∙ ap (λ (s : CellSide). s.1) a ∙ sym (ap (λ (f : Face). f.first_side) y.same))

not_both : (tiles : List Tile) (a b : CellSide) → ByNumber tiles a b → ByNumber tiles b a → ⊥
not_both tiles a b (inl less) (inl more) = omega arith
not_both tiles a b (inl less) (inr (same, side)) = omega arith
not_both tiles a b (inr (same, side)) (inl more) = omega arith
not_both tiles a b (inr (same, side)) (inr (e, other)) = omega arith

apart : (mosaic : MosaicLists) (faces : List Face) (i j : ℕ) → NumbersAgree mosaic.tiles → MatesAgree mosaic → AreFaces mosaic faces → i < length faces → j < length faces
    → (face_in faces i).first ≡ (face_in faces j).second → (face_in faces i).first_side ≡ (face_in faces j).second_side → ⊥
apart mosaic faces i j numbers mates are li lj cell side =
    let x = sides_of mosaic faces i are li in
    let y = sides_of mosaic faces j are lj in
    let in_y = mates.within y.a y.b y.is.cell y.is.mate in
    let number : number_of mosaic.tiles x.a.0 ≡ number_of mosaic.tiles y.b.0 = sym (ap (λ (f : Face). f.first) x.same) ∙ cell ∙ ap (λ (f : Face). f.second) y.same in
    let direction : x.a.1 ≡ y.b.1 = sym (ap (λ (f : Face). f.first_side) x.same) ∙ side ∙ ap (λ (f : Face). f.second_side) y.same in
    let a : x.a ≡ y.b = one_side mosaic.tiles x.a y.b numbers x.is.cell in_y number direction in
    let b : x.b ≡ y.a = some_is x.b y.a (sym x.is.mate ∙ ap (mate_of mosaic) a ∙ mates.back y.a y.b y.is.cell y.is.mate) in
    let there : ByNumber mosaic.tiles x.a x.b = by_number mosaic.tiles x.a x.b x.is.cell x.is.order in
    let back : ByNumber mosaic.tiles x.b x.a = rw (a, b) (by_number mosaic.tiles y.a y.b y.is.cell y.is.order) in
    not_both mosaic.tiles x.a x.b there back

pub are_apart : (mosaic : MosaicLists) (faces : List Face) → NumbersAgree mosaic.tiles → MatesAgree mosaic → AreFaces mosaic faces → AreApart faces
are_apart mosaic faces numbers mates are = record {
  firsts = λ i j li lj cell side. firsts mosaic faces i j are li lj cell side;
  seconds = λ i j li lj cell side. seconds mosaic faces i j numbers mates are li lj cell side;
  apart = λ i j li lj cell side. apart mosaic faces i j numbers mates are li lj cell side;
}
