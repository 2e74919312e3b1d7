-- In a mosaic that keeps the rules sides meet in pairs.
use Rattle.std.proofs.Common.{◌≡◌, refl, sym, ◌∙◌, ap, List, Option, Some, None, inl, inr, ◌⊎◌}
use Rattle.std.specs.Prelude.{◌≢◌, Contains}
use Rattle.std.specs.List.{find}
use Rattle.std.specs.Option.{option_map}
use Rattle.std.proofs.lemmas.Bool.{both_ways}
use Rattle.cpl_mosaic.specs.declared.parts.Side.{Side}
use Rattle.cpl_mosaic.specs.declared.parts.CellId.{CellId}
use Rattle.cpl_mosaic.specs.Lists.{MosaicLists}
use Rattle.cpl_mosaic.specs.Sides.{CellSide, opposite, neighbour, tile_at, is_same_side, IsCellOf}
use Rattle.cpl_mosaic.specs.Contacts.{IsMosaic, all_joins}
use Rattle.cpl_mosaic.specs.Mates.{Meets, IsWall, or_joined, mate_of, MatesAgree}
use Rattle.cpl_mosaic.proofs.Elements.{found, not_found}
use Rattle.cpl_mosaic.proofs.Neighbours.{opposite_twice, behind}
use Rattle.cpl_mosaic.proofs.Edges.{same_side, own_side}
use Rattle.cpl_mosaic.proofs.Joins.{OneEach, JoinLaws, join_laws}

-- the first pair of a side
abbrev first_pair : List (CellSide × CellSide) → CellSide → Option (CellSide × CellSide)
first_pair joins a = find (λ pair. is_same_side a pair.0) joins

-- a pair that is found joins the side that was looked for
pair_found : (joins : List (CellSide × CellSide)) (a : CellSide) (pair : CellSide × CellSide) → first_pair joins a ≡ Some pair → Contains joins pair × (a ≡ pair.0)
pair_found joins a pair e =
    let is = found (λ (pair : CellSide × CellSide). is_same_side a pair.0) joins pair e in
    (is.0, same_side a pair.0 is.1)

-- what is found for a side is joined to it
joined_to : (joins : List (CellSide × CellSide)) (a b : CellSide) (pair : Option (CellSide × CellSide)) → first_pair joins a ≡ pair → option_map (λ (p : CellSide × CellSide). p.1) pair ≡ Some b → Contains joins (a, b)
joined_to joins a b None e same = absurd (cc)
joined_to joins a b (Some pair) e same =
    let is = pair_found joins a pair e in
    let other : pair.1 ≡ b = cc in
    let whole : pair ≡ (a, b) = λ s. (sym is.1 s, other s) in
    rw whole at is.0

-- what is joined to a side, to no other, is found for it
joined_is_found : (joins : List (CellSide × CellSide)) (a b : CellSide) (pair : Option (CellSide × CellSide)) → OneEach joins → Contains joins (a, b) → first_pair joins a ≡ pair → option_map (λ (p : CellSide × CellSide). p.1) pair ≡ Some b
joined_is_found joins a b None one is e =
    absurd (both_ways (is_same_side a a) (not_found (λ (pair : CellSide × CellSide). is_same_side a pair.0) joins (a, b) e is) (own_side a))
joined_is_found joins a b (Some pair) one is e = let at = pair_found joins a pair e in ap Some (sym (one (a, b) pair is at.0 at.1))

-- a mate is behind the side, or joined to it
mate_cases : (behind : Option CellId) (side : Side) (joins : List (CellSide × CellSide)) (a b : CellSide) → or_joined behind side joins a ≡ Some b → ((behind ≡ Some b.0) × (b.1 ≡ opposite side)) ⊎ Contains joins (a, b)
mate_cases (Some cell) side joins a b e =
    let same : (cell, opposite side) ≡ b = cc in
    inl (ap (λ (s : CellSide). Some s.0) same, sym (ap (λ (s : CellSide). s.1) same))
mate_cases None side joins a b e = inr (joined_to joins a b (first_pair joins a) refl e)

mate_meets : (mosaic : MosaicLists) (a b : CellSide) → mate_of mosaic a ≡ Some b → Meets mosaic a b
mate_meets mosaic a b e = mate_cases (neighbour (tile_at mosaic.tiles a.0.tile) a.0 a.1) a.1 (all_joins mosaic.tiles mosaic.contacts) a b e

-- what a side meets is its mate
mate_from : (mosaic : MosaicLists) (a b : CellSide) → JoinLaws mosaic.tiles (all_joins mosaic.tiles mosaic.contacts) → Meets mosaic a b → mate_of mosaic a ≡ Some b
mate_from mosaic a b laws (inl inside) = ap (λ next. or_joined next a.1 (all_joins mosaic.tiles mosaic.contacts) a) inside.0 ∙ ap (λ side. Some (b.0, side)) (sym inside.1)
mate_from mosaic a b laws (inr joined) =
    let joins = all_joins mosaic.tiles mosaic.contacts in
    ap (λ next. or_joined next a.1 joins a) (laws.each (a, b) joined).first.edge
    ∙ joined_is_found joins a b (first_pair joins a) laws.one joined refl

-- what meeting says of the other side
record Met (mosaic : MosaicLists) (a b : CellSide) : Type 0 where
  within : IsCellOf mosaic.tiles b.0
  back : Meets mosaic b a
  apart : a ≢ b

met_from : (mosaic : MosaicLists) (a b : CellSide) → JoinLaws mosaic.tiles (all_joins mosaic.tiles mosaic.contacts) → IsCellOf mosaic.tiles a.0 → Meets mosaic a b → Met mosaic a b
met_from mosaic a b laws is (inl inside) =
    let tile = tile_at mosaic.tiles a.0.tile in
    let next = behind tile a.0 b.0 a.1 is.column is.row inside.0 in
    let back : neighbour (tile_at mosaic.tiles b.0.tile) b.0 b.1 ≡ Some a.0 =
    ap (λ t. neighbour (tile_at mosaic.tiles t) b.0 b.1) next.same_tile ∙ ap (neighbour tile b.0) inside.1 ∙ next.back in
    record {
      within = record { column = rw next.same_tile next.column; row = rw next.same_tile next.row };
      back = inl (back, sym (opposite_twice a.1) ∙ ap opposite (sym inside.1));
      apart = λ e. next.apart (ap (λ (s : CellSide). s.0) e);
    }
met_from mosaic a b laws is (inr joined) =
    let pair = laws.each (a, b) joined in
    record { within = pair.second.cell; back = inr (laws.back (a, b) joined); apart = pair.apart }

-- mates meet, in pairs of two sides
pub mates_agree : (mosaic : MosaicLists) → IsMosaic mosaic.tiles mosaic.contacts → MatesAgree mosaic
mates_agree mosaic is =
    let laws = join_laws mosaic.tiles mosaic.contacts is in
    let met = λ (a b : CellSide) (cell : IsCellOf mosaic.tiles a.0) (e : mate_of mosaic a ≡ Some b). met_from mosaic a b laws cell (mate_meets mosaic a b e) in
    record {
      meets = λ a b cell e. mate_meets mosaic a b e;
      met = λ a b cell meeting. mate_from mosaic a b laws meeting;
      within = λ a b cell e. (met a b cell e).within;
      back = λ a b cell e. mate_from mosaic b a laws (met a b cell e).back;
      apart = λ a b cell e. (met a b cell e).apart;
    }

-- a side with no mate meets none
pub no_mate : (mosaic : MosaicLists) (a : CellSide) → IsMosaic mosaic.tiles mosaic.contacts → IsCellOf mosaic.tiles a.0 → mate_of mosaic a ≡ None → IsWall mosaic a
no_mate mosaic a is cell none b meeting =
    let mate = mate_from mosaic a b (join_laws mosaic.tiles mosaic.contacts is) meeting in
    cc
