-- What strips carry into the holes is the number of the walk's cell.
use Rattle.std.proofs.Common.{◌≡◌, ◌≢◌, ◌∙◌, refl, sym, ap, subst, ℕ, ◌+◌, ◌-◌, ◌<◌, ◌≤◌, arith, List, Option, Some, None}
use Rattle.std.specs.Prelude.{ℤ}
use Rattle.cpl_mosaic.specs.declared.parts.Side.{Side}
use Rattle.cpl_mosaic.specs.declared.parts.Side.TheVariants.{W, E, S, N}
use Rattle.cpl_mosaic.specs.declared.parts.CellId.{CellId}
use Rattle.cpl_mosaic.specs.Lists.{MosaicLists}
use Rattle.cpl_mosaic.specs.Sides.{CellSide, IsCellOf}
use Rattle.cpl_mosaic.specs.Mates.{MatesAgree}
use Rattle.cpl_mosaic.specs.Cells.{number_of}
use Rattle.cpl_layout.specs.declared.piece.Piece.{Piece}
use Rattle.cpl_layout.specs.Layouts.{Cuts}
use Rattle.cpl_layout.specs.Pieces.{pieces_of, piece_of, owner_of}
use Rattle.cpl_layout.specs.Owners.{Holds, IsPlaceOf, IsPieceOf, OwnersAgree, cell_in, place_in}
use Rattle.cpl_strip.specs.declared.parts.Hole.{Hole}
use Rattle.cpl_strip.specs.declared.parts.Strip.{Strip}
use Rattle.cpl_strip.specs.Holes.{edge_of, side_at, walk_to}
use Rattle.cpl_strip.specs.Strips.{AreStrips, IsLink, Link, StandsAt, strip_at, link_at}
use Rattle.cpl_field.specs.Spots.{FieldNumbers, CellAt, HoleAt, IsSpot, number_at}
use Rattle.cpl_group.specs.Parts.{target}
use Rattle.cpl_divided.specs.Fields.{field_at, IsLinked, AreJoined, Carries}
use Rattle.cpl_state.specs.Diffusion.{at}
use Rattle.cpl_divided.specs.Whole.{IsFieldOf, AreFields, HoldWhole, HasHoles, hole_beside, beyond}

pub hole_spot : (piece : Piece) (f : FieldNumbers) → IsFieldOf piece f → (side : Side) (k d : ℕ) → k < edge_of piece side → 1 ≤ d → d ≤ 1 → IsSpot f (HoleAt side k d)
hole_spot piece f is W k d along least most = let ny = is.ny in let width = is.width in (omega arith, omega arith, omega arith)
hole_spot piece f is E k d along least most = let ny = is.ny in let width = is.width in (omega arith, omega arith, omega arith)
hole_spot piece f is S k d along least most = let nx = is.nx in let width = is.width in (omega arith, omega arith, omega arith)
hole_spot piece f is N k d along least most = let nx = is.nx in let width = is.width in (omega arith, omega arith, omega arith)

pub hole_back : (g h : Hole) → HoleAt g.side g.at g.depth ≡ HoleAt h.side h.at h.depth → g ≡ h
hole_back g h e =
    let side : g.side ≡ h.side = cc in
    let at : g.at ≡ h.at = cc in
    let depth : g.depth ≡ h.depth = cc in
    λ t. record { side = side t; at = at t; depth = depth t }

-- a cell by its place in a piece that holds it
pub cell_back : (piece : Piece) (cell : CellId) → Holds piece cell → cell_in piece (place_in piece cell) ≡ cell
cell_back piece cell holds =
    let west = holds.west in
    let south = holds.south in
    let i : piece.i0 + (cell.i - piece.i0) ≡ cell.i = omega arith in
    let j : piece.j0 + (cell.j - piece.j0) ≡ cell.j = omega arith in
    λ t. record { tile = sym holds.tile t; i = i t; j = j t }

module _ (mosaic : MosaicLists) (layout : Cuts) (strips : List Strip) (are : AreStrips mosaic layout 1 strips) where
  stands : (m k : ℕ) → IsLinked strips m k → StandsAt strips m k (link_at (strip_at strips m) k)
  stands m k linked = let even = are.even m linked.strip in let within = linked.within in record { strip = linked.strip; within = omega arith; is = refl }

  pub joined : (fields : List FieldNumbers) → AreFields layout fields → AreJoined strips fields
  joined fields sized = record {
    from = λ m l. let count = sized.count in let within = are.within m 0 (link_at (strip_at strips m) 0) (record { strip = l; within = are.some m l; is = refl }) in let from = within.from in omega arith;
    to = λ m l. let count = sized.count in let within = are.within m 0 (link_at (strip_at strips m) 0) (record { strip = l; within = are.some m l; is = refl }) in let to = within.to in omega arith;
    places = λ m k linked.
        let within = are.within m k (link_at (strip_at strips m) k) (stands m k linked) in
        let is = sized.each (strip_at strips m).from within.from in
        let column = within.place.column in
        let row = within.place.row in
        let nx = is.nx in
        let ny = is.ny in
        (omega arith, omega arith);
    holes = λ m k linked.
        let link = are.only m k (link_at (strip_at strips m) k) (stands m k linked) in
        let hole = link.1.hole in
        hole_spot (piece_of layout (strip_at strips m).to) (field_at fields (strip_at strips m).to) (sized.each (strip_at strips m).to link.1.to) (link_at (strip_at strips m) k).hole.side (link_at (strip_at strips m) k).hole.at (link_at (strip_at strips m) k).hole.depth hole.at hole.least hole.most;
    once = λ m k n l a b same hole. are.once m n k l (link_at (strip_at strips m) k) (link_at (strip_at strips n) l) (stands m k a) (stands n l b) same (hole_back (link_at (strip_at strips m) k).hole (link_at (strip_at strips n) l).hole hole);
  }

  module _ (mates : MatesAgree mosaic) (owners : OwnersAgree layout) (tiles : layout.tiles ≡ mosaic.tiles) (xs : List ℤ) (old new : List FieldNumbers) (whole : HoldWhole mosaic layout xs old) (carries : Carries strips old new) where
    apart_from : (i j : ℕ) (side : Side) (k d : ℕ) → CellAt i j ≢ HoleAt side k d
    apart_from i j side k d e = cc

    same_shape : (p : ℕ) → p < pieces_of layout → IsFieldOf (piece_of layout p) (field_at new p)
    same_shape p l = let shape = carries.shapes p in let is = whole.sized.each p l in record { nx = shape.nx ∙ is.nx; ny = shape.ny ∙ is.ny; width = shape.width ∙ is.width }

    -- no strip has a hole without a walk
    no_target : (p : ℕ) (side : Side) (k m j : ℕ) → walk_to mosaic (piece_of layout p) (hole_beside side k) ≡ None → IsLinked strips m j → (strip_at strips m).to ≡ p → HoleAt side k 1 ≡ target (strip_at strips m) j → ⊥
    no_target p side k m j none linked same e =
        let link = are.only m j (link_at (strip_at strips m) j) (stands m j linked) in
        let hole : hole_beside side k ≡ (link_at (strip_at strips m) j).hole = hole_back (hole_beside side k) (link_at (strip_at strips m) j).hole e in
        let walk : walk_to mosaic (piece_of layout p) (hole_beside side k) ≡ walk_to mosaic (piece_of layout (strip_at strips m).to) (link_at (strip_at strips m) j).hole = λ t. walk_to mosaic (piece_of layout (sym same t)) (hole t) in
        let some : None ≡ Some link.0 = sym none ∙ walk ∙ link.1.walk in
        cc

    pub still_whole : HoldWhole mosaic layout xs new
    still_whole = record {
      sized = record { count = carries.count ∙ whole.sized.count; each = same_shape };
      cells = λ p l i j place.
          let is = whole.sized.each p l in
          let column = place.column in
          let row = place.row in
          let nx = is.nx in
          let ny = is.ny in
          carries.others p (CellAt i j) (omega arith, omega arith) (λ m k linked same e. apart_from i j _ _ _ e) ∙ whole.cells p l i j place;
      empty = λ p l side k along none.
          carries.others p (HoleAt side k 1) (hole_spot (piece_of layout p) (field_at old p) (whole.sized.each p l) side k 1 along (omega arith) (omega arith)) (λ m j linked same e. no_target p side k m j none linked same e)
          ∙ whole.empty p l side k along none;
    }

    edge_cell : (p : ℕ) → p < pieces_of layout → (side : Side) (k : ℕ) → k < edge_of (piece_of layout p) side → IsCellOf mosaic.tiles (side_at (piece_of layout p) (hole_beside side k)).0
    edge_cell p l side k along = subst (λ t. IsCellOf t (side_at (piece_of layout p) (hole_beside side k)).0) tiles (along_edge (piece_of layout p) (owners.inside p l) side k along) where
      along_edge : (piece : Piece) → IsPieceOf layout.tiles piece → (side : Side) (k : ℕ) → k < edge_of piece side → IsCellOf layout.tiles (side_at piece (hole_beside side k)).0
      along_edge piece is W k along = let shape = is.shape in let east = is.east in let north = is.north in record { column = omega arith; row = omega arith }
      along_edge piece is E k along = let shape = is.shape in let east = is.east in let north = is.north in record { column = omega arith; row = omega arith }
      along_edge piece is S k along = let shape = is.shape in let east = is.east in let north = is.north in record { column = omega arith; row = omega arith }
      along_edge piece is N k along = let shape = is.shape in let east = is.east in let north = is.north in record { column = omega arith; row = omega arith }

    hole_some : (p : ℕ) (side : Side) (k : ℕ) → p < pieces_of layout → k < edge_of (piece_of layout p) side → (entered : CellSide) → walk_to mosaic (piece_of layout p) (hole_beside side k) ≡ Some entered → number_at (field_at new p) (HoleAt side k 1) ≡ at xs (number_of mosaic.tiles entered.0)
    hole_some p side k l along entered walk =
        let cell : IsCellOf mosaic.tiles entered.0 = mates.within (side_at (piece_of layout p) (hole_beside side k)) entered (edge_cell p l side k along) walk in
        let cell_of_layout : IsCellOf layout.tiles entered.0 = subst (λ t. IsCellOf t entered.0) (sym tiles) cell in
        let owner = owner_of layout entered.0 in
        let below = owners.below entered.0 cell_of_layout in
        let holds = owners.holds entered.0 cell_of_layout in
        let place = place_in (piece_of layout owner) entered.0 in
        let link : Link = record { from = owner; to = p; place = place; hole = hole_beside side k } in
        let is : IsLink mosaic layout 1 link entered = record { to = l; hole = record { at = along; least = omega arith; most = omega arith }; walk = walk; from = refl; place = refl } in
        let found = are.each link entered is in
        let even = are.even found.0 found.2.strip in
        let inside = found.2.within in
        let linked : IsLinked strips found.0 found.1 = record { strip = found.2.strip; within = omega arith } in
        let G : Link → Type 0 = λ a. number_at (field_at new a.to) (HoleAt a.hole.side a.hole.at a.hole.depth) ≡ number_at (field_at old a.from) (CellAt a.place.0 a.place.1) in
        let west = holds.west in
        let east = holds.east in
        let south = holds.south in
        let north = holds.north in
        let on : IsPlaceOf (piece_of layout owner) place = record { column = omega arith; row = omega arith } in
        subst G found.2.is (carries.holes found.0 found.1 linked)
        ∙ whole.cells owner below place.0 place.1 on
        ∙ ap (λ (c : CellId). at xs (number_of mosaic.tiles c)) (cell_back (piece_of layout owner) entered.0 holds)

    by_walk : (p : ℕ) (side : Side) (k : ℕ) → p < pieces_of layout → k < edge_of (piece_of layout p) side → (o : Option CellSide) → walk_to mosaic (piece_of layout p) (hole_beside side k) ≡ o → number_at (field_at new p) (HoleAt side k 1) ≡ beyond mosaic.tiles xs o
    by_walk p side k l along None walk = still_whole.empty p l side k along walk
    by_walk p side k l along (Some entered) walk = hole_some p side k l along entered walk

    pub holes_filled : (p : ℕ) → p < pieces_of layout → HasHoles mosaic xs (piece_of layout p) (field_at new p)
    holes_filled p l side k along = by_walk p side k l along (walk_to mosaic (piece_of layout p) (hole_beside side k)) refl
