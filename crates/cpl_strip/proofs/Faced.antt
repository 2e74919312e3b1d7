-- The strips made of a table of what all sides along edges take are the face strips of the layout.
use Rattle.std.proofs.Common.{◌≡◌, refl, sym, ◌∙◌, ap, subst, ℕ, ◌+◌, ◌*◌, ◌<◌, ◌≤◌, arith, List, [], length, get_or, Some, None, inl, inr}
use Rattle.std.specs.Prelude.{◌/◌, ◌%◌}
use Rattle.std.proofs.lemmas.Bool.{cond-true, cond-false, cases_Bool}
use Rattle.std.proofs.lemmas.List.{length-map, get_or-map}
use Rattle.std.proofs.lemmas.Nat.{div-mul-add, mod-mul-add, mul-add-lt}
use Rattle.cpl_mosaic.specs.declared.parts.Side.TheVariants.{W}
use Rattle.cpl_mosaic.specs.declared.parts.Tile.{Tile}
use Rattle.cpl_mosaic.specs.Lists.{MosaicLists}
use Rattle.cpl_mosaic.specs.Sides.{CellSide, IsCellOf}
use Rattle.cpl_mosaic.specs.Mates.{MatesAgree, mate_of}
use Rattle.cpl_layout.specs.Layouts.{Cuts}
use Rattle.cpl_layout.specs.Pieces.{pieces_of, piece_of, owner_of}
use Rattle.cpl_layout.specs.Owners.{Holds, IsPieceOf, IsPlaceOf, OwnersAgree, place_in}
use Rattle.cpl_strip.specs.declared.parts.FaceStrip.{FaceStrip}
use Rattle.cpl_strip.specs.declared.faces.Across.{Across}
use Rattle.cpl_strip.specs.Holes.{side_at}
use Rattle.cpl_faces.specs.Faces.{Comes, IsFace}
use Rattle.cpl_strip.specs.Faces.{IsAlong, IsCrossed, Spot, spot_of, FaceLink, FaceIsWithin, face_link, face_strip_at, face_link_at, FaceStandsAt, FacePrecedes, AreFaceStrips}
use Rattle.cpl_strip.specs.Rounds.{nth_hole}
use Rattle.cpl_strip.specs.Tables.{picks, IsFilled, made_at}
use Rattle.cpl_strip.specs.Taken.{comes, if_second, face_taken, side_takes, holes_in, face_strip_made}
use Rattle.cpl_strip.proofs.Picks.{cases_option}
use Rattle.cpl_strip.proofs.Bundles.{is_pair, pairs_order, same_pair, Given, given_items, Bundled, bundled, some_same, second_same, same_by_order}
use Rattle.cpl_strip.proofs.HoleNumbers.{hole_is, hole_has, hole_apart}
use Rattle.cpl_strip.proofs.Walked.{edge_inside, place_is}
use Rattle.cpl_strip.proofs.Edges.{comes_from, comes_is, along_cases, hole_held, hole_along, along_at, out_of, inner_mate, same_cell, same_hole}

-- what is known of the table, the layout and the mosaic
pub record FacesReady (mosaic : MosaicLists) (layout : Cuts) (table : List (List Across)) : Type 0 where
  pub tiles : layout.tiles ≡ mosaic.tiles
  pub mates : MatesAgree mosaic
  pub owners : OwnersAgree layout
  pub some : 1 ≤ pieces_of layout
  pub filled : IsFilled (side_takes mosaic layout) (holes_in layout 1) (pieces_of layout) (pieces_of layout) 0 table

-- a face in parts
abbrev as_across : FaceLink → Across
as_across link = record { source = link.source; target = link.target }

-- what stands at number k of a pair's strip
abbrev face_made : Cuts → List (List Across) → ℕ → ℕ → FaceLink
face_made layout table p k = record {
  from = p / pieces_of layout;
  to = p % pieces_of layout;
  source = (get_or (get_or table p []) k (record { source = (0, 0, W); target = (0, 0, W) })).source;
  target = (get_or (get_or table p []) k (record { source = (0, 0, W); target = (0, 0, W) })).target;
}

made_face : (layout : Cuts) (table : List (List Across)) (p k : ℕ) → k < length (get_or table p []) → face_link_at (face_strip_made (p / pieces_of layout) (p % pieces_of layout) (get_or table p [])) k ≡ face_made layout table p k
made_face layout table p k below =
    let source = get_or-map (λ (link : Across). link.source) (get_or table p []) k (record { source = (0, 0, W); target = (0, 0, W) }) (0, 0, W) below in
    let target = get_or-map (λ (link : Across). link.target) (get_or table p []) k (record { source = (0, 0, W); target = (0, 0, W) }) (0, 0, W) below in
    λ s. record { from = p / pieces_of layout; to = p % pieces_of layout; source = source s; target = target s }

-- the second side of what the m-th side along the edges of a piece takes
abbrev second_of : Cuts → ℕ → ℕ → CellSide
second_of layout to m = side_at (piece_of layout to) (nth_hole (piece_of layout to) m)

-- a side that takes is the second of a face
record TakesFace (mosaic : MosaicLists) (layout : Cuts) (to m : ℕ) (link : FaceLink) (first : CellSide) : Type 0 where
  mate : mate_of mosaic (second_of layout to m) ≡ Some first
  order : Comes first (second_of layout to m)
  from : link.from ≡ owner_of layout first.0
  source : link.source ≡ spot_of layout first
  target : link.target ≡ spot_of layout (second_of layout to m)

-- what the second side of a face takes
abbrev from_first : Cuts → CellSide → CellSide → ℕ × Across
from_first layout second first = (owner_of layout first.0, record { source = spot_of layout first; target = spot_of layout second })

takes_face : (mosaic : MosaicLists) (layout : Cuts) (to m : ℕ) (link : FaceLink) → side_takes mosaic layout to m ≡ Some (link.from, as_across link) → (first : CellSide) × TakesFace mosaic layout to m link first
takes_face mosaic layout to m link takes = elim (cases_option (mate_of mosaic (second_of layout to m))) [
  | inl none ↦ absurd (let nothing = ap (if_second layout (second_of layout to m)) none in cc)
  | inr (first, some) ↦
      let something = ap (if_second layout (second_of layout to m)) some in
      elim (cases_Bool (comes first (second_of layout to m))) [
        | inl before ↦
            let taken = something ∙ cond-true (comes first (second_of layout to m)) (Some (from_first layout (second_of layout to m) first)) None before in
            let same : ◌≡◌ {A = ℕ × Across} (link.from, as_across link) (from_first layout (second_of layout to m) first) = some_same (sym takes ∙ taken) in (
              first,
              record {
                mate = some;
                order = comes_from first (second_of layout to m) before;
                from = ap (λ (q : ℕ × Across). q.0) same;
                source = ap (λ (q : ℕ × Across). q.1.source) same;
                target = ap (λ (q : ℕ × Across). q.1.target) same;
              },
            )
        | inr not_before ↦ absurd (let nothing = something ∙ cond-false (comes first (second_of layout to m)) (Some (from_first layout (second_of layout to m) first)) None not_before in cc)
      ]
]

face_takes : (mosaic : MosaicLists) (layout : Cuts) (to m : ℕ) (first second : CellSide) → second_of layout to m ≡ second → mate_of mosaic second ≡ Some first → Comes first second → side_takes mosaic layout to m ≡ Some (from_first layout second first)
face_takes mosaic layout to m first second is mate order =
    ap (face_taken mosaic layout) is
    ∙ ap (if_second layout second) mate
    ∙ cond-true (comes first second) (Some (from_first layout second first)) None (comes_is first second order)

-- the second side is of the piece, along its edge
record SecondSide (layout : Cuts) (to m : ℕ) : Type 0 where
  cell : IsCellOf layout.tiles (second_of layout to m).0
  owner : owner_of layout (second_of layout to m).0 ≡ to
  along : IsAlong (piece_of layout to) (second_of layout to m)
  held : Holds (piece_of layout to) (second_of layout to m).0

second_side : (layout : Cuts) (to m : ℕ) → OwnersAgree layout → to < pieces_of layout → m < holes_in layout 1 to → SecondSide layout to m
second_side layout to m owners below count =
    let piece = owners.inside to below in
    let hole = hole_is (piece_of layout to) 1 m piece.shape count in
    let side = (nth_hole (piece_of layout to) m).side in
    let held = hole_held layout.tiles (piece_of layout to) (nth_hole (piece_of layout to) m).side (nth_hole (piece_of layout to) m).at piece hole.at in
    record {
      cell = edge_inside layout.tiles (piece_of layout to) (nth_hole (piece_of layout to) m).side (nth_hole (piece_of layout to) m).at piece hole.at;
      owner = sym (owners.only to (second_of layout to m).0 below held);
      along = hole_along layout.tiles (piece_of layout to) (nth_hole (piece_of layout to) m).side (nth_hole (piece_of layout to) m).at piece;
      held = held;
    }

-- a side whose mate lies along the edge of its piece lies along the edge of its own
along_too : (mosaic : MosaicLists) (layout : Cuts) (a b : CellSide) → layout.tiles ≡ mosaic.tiles → OwnersAgree layout → IsCellOf layout.tiles a.0 → IsCellOf layout.tiles b.0 → mate_of mosaic a ≡ Some b → IsAlong (piece_of layout (owner_of layout b.0)) b → IsAlong (piece_of layout (owner_of layout a.0)) a
along_too mosaic layout a b tiles owners cell_a cell_b mate along = elim (along_cases (piece_of layout (owner_of layout a.0)) a) [
  | inl is ↦ is
  | inr not_along ↦
      let below = owners.below a.0 cell_a in
      let piece = subst (λ (l : List Tile). IsPieceOf l (piece_of layout (owner_of layout a.0))) tiles (owners.inside (owner_of layout a.0) below) in
      let next = inner_mate mosaic (piece_of layout (owner_of layout a.0)) a b piece (owners.holds a.0 cell_a) not_along mate in
      let owner = owners.only (owner_of layout a.0) b.0 below next.0 in
      absurd (next.1 (subst (λ p. IsAlong (piece_of layout p) b) (sym owner) along))
]

-- a face whose first side's mate isn't inside a piece: the second side lies along the edge of its piece
second_along : (mosaic : MosaicLists) (layout : Cuts) (first second : CellSide) → layout.tiles ≡ mosaic.tiles → OwnersAgree layout → IsCellOf layout.tiles first.0 → IsCellOf layout.tiles second.0 → mate_of mosaic second ≡ Some first → IsCrossed layout first second → IsAlong (piece_of layout (owner_of layout second.0)) second
second_along mosaic layout first second tiles owners cell_first cell_second mate (inr both) = both.1
second_along mosaic layout first second tiles owners cell_first cell_second mate (inl apart) = elim (along_cases (piece_of layout (owner_of layout second.0)) second) [
  | inl is ↦ is
  | inr not_along ↦
      let below = owners.below second.0 cell_second in
      let piece = subst (λ (l : List Tile). IsPieceOf l (piece_of layout (owner_of layout second.0))) tiles (owners.inside (owner_of layout second.0) below) in
      let next = inner_mate mosaic (piece_of layout (owner_of layout second.0)) second first piece (owners.holds second.0 cell_second) not_along mate in
      absurd (apart (sym (owners.only (owner_of layout second.0) first.0 below next.0)))
]

-- one strip comes before another where its pair does
faces_order : (layout : Cuts) (table : List (List Across)) (strips : List FaceStrip) (bundle : Bundled face_strip_made (pieces_of layout) table strips) (m n : ℕ) → 1 ≤ pieces_of layout → m < n → n < length strips → FacePrecedes (face_strip_at strips m) (face_strip_at strips n)
faces_order layout table strips bundle m n some order below =
    let first = bundle.is m (record { from = 0; to = 0; sources = []; targets = [] }) (omega arith) in
    let second = bundle.is n (record { from = 0; to = 0; sources = []; targets = [] }) below in
    subst (λ (s : FaceStrip). FacePrecedes s (face_strip_at strips n)) (sym first)
    (subst (λ (s : FaceStrip). FacePrecedes (face_strip_made (bundle.pair m / pieces_of layout) (bundle.pair m % pieces_of layout) (get_or table (bundle.pair m) [])) s) (sym second)
    (pairs_order (pieces_of layout) (bundle.pair m) (bundle.pair n) some (bundle.order m n order below)))

-- the table's items by taker, and the strips by pair
abbrev Items : MosaicLists → Cuts → List (List Across) → Type 0
Items mosaic layout table = Given (side_takes mosaic layout) (holes_in layout 1) (pieces_of layout) table

abbrev Strips : Cuts → List (List Across) → List FaceStrip → Type 0
Strips layout table strips = Bundled face_strip_made (pieces_of layout) table strips

-- what is known of an entry of a pair's strip, which is the m-th side's
record Entry (mosaic : MosaicLists) (layout : Cuts) (p m : ℕ) (link : FaceLink) : Type 0 where
  from : link.from ≡ p / pieces_of layout
  to : link.to ≡ p % pieces_of layout
  below : link.to < pieces_of layout
  count : m < holes_in layout 1 link.to
  takes : side_takes mosaic layout link.to m ≡ Some (link.from, as_across link)

made_entry : (mosaic : MosaicLists) (layout : Cuts) (table : List (List Across)) (items : Items mosaic layout table) (p k : ℕ) → 1 ≤ pieces_of layout → p < pieces_of layout * pieces_of layout → k < length (get_or table p []) → Entry mosaic layout p (items.which p k) (face_made layout table p k)
made_entry mosaic layout table items p k some below within =
    let is = items.is p k (record { source = (0, 0, W); target = (0, 0, W) }) below within in
    record { from = refl; to = refl; below = (is_pair (pieces_of layout) p some below).to; count = is.0; takes = is.1 }

-- what stands in a strip is made of its pair's list
record Standing (layout : Cuts) (table : List (List Across)) (p k : ℕ) (link : FaceLink) : Type 0 where
  below : p < pieces_of layout * pieces_of layout
  within : k < length (get_or table p [])
  is : face_made layout table p k ≡ link

standing : (layout : Cuts) (table : List (List Across)) (strips : List FaceStrip) (bundle : Strips layout table strips) (n k : ℕ) (link : FaceLink) → FaceStandsAt strips n k link → Standing layout table (bundle.pair n) k link
standing layout table strips bundle n k link at =
    let strip = bundle.is n (record { from = 0; to = 0; sources = []; targets = [] }) at.strip in
    let count : length (face_strip_at strips n).sources ≡ length (get_or table (bundle.pair n) []) = ap (λ (s : FaceStrip). length s.sources) strip ∙ length-map (get_or table (bundle.pair n) []) (λ (link : Across). link.source) in
    let inside = at.within in
    let within : k < length (get_or table (bundle.pair n) []) = omega arith in
    record {
      below = bundle.below n at.strip;
      within = within;
      is = sym (ap (λ (s : FaceStrip). face_link_at s k) strip ∙ made_face layout table (bundle.pair n) k within) ∙ at.is;
    }

stands : (layout : Cuts) (table : List (List Across)) (strips : List FaceStrip) (bundle : Strips layout table strips) (n k : ℕ) (link : FaceLink) → n < length strips → Standing layout table (bundle.pair n) k link → FaceStandsAt strips n k link
stands layout table strips bundle n k link below standing =
    let strip = bundle.is n (record { from = 0; to = 0; sources = []; targets = [] }) below in
    let count : length (face_strip_at strips n).sources ≡ length (get_or table (bundle.pair n) []) = ap (λ (s : FaceStrip). length s.sources) strip ∙ length-map (get_or table (bundle.pair n) []) (λ (link : Across). link.source) in
    let inside = standing.within in
    record {
      strip = below;
      within = omega arith;
      is = ap (λ (s : FaceStrip). face_link_at s k) strip ∙ made_face layout table (bundle.pair n) k standing.within ∙ standing.is;
    }

entry : (mosaic : MosaicLists) (layout : Cuts) (table : List (List Across)) (items : Items mosaic layout table) (p k : ℕ) (link : FaceLink) → 1 ≤ pieces_of layout → Standing layout table p k link → Entry mosaic layout p (items.which p k) link
entry mosaic layout table items p k link some standing =
    subst (Entry mosaic layout p (items.which p k)) standing.is (made_entry mosaic layout table items p k some standing.below standing.within)

-- each face that a side takes stands
found : (mosaic : MosaicLists) (layout : Cuts) (table : List (List Across)) (items : Items mosaic layout table) (link : FaceLink) (m : ℕ) → link.from < pieces_of layout → link.to < pieces_of layout → m < holes_in layout 1 link.to → side_takes mosaic layout link.to m ≡ Some (link.from, as_across link)
    → (k : ℕ) × Standing layout table (link.from * pieces_of layout + link.to) k link
found mosaic layout table items link m from to count takes =
    let row = div-mul-add link.from (pieces_of layout) link.to to in
    let column = mod-mul-add link.from (pieces_of layout) link.to to in
    let below = mul-add-lt link.from (pieces_of layout) link.to (pieces_of layout) from to in
    let count_there = subst (λ t. m < holes_in layout 1 t) (sym column) count in
    let takes_there : side_takes mosaic layout ((link.from * pieces_of layout + link.to) % pieces_of layout) m ≡ Some ((link.from * pieces_of layout + link.to) / pieces_of layout, as_across link) =
    ap (λ t. side_takes mosaic layout t m) column ∙ takes ∙ ap (λ f. Some (f, as_across link)) (sym row) in
    let at = items.found (link.from * pieces_of layout + link.to) m (as_across link) below count_there takes_there in
    let is = items.is (link.from * pieces_of layout + link.to) at.0 (record { source = (0, 0, W); target = (0, 0, W) }) below at.1 in
    let same_number = ap (λ w. side_takes mosaic layout ((link.from * pieces_of layout + link.to) % pieces_of layout) w) at.2 in
    let item : get_or (get_or table (link.from * pieces_of layout + link.to) []) at.0 (record { source = (0, 0, W); target = (0, 0, W) }) ≡ as_across link = second_same (sym is.1 ∙ same_number ∙ takes_there) in (
      at.0,
      record {
        below = below;
        within = at.1;
        is = λ s. record { from = row s; to = column s; source = (item s).source; target = (item s).target };
      },
    )

each_face : (mosaic : MosaicLists) (layout : Cuts) (table : List (List Across)) (strips : List FaceStrip) (ready : FacesReady mosaic layout table) (items : Items mosaic layout table) (bundle : Strips layout table strips) (first second : CellSide) → IsFace mosaic first second → IsCrossed layout first second → (n : ℕ) × (k : ℕ) × FaceStandsAt strips n k (face_link layout first second)
each_face mosaic layout table strips ready items bundle first second is crossed =
    let cell_first = subst (λ (tiles : List Tile). IsCellOf tiles first.0) (sym ready.tiles) is.cell in
    let cell_second = subst (λ (tiles : List Tile). IsCellOf tiles second.0) (sym ready.tiles) (ready.mates.within first second is.cell is.mate) in
    let mate = ready.mates.back first second is.cell is.mate in
    let from = ready.owners.below first.0 cell_first in
    let to = ready.owners.below second.0 cell_second in
    let along = second_along mosaic layout first second ready.tiles ready.owners cell_first cell_second mate crossed in
    let piece = ready.owners.inside (owner_of layout second.0) to in
    let out = out_of (piece_of layout (owner_of layout second.0)) second (ready.owners.holds second.0 cell_second) along in
    let number = hole_has (piece_of layout (owner_of layout second.0)) 1 (record { side = second.1; at = along_at (piece_of layout (owner_of layout second.0)) second; depth = 1 }) piece.shape out.hole in
    let takes = face_takes mosaic layout (owner_of layout second.0) number.0 first second (ap (side_at (piece_of layout (owner_of layout second.0))) number.2 ∙ out.is) mate is.order in
    let at = found mosaic layout table items (face_link layout first second) number.0 from to number.1 takes in
    let here = at.1 in
    let within = here.within in
    let strip = bundle.found (owner_of layout first.0 * pieces_of layout + owner_of layout second.0) here.below (omega arith) in
    (strip.0, at.0, stands layout table strips bundle strip.0 at.0 (face_link layout first second) strip.1 (subst (λ p. Standing layout table p at.0 (face_link layout first second)) (sym strip.2) here))

-- the spot of a side is one of the piece of its cell
spot_within : (layout : Cuts) (a : CellSide) → OwnersAgree layout → IsCellOf layout.tiles a.0 → IsPlaceOf (piece_of layout (owner_of layout a.0)) ((spot_of layout a).0, (spot_of layout a).1)
spot_within layout a owners cell = place_is (piece_of layout (owner_of layout a.0)) a.0 (owners.holds a.0 cell)

face_within : (mosaic : MosaicLists) (layout : Cuts) (table : List (List Across)) (ready : FacesReady mosaic layout table) (first second : CellSide) → IsFace mosaic first second → FaceIsWithin layout (face_link layout first second)
face_within mosaic layout table ready first second is =
    let cell_first = subst (λ (tiles : List Tile). IsCellOf tiles first.0) (sym ready.tiles) is.cell in
    let cell_second = subst (λ (tiles : List Tile). IsCellOf tiles second.0) (sym ready.tiles) (ready.mates.within first second is.cell is.mate) in
    record {
      from = ready.owners.below first.0 cell_first;
      to = ready.owners.below second.0 cell_second;
      source = spot_within layout first ready.owners cell_first;
      target = spot_within layout second ready.owners cell_second;
    }

-- nothing else does
only_faces : (mosaic : MosaicLists) (layout : Cuts) (table : List (List Across)) (strips : List FaceStrip) (ready : FacesReady mosaic layout table) (items : Items mosaic layout table) (bundle : Strips layout table strips) (n k : ℕ) (link : FaceLink) → FaceStandsAt strips n k link → (first : CellSide) × (second : CellSide) × IsFace mosaic first second × IsCrossed layout first second × (link ≡ face_link layout first second)
only_faces mosaic layout table strips ready items bundle n k link at =
    let here = entry mosaic layout table items (bundle.pair n) k link ready.some (standing layout table strips bundle n k link at) in
    let m = items.which (bundle.pair n) k in
    let taken = takes_face mosaic layout link.to (items.which (bundle.pair n) k) link here.takes in
    let face = taken.1 in
    let second = second_side layout link.to (items.which (bundle.pair n) k) ready.owners here.below here.count in
    let second_cell = subst (λ (tiles : List Tile). IsCellOf tiles (second_of layout link.to (items.which (bundle.pair n) k)).0) ready.tiles second.cell in
    let first_cell = ready.mates.within (second_of layout link.to (items.which (bundle.pair n) k)) taken.0 second_cell face.mate in
    let first_here = subst (λ (tiles : List Tile). IsCellOf tiles taken.0.0) (sym ready.tiles) first_cell in
    let back = ready.mates.back (second_of layout link.to (items.which (bundle.pair n) k)) taken.0 second_cell face.mate in
    let along = subst (λ p. IsAlong (piece_of layout p) (second_of layout link.to (items.which (bundle.pair n) k))) (sym second.owner) second.along in
    let from = face.from in
    let source = face.source in
    let target = face.target in
    let to = sym second.owner in (
      taken.0,
      second_of layout link.to (items.which (bundle.pair n) k),
      record { cell = first_cell; mate = back; order = face.order },
      inr (along_too mosaic layout taken.0 (second_of layout link.to (items.which (bundle.pair n) k)) ready.tiles ready.owners first_here second.cell back along, along),
      λ s. record { from = from s; to = to s; source = source s; target = target s },
    )

-- the spot of a second side
spot_is : (layout : Cuts) (to m : ℕ) → SecondSide layout to m → spot_of layout (second_of layout to m) ≡ ((place_in (piece_of layout to) (second_of layout to m).0).0, (place_in (piece_of layout to) (second_of layout to m).0).1, (second_of layout to m).1)
spot_is layout to m second =
    ap (λ p. ((place_in (piece_of layout p) (second_of layout to m).0).0, (place_in (piece_of layout p) (second_of layout to m).0).1, (second_of layout to m).1)) second.owner

-- second sides of a piece with one spot are one, and of one number
same_number : (layout : Cuts) (to m l : ℕ) → OwnersAgree layout → to < pieces_of layout → m < holes_in layout 1 to → l < holes_in layout 1 to → spot_of layout (second_of layout to m) ≡ spot_of layout (second_of layout to l) → m ≡ l
same_number layout to m l owners below count_m count_l same =
    let piece = owners.inside to below in
    let first = second_side layout to m owners below count_m in
    let second = second_side layout to l owners below count_l in
    let spot = sym (spot_is layout to m first) ∙ same ∙ spot_is layout to l second in
    let column = ap (λ (s : Spot). s.0) spot in
    let row = ap (λ (s : Spot). s.1) spot in
    let side = ap (λ (s : Spot). s.2) spot in
    let cell = same_cell (piece_of layout to) (second_of layout to m).0 (second_of layout to l).0 first.held second.held (λ s. (column s, row s)) in
    let one : second_of layout to m ≡ second_of layout to l = λ s. (cell s, side s) in
    hole_apart (piece_of layout to) m l piece.shape
    (same_hole (piece_of layout to) (nth_hole (piece_of layout to) m) (nth_hole (piece_of layout to) l) (hole_is (piece_of layout to) 1 m piece.shape count_m) (hole_is (piece_of layout to) 1 l piece.shape count_l) one)

-- no face stands twice
face_once : (mosaic : MosaicLists) (layout : Cuts) (table : List (List Across)) (strips : List FaceStrip) (ready : FacesReady mosaic layout table) (items : Items mosaic layout table) (bundle : Strips layout table strips) (n m k l : ℕ) (link : FaceLink) → FaceStandsAt strips n k link → FaceStandsAt strips m l link → (n ≡ m) × (k ≡ l)
face_once mosaic layout table strips ready items bundle n m k l link at_a at_b =
    let stand_a = standing layout table strips bundle n k link at_a in
    let stand_b = standing layout table strips bundle m l link at_b in
    let here_a = entry mosaic layout table items (bundle.pair n) k link ready.some stand_a in
    let here_b = entry mosaic layout table items (bundle.pair m) l link ready.some stand_b in
    let face_a = (takes_face mosaic layout link.to (items.which (bundle.pair n) k) link here_a.takes).1 in
    let face_b = (takes_face mosaic layout link.to (items.which (bundle.pair m) l) link here_b.takes).1 in
    let number = same_number layout link.to (items.which (bundle.pair n) k) (items.which (bundle.pair m) l) ready.owners here_a.below here_a.count here_b.count (sym face_a.target ∙ face_b.target) in
    let pair : bundle.pair n ≡ bundle.pair m = same_pair (pieces_of layout) (bundle.pair n) (bundle.pair m) (sym here_a.from ∙ here_b.from) (sym here_a.to ∙ here_b.to) in (
      same_by_order (λ i. bundle.pair i) n m (length strips) (λ i j order below. bundle.order i j order below) at_a.strip at_b.strip pair,
      same_by_order (λ i. items.which (bundle.pair n) i) k l (length (get_or table (bundle.pair n) [])) (λ i j order below. items.order (bundle.pair n) i j stand_a.below order below) stand_a.within (subst (λ p. l < length (get_or table p [])) (sym pair) stand_b.within) (number ∙ ap (λ p. items.which p l) (sym pair)),
    )

pub are_face_strips : (mosaic : MosaicLists) (layout : Cuts) (table : List (List Across)) → FacesReady mosaic layout table → AreFaceStrips mosaic layout (picks (made_at face_strip_made (pieces_of layout) table) (pieces_of layout * pieces_of layout))
are_face_strips mosaic layout table ready =
    let strips = picks (made_at face_strip_made (pieces_of layout) table) (pieces_of layout * pieces_of layout) in
    let items = given_items (side_takes mosaic layout) (holes_in layout 1) (pieces_of layout) table ready.some ready.filled in
    let bundle = bundled face_strip_made (pieces_of layout) table (record { from = 0; to = 0; sources = []; targets = [] }) in
    record {
      sorted = λ m n order below. faces_order layout table strips bundle m n ready.some order below;
      even = λ n below.
          let strip = bundle.is n (record { from = 0; to = 0; sources = []; targets = [] }) below in
          ap (λ (s : FaceStrip). length s.targets) strip ∙ length-map (get_or table (bundle.pair n) []) (λ (link : Across). link.target) ∙ sym (ap (λ (s : FaceStrip). length s.sources) strip ∙ length-map (get_or table (bundle.pair n) []) (λ (link : Across). link.source));
      some = λ n below.
          let strip = bundle.is n (record { from = 0; to = 0; sources = []; targets = [] }) below in
          let count : length (face_strip_at strips n).sources ≡ length (get_or table (bundle.pair n) []) = ap (λ (s : FaceStrip). length s.sources) strip ∙ length-map (get_or table (bundle.pair n) []) (λ (link : Across). link.source) in
          let some = bundle.some n below in
          omega arith;
      each = λ first second is crossed. each_face mosaic layout table strips ready items bundle first second is crossed;
      only = λ n k link at. only_faces mosaic layout table strips ready items bundle n k link at;
      within = λ n k link at.
          let face = only_faces mosaic layout table strips ready items bundle n k link at in
          subst (FaceIsWithin layout) (sym face.4) (face_within mosaic layout table ready face.0 face.1 face.2);
      once = λ n m k l link at_a at_b. face_once mosaic layout table strips ready items bundle n m k l link at_a at_b;
    }
