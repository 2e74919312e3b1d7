-- The lists of strips and of face strips, whoever makes them: they are the strips of the layout, and each is that of its pair.
use Rattle.std.proofs.Common.{◌≡◌, sym, ◌∙◌, ap, subst, ℕ, ◌+◌, ◌*◌, ◌<◌, ◌≤◌, arith, List, [], length, map, get_or, Option}
use Rattle.std.specs.Prelude.{◌/◌, ◌%◌}
use Rattle.std.specs.List.{range_with_len}
use Rattle.std.proofs.lemmas.List.FromFn.{length-map-range_with_len, get_or-map-range_with_len}
use Rattle.std.proofs.lemmas.Nat.{div-mul-add, mod-mul-add, mul-add-lt}
use Rattle.cpl_mosaic.specs.Lists.{MosaicLists}
use Rattle.cpl_mosaic.specs.Mates.{MatesAgree}
use Rattle.cpl_layout.specs.Layouts.{Cuts, IsLayout}
use Rattle.cpl_layout.specs.Pieces.{pieces_of}
use Rattle.cpl_layout.proofs.Numbered.{owners_agree}
use Rattle.cpl_strip.specs.declared.parts.Strip.{Strip}
use Rattle.cpl_strip.specs.declared.parts.FaceStrip.{FaceStrip}
use Rattle.cpl_strip.specs.Strips.{AreStrips}
use Rattle.cpl_strip.specs.Faces.{AreFaceStrips}
use Rattle.cpl_strip.specs.Tables.{picks, gifts, IsFilled, made_at, if_some, for_pairs}
use Rattle.cpl_strip.specs.Taken.{hole_takes, side_takes, holes_in, strip_made, face_strip_made}
use Rattle.cpl_strip.specs.Between.{strips_of, halo_between, face_strips_of, faces_between, StripsAgree, FaceStripsAgree}
use Rattle.cpl_strip.proofs.Filled.{done_before}
use Rattle.cpl_strip.proofs.Bundles.{holds, bundled, some_pieces}
use Rattle.cpl_strip.proofs.Pairs.{made_pairs}
use Rattle.cpl_strip.proofs.Strung.{are_strips}
use Rattle.cpl_strip.proofs.Faced.{are_face_strips}

-- a table in which all that is taken stands
abbrev full_table : {T : Type 0} → (ℕ → ℕ → Option (ℕ × T)) → (ℕ → ℕ) → ℕ → List (List T)
full_table taken counts pieces = map (λ n. gifts taken (n / pieces) (n % pieces) (counts (n % pieces))) (range_with_len 0 (pieces * pieces))

full_is : {T : Type 0} (taken : ℕ → ℕ → Option (ℕ × T)) (counts : ℕ → ℕ) (pieces : ℕ) → IsFilled taken counts pieces pieces 0 (full_table taken counts pieces)
full_is taken counts pieces = record {
  size = length-map-range_with_len (λ n. gifts taken (n / pieces) (n % pieces) (counts (n % pieces))) 0 (pieces * pieces);
  each = λ from t from_below t_below.
      let row = div-mul-add from pieces t t_below in
      let column = mod-mul-add from pieces t t_below in
      get_or-map-range_with_len (λ n. gifts taken (n / pieces) (n % pieces) (counts (n % pieces))) 0 (pieces * pieces) (from * pieces + t) (from * pieces + t) [] (mul-add-lt from pieces t pieces from_below t_below) (omega arith)
      ∙ (λ s. gifts taken (row s) (column s) (counts (column s)))
      ∙ ap (λ k. gifts taken from t k) (sym (done_before counts pieces 0 t t_below));
}

-- each strip of a filled table is made of what its pair gives, and each pair that gives something has one
record ByPair {T R : Type 0} (made : ℕ → ℕ → List T → R) (taken : ℕ → ℕ → Option (ℕ × T)) (counts : ℕ → ℕ) (pieces : ℕ) (strips : List R) (d : R) : Type 0 where
  is : (n : ℕ) → n < length strips → (from : ℕ) × (to : ℕ) × (get_or strips n d ≡ made from to (gifts taken from to (counts to)))
  found : (from to : ℕ) → from < pieces → to < pieces → 1 ≤ length (gifts taken from to (counts to)) → (n : ℕ) × (n < length strips) × (get_or strips n d ≡ made from to (gifts taken from to (counts to)))

by_pair : {T R : Type 0} (made : ℕ → ℕ → List T → R) (taken : ℕ → ℕ → Option (ℕ × T)) (counts : ℕ → ℕ) (pieces : ℕ) (d : R) → 1 ≤ pieces → ByPair made taken counts pieces (for_pairs pieces (λ from to. if_some (made from to) (gifts taken from to (counts to)))) d
by_pair {T = T} {R = R} made taken counts pieces d some =
    let full = full_is taken counts pieces in
    let bundle = bundled made pieces (full_table taken counts pieces) d in
    let filled : ByPair made taken counts pieces (picks (made_at made pieces (full_table taken counts pieces)) (pieces * pieces)) d = record {
      is = λ n below.
          (bundle.pair n / pieces, bundle.pair n % pieces, bundle.is n d below ∙ ap (made (bundle.pair n / pieces) (bundle.pair n % pieces)) (holds taken counts pieces (full_table taken counts pieces) (bundle.pair n) some full (bundle.below n below)));
      found = λ from to from_below to_below gives.
          let row = div-mul-add from pieces to to_below in
          let column = mod-mul-add from pieces to to_below in
          let below = mul-add-lt from pieces to pieces from_below to_below in
          let list : get_or (full_table taken counts pieces) (from * pieces + to) [] ≡ gifts taken from to (counts to) = holds taken counts pieces (full_table taken counts pieces) (from * pieces + to) some full below ∙ (λ s. gifts taken (row s) (column s) (counts (column s))) in
          let at = bundle.found (from * pieces + to) below (subst (λ (l : List T). 1 ≤ length l) (sym list) gives) in
          let pair = at.2 in (
            at.0,
            at.1,
            bundle.is at.0 d at.1
                ∙ (λ s. made (pair s / pieces) (pair s % pieces) (get_or (full_table taken counts pieces) (pair s) []))
                ∙ (λ s. made (row s) (column s) (list s)),
          );
    } in
    subst (λ (l : List R). ByPair made taken counts pieces l d) (made_pairs made taken counts pieces (full_table taken counts pieces) some full) filled

pub strips_agree : (mosaic : MosaicLists) (layout : Cuts) (width : ℕ) → layout.tiles ≡ mosaic.tiles → MatesAgree mosaic → IsLayout layout → StripsAgree mosaic layout width
unfolding strips_of
strips_agree mosaic layout width tiles mates is =
    let some = some_pieces layout is in
    let full = full_is (hole_takes mosaic layout) (holes_in layout width) (pieces_of layout) in
    let pairs = by_pair strip_made (hole_takes mosaic layout) (holes_in layout width) (pieces_of layout) (record { from = 0; to = 0; places = []; holes = [] }) some in
    record {
      links = subst (λ (l : List Strip). AreStrips mosaic layout width l)
          (made_pairs strip_made (hole_takes mosaic layout) (holes_in layout width) (pieces_of layout) (full_table (hole_takes mosaic layout) (holes_in layout width) (pieces_of layout)) some full)
          (are_strips mosaic layout width (full_table (hole_takes mosaic layout) (holes_in layout width) (pieces_of layout)) (record { tiles = tiles; mates = mates; owners = owners_agree layout is; some = some; filled = full }));
      whole = λ n below.
          let pair = pairs.is n below in
          let from = ap (λ (s : Strip). s.from) pair.2 in
          let to = ap (λ (s : Strip). s.to) pair.2 in
          pair.2 ∙ (λ s. strip_made (sym from s) (sym to s) (halo_between mosaic layout width (sym from s) (sym to s)));
      found = λ from to from_below to_below gives. pairs.found from to from_below to_below gives;
    }

pub face_strips_agree : (mosaic : MosaicLists) (layout : Cuts) → layout.tiles ≡ mosaic.tiles → MatesAgree mosaic → IsLayout layout → FaceStripsAgree mosaic layout
unfolding face_strips_of
face_strips_agree mosaic layout tiles mates is =
    let some = some_pieces layout is in
    let full = full_is (side_takes mosaic layout) (holes_in layout 1) (pieces_of layout) in
    let pairs = by_pair face_strip_made (side_takes mosaic layout) (holes_in layout 1) (pieces_of layout) (record { from = 0; to = 0; sources = []; targets = [] }) some in
    record {
      links = subst (λ (l : List FaceStrip). AreFaceStrips mosaic layout l)
          (made_pairs face_strip_made (side_takes mosaic layout) (holes_in layout 1) (pieces_of layout) (full_table (side_takes mosaic layout) (holes_in layout 1) (pieces_of layout)) some full)
          (are_face_strips mosaic layout (full_table (side_takes mosaic layout) (holes_in layout 1) (pieces_of layout)) (record { tiles = tiles; mates = mates; owners = owners_agree layout is; some = some; filled = full }));
      whole = λ n below.
          let pair = pairs.is n below in
          let from = ap (λ (s : FaceStrip). s.from) pair.2 in
          let to = ap (λ (s : FaceStrip). s.to) pair.2 in
          pair.2 ∙ (λ s. face_strip_made (sym from s) (sym to s) (faces_between mosaic layout (sym from s) (sym to s)));
      found = λ from to from_below to_below gives. pairs.found from to from_below to_below gives;
    }
