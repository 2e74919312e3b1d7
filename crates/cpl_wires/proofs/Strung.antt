-- Strips of a layout: they make a group, they are few, and their pieces are of the layout.
use Rattle.std.proofs.Common.{◌≡◌, refl, sym, ℕ, zero, suc, ◌+◌, ◌*◌, ◌<◌, ◌≤◌, arith, inl, inr, List, [], length}
use Rattle.std.specs.Prelude.{All}
use Rattle.std.proofs.lemmas.Bool.{cases_lt}
use Rattle.std.proofs.lemmas.List.Elements.{All-from_get_or}
use Rattle.cpl_mosaic.specs.Lists.{MosaicLists}
use Rattle.cpl_layout.specs.Layouts.{Cuts, IsLayout}
use Rattle.cpl_field.specs.Spots.{HoleAt}
use Rattle.cpl_strip.specs.declared.parts.Hole.{Hole}
use Rattle.cpl_strip.specs.declared.parts.Strip.{Strip}
use Rattle.cpl_strip.specs.declared.parts.FaceStrip.{FaceStrip}
use Rattle.cpl_strip.specs.Strips.{AreStrips, StandsAt, strip_at, link_at}
use Rattle.cpl_strip.specs.Faces.{AreFaceStrips, face_strip_at, face_link_at}
use Rattle.cpl_group.specs.Parts.{IsStrip}
use Rattle.cpl_wires.specs.Tables.{HavePieces, HaveFacePieces}

hole_back : (g h : Hole) → HoleAt g.side g.at g.depth ≡ HoleAt h.side h.at h.depth → g ≡ h
hole_back g h e =
    let side : g.side ≡ h.side = cc in
    let at : g.at ≡ h.at = cc in
    let depth : g.depth ≡ h.depth = cc in
    λ t. record { side = side t; at = at t; depth = depth t }

module _ (mosaic : MosaicLists) (layout : Cuts) (width : ℕ) (strips : List Strip) (are : AreStrips mosaic layout width strips) (rules : IsLayout layout) where
  pub strips_are : All IsStrip strips
  strips_are = All-from_get_or IsStrip strips (record { from = 0; to = 0; places = []; holes = [] }) (λ m l. record {
    even = sym (are.even m l);
    once = λ j k below under same.
        let even = are.even m l in
        let a : StandsAt strips m j (link_at (strip_at strips m) j) = record { strip = l; within = omega arith; is = refl } in
        let b : StandsAt strips m k (link_at (strip_at strips m) k) = record { strip = l; within = omega arith; is = refl } in
        (are.once m m j k (link_at (strip_at strips m) j) (link_at (strip_at strips m) k) a b refl (hole_back (link_at (strip_at strips m) j).hole (link_at (strip_at strips m) k).hole same)).1;
  })

  ends_below : (m : ℕ) → m < length strips → ((strip_at strips m).from < 64) × ((strip_at strips m).to < 64)
  ends_below m l =
      let within = are.within m 0 (link_at (strip_at strips m) 0) (record { strip = l; within = are.some m l; is = refl }) in
      let few = rules.few in
      (omega (arith, within.from), omega (arith, within.to))

  pub have_pieces : HavePieces strips
  have_pieces = All-from_get_or (λ (strip : Strip). (strip.from < 64) × (strip.to < 64)) strips (record { from = 0; to = 0; places = []; holes = [] }) ends_below

  ranked : (m : ℕ) → m < length strips → m ≤ (strip_at strips m).from * 64 + (strip_at strips m).to
  ranked zero l = omega arith
  ranked (suc m) l =
      let before = ranked m (omega arith) in
      let here = ends_below m (omega arith) in
      let there = ends_below (suc m) l in
      elim (are.sorted m (suc m) (omega arith) l) [
        | inl less ↦ omega arith
        | inr same ↦ omega (arith, same.0, same.1)
      ]

  pub strips_few : length strips ≤ 4096
  strips_few = elim (cases_lt 4096 (length strips)) [
    | inl more ↦ let rank = ranked 4096 more in let ends = ends_below 4096 more in absurd (omega arith)
    | inr few ↦ few
  ]

module _ (mosaic : MosaicLists) (layout : Cuts) (strips : List FaceStrip) (are : AreFaceStrips mosaic layout strips) (rules : IsLayout layout) where
  face_ends_below : (m : ℕ) → m < length strips → ((face_strip_at strips m).from < 64) × ((face_strip_at strips m).to < 64)
  face_ends_below m l =
      let within = are.within m 0 (face_link_at (face_strip_at strips m) 0) (record { strip = l; within = are.some m l; is = refl }) in
      let few = rules.few in
      (omega (arith, within.from), omega (arith, within.to))

  pub have_face_pieces : HaveFacePieces strips
  have_face_pieces = All-from_get_or (λ (strip : FaceStrip). (strip.from < 64) × (strip.to < 64)) strips (record { from = 0; to = 0; sources = []; targets = [] }) face_ends_below

  face_ranked : (m : ℕ) → m < length strips → m ≤ (face_strip_at strips m).from * 64 + (face_strip_at strips m).to
  face_ranked zero l = omega arith
  face_ranked (suc m) l =
      let before = face_ranked m (omega arith) in
      let here = face_ends_below m (omega arith) in
      let there = face_ends_below (suc m) l in
      elim (are.sorted m (suc m) (omega arith) l) [
        | inl less ↦ omega arith
        | inr same ↦ omega (arith, same.0, same.1)
      ]

  pub face_strips_few : length strips ≤ 4096
  face_strips_few = elim (cases_lt 4096 (length strips)) [
    | inl more ↦ let rank = face_ranked 4096 more in let ends = face_ends_below 4096 more in absurd (omega arith)
    | inr few ↦ few
  ]
