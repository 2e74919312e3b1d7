-- The strip of two pieces of a component, as the list of strips has it.
use Rattle.std.proofs.Common.{cond, ◌≡◌, ◌∙◌, refl, sym, ap, ℕ, ◌-◌, ◌*◌, ◌<◌, ◌&&◌, arith, inl, inr, Bool, true, false, [], length, eqb, Option, Some, None, is_some, option_map}
use Rattle.std.proofs.lemmas.Bool.{cond-true, cond-false, cases_lt, and_parts, and_from, eqb-true, eq-eqb, lt-ltb, le-ltb}
use Rattle.std.proofs.lemmas.List.{length-map}
use Rattle.cpl_fixed.specs.declared.words.Component.{Component}
use Rattle.cpl_mosaic.specs.Lists.{MosaicLists}
use Rattle.cpl_mosaic.specs.Mates.{MatesAgree}
use Rattle.cpl_layout.specs.Layouts.{Cuts}
use Rattle.cpl_layout.specs.Pieces.{pieces_of}
use Rattle.cpl_strip.specs.declared.parts.Strip.{Strip}
use Rattle.cpl_strip.specs.declared.parts.FaceStrip.{FaceStrip}
use Rattle.cpl_strip.specs.Strips.{strip_at}
use Rattle.cpl_strip.specs.Faces.{face_strip_at}
use Rattle.cpl_strip.specs.Taken.{strip_made, face_strip_made}
use Rattle.cpl_strip.specs.Between.{strips_of, face_strips_of, halo_between, faces_between, StripsAgree, FaceStripsAgree}
use Rattle.cpl_strip.proofs.Listed.{strips_agree, face_strips_agree}
use Rattle.cpl_wires.specs.Settings.{Setting, IsSetting, mesh_of, layout_of, base_of, pieces_in}
use Rattle.cpl_wires.specs.Pairs.{some, strip_between, face_strip_between}
use Rattle.cpl_wires.specs.Laws.{IsOf}
use Rattle.cpl_wires.specs.Tables.{strip_with, face_strip_with, strip_if, face_strip_if, strip_size, halo_strips}
use Rattle.cpl_wires.proofs.Found.{first_is, first_none}

ends : (a b from to : ℕ) → (eqb a from && eqb b to) ≡ true → (a ≡ from) × (b ≡ to)
ends a b from to is = let both = and_parts (eqb a from) (eqb b to) is in (eqb-true a from both.0, eqb-true b to both.1)

-- a strip of these pieces is what its pieces make it
pub strip_found : (mosaic : MosaicLists) (layout : Cuts) (width from to : ℕ) → StripsAgree mosaic layout width → from < pieces_of layout → to < pieces_of layout
    → strip_with (strips_of mosaic layout width) from to ≡ strip_if (strip_made from to (halo_between mosaic layout width from to))
strip_found mosaic layout width from to agree l h =
    let strips = strips_of mosaic layout width in
    let links = halo_between mosaic layout width from to in
    let test = λ (strip : Strip). eqb strip.from from && eqb strip.to to in
    let none : Strip = record { from = 0; to = 0; places = []; holes = [] } in
    let places : length (strip_made from to links).places ≡ length links = length-map links (λ link. link.place) in
    let holes : length (strip_made from to links).holes ≡ length links = length-map links (λ link. link.hole) in
    let only : (j : ℕ) → j < length strips → test (strip_at strips j) ≡ true → strip_at strips j ≡ strip_made from to links = λ j k e.
    let at = ends (strip_at strips j).from (strip_at strips j).to from to e in
    agree.whole j k
    ∙ ap (λ (a : ℕ). strip_made a (strip_at strips j).to (halo_between mosaic layout width a (strip_at strips j).to)) at.0
    ∙ ap (λ (b : ℕ). strip_made from b (halo_between mosaic layout width from b)) at.1 in
    elim (cases_lt 0 (length links)) [
      | inl some ↦
          let found = agree.found from to l h some in
          let passes : test (strip_at strips found.0) ≡ true = ap test found.2 ∙ and_from (eqb from from) (eqb to to) (eq-eqb from from refl) (eq-eqb to to refl) in
          first_is test (strip_made from to links) strips found.0 none only found.1 passes
          ∙ sym (cond-true _ (Some (strip_made from to links)) None (lt-ltb 0 (length (strip_made from to links).places) (omega arith)))
      | inr empty ↦
          first_none test strips none (λ j k e.
          let some = agree.links.some j k in
          let len = ap (λ (strip : Strip). length strip.holes) (only j k e) in absurd (omega arith))
          ∙ sym (cond-false _ (Some (strip_made from to links)) None (le-ltb 0 (length (strip_made from to links).places) (omega arith)))
    ]

-- how many faces a face strip has, if there is one
abbrev pub faces_size : Option FaceStrip → ℕ
faces_size None = 0
faces_size (Some strip) = length strip.sources

-- so is a face strip
pub face_strip_found : (mosaic : MosaicLists) (layout : Cuts) (from to : ℕ) → FaceStripsAgree mosaic layout → from < pieces_of layout → to < pieces_of layout
    → face_strip_with (face_strips_of mosaic layout) from to ≡ face_strip_if (face_strip_made from to (faces_between mosaic layout from to))
face_strip_found mosaic layout from to agree l h =
    let strips = face_strips_of mosaic layout in
    let links = faces_between mosaic layout from to in
    let test = λ (strip : FaceStrip). eqb strip.from from && eqb strip.to to in
    let none : FaceStrip = record { from = 0; to = 0; sources = []; targets = [] } in
    let sources : length (face_strip_made from to links).sources ≡ length links = length-map links (λ link. link.source) in
    let only : (j : ℕ) → j < length strips → test (face_strip_at strips j) ≡ true → face_strip_at strips j ≡ face_strip_made from to links = λ j k e.
    let at = ends (face_strip_at strips j).from (face_strip_at strips j).to from to e in
    agree.whole j k
    ∙ ap (λ (a : ℕ). face_strip_made a (face_strip_at strips j).to (faces_between mosaic layout a (face_strip_at strips j).to)) at.0
    ∙ ap (λ (b : ℕ). face_strip_made from b (faces_between mosaic layout from b)) at.1 in
    elim (cases_lt 0 (length links)) [
      | inl some ↦
          let found = agree.found from to l h some in
          let passes : test (face_strip_at strips found.0) ≡ true = ap test found.2 ∙ and_from (eqb from from) (eqb to to) (eq-eqb from from refl) (eq-eqb to to refl) in
          first_is test (face_strip_made from to links) strips found.0 none only found.1 passes
          ∙ sym (cond-true _ (Some (face_strip_made from to links)) None (lt-ltb 0 (length (face_strip_made from to links).sources) (omega arith)))
      | inr empty ↦
          first_none test strips none (λ j k e.
          let some = agree.links.some j k in
          let len = ap (λ (strip : FaceStrip). length strip.sources) (only j k e) in absurd (omega arith))
          ∙ sym (cond-false _ (Some (face_strip_made from to links)) None (le-ltb 0 (length (face_strip_made from to links).sources) (omega arith)))
    ]

-- THE STRIPS OF A SETTING

module _ (setting : Setting) (component : Component) (from to : ℕ) (is : IsSetting setting) (mates : MatesAgree (mesh_of setting.grid component).mosaic) (a : IsOf setting 0 (Some component) from) (b : IsOf setting 0 (Some component) to) where
  place_below : (piece : ℕ) → IsOf setting 0 (Some component) piece → piece - base_of setting component < pieces_of (layout_of setting component)
  unfolding pieces_in
  place_below piece of = omega (arith, of.0, of.1)

  -- the strip of two pieces
  pub halo_is : (width : ℕ) → strip_with (halo_strips setting component width) (from - base_of setting component) (to - base_of setting component) ≡ strip_if (strip_between setting component width from to)
  unfolding strip_between
  halo_is width =
      strip_found (mesh_of setting.grid component).mosaic (layout_of setting component) width (from - base_of setting component) (to - base_of setting component)
      (strips_agree (mesh_of setting.grid component).mosaic (layout_of setting component) width refl mates (is.layouts component)) (place_below from a) (place_below to b)

  -- the face strip of two pieces
  pub faces_are : face_strip_with (face_strips_of (mesh_of setting.grid component).mosaic (layout_of setting component)) (from - base_of setting component) (to - base_of setting component)
      ≡ face_strip_if (face_strip_between setting component from to)
  unfolding face_strip_between
  faces_are =
      face_strip_found (mesh_of setting.grid component).mosaic (layout_of setting component) (from - base_of setting component) (to - base_of setting component)
      (face_strips_agree (mesh_of setting.grid component).mosaic (layout_of setting component) refl mates (is.layouts component)) (place_below from a) (place_below to b)

-- WHERE THERE IS ONE

pub some_map : {S T : Type 0} (f : S → T) (o : Option S) → is_some (option_map f o) ≡ is_some o
some_map f None = refl
some_map f (Some x) = refl

some_cond : {T : Type 0} (b : Bool) (x : T) → is_some (cond b (Some x) None) ≡ b
some_cond true x = refl
some_cond false x = refl

pub some_strip : (strip : Strip) → is_some (strip_if strip) ≡ some strip.places
some_strip strip = some_cond (some strip.places) strip

pub some_faces : (strip : FaceStrip) → is_some (face_strip_if strip) ≡ some strip.sources
some_faces strip = some_cond (some strip.sources) strip

-- how many places it has
pub strip_size_is : (strip : Strip) → strip_size (strip_if strip) ≡ length strip.places
strip_size_is strip = elim (cases_lt 0 (length strip.places)) [
  | inl more ↦ ap strip_size (cond-true (some strip.places) (Some strip) None (lt-ltb 0 (length strip.places) more))
  | inr none ↦ let zero : 0 ≡ length strip.places = omega arith in ap strip_size (cond-false (some strip.places) (Some strip) None (le-ltb 0 (length strip.places) none)) ∙ zero
]

-- how many faces it has
pub faces_size_is : (strip : FaceStrip) (o : Option FaceStrip) → o ≡ face_strip_if strip → faces_size o ≡ length strip.sources
faces_size_is strip o is = elim (cases_lt 0 (length strip.sources)) [
  | inl more ↦ ap faces_size (is ∙ cond-true (some strip.sources) (Some strip) None (lt-ltb 0 (length strip.sources) more))
  | inr none ↦ let zero : 0 ≡ length strip.sources = omega arith in ap faces_size (is ∙ cond-false (some strip.sources) (Some strip) None (le-ltb 0 (length strip.sources) none)) ∙ zero
]

-- how many numbers it carries, of two fields, and of three in each layer
pub double : (n : ℕ) → n * 2 ≡ 2 * n
double n = omega arith

pub regrouped : (n layers : ℕ) → n * (3 * layers) ≡ layers * (3 * n)
regrouped n layers = omega arith
