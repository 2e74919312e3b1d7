-- What moves through the sides of cells, by the faces.
use Rattle.std.proofs.Common.{◌≡◌, ◌∙◌, refl, sym, ap, ℕ, Bool, true, false, Option, Some, None}
use Rattle.std.specs.Prelude.{ℤ, pos, neg_ℤ, if◌then◌else◌}
use Rattle.std.specs.List.{position}
use Rattle.std.proofs.lemmas.List.Quantifiers.{position-Some}
use Rattle.cpl_fixed.specs.declared.rates.Rates.{Rates}
use Rattle.cpl_mosaic.specs.declared.mosaic.Mesh.{Mesh}
use Rattle.cpl_mosaic.specs.declared.parts.Side.{Side}
use Rattle.cpl_mosaic.specs.Sides.{CellSide}
use Rattle.cpl_mosaic.specs.Cells.{cell_of}
use Rattle.cpl_mosaic.specs.Mates.{mate_of}
use Rattle.cpl_faces.specs.Faces.{faces_of}
use Rattle.cpl_ice.specs.declared.parts.Salty.{Salty}
use Rattle.cpl_transport.specs.Moves.{through}
use Rattle.cpl_transport.specs.Salts.{nothing, turned}
use Rattle.cpl_transport.proofs.Leaving.{given_none, through_turned}
use Rattle.cpl_state.specs.Diffusion.{cell_number}
use Rattle.cpl_state.specs.Transport.{Sea, behind, cell_in, face_at, flow_through, flow_to, is_first, is_open, is_second, next_number, no_face, outward, seen}
use Rattle.cpl_sea.specs.Links.{face_flow, seen_flow, side_face, side_face_by}
use Rattle.cpl_sea.specs.Seas.{IsOcean}
use Rattle.cpl_sea.proofs.Sides.{first_of, second_of}

-- nothing moves by 0
pub through_none : (behind here there beyond : Salty) → through (pos 0) behind here there beyond ≡ nothing
through_none behind here there beyond = given_none behind here there

pub flow_none : (mesh : Mesh) (sea : Sea) (layer n : ℕ) (side : Side) (o : Option CellSide) → flow_to mesh sea (pos 0) layer n side o ≡ nothing
flow_none mesh sea layer n side None = refl
flow_none mesh sea layer n side (Some mate) =
    through_none (cell_in mesh sea layer (behind mesh n side)) (cell_in mesh sea layer n) (cell_in mesh sea layer (cell_number mesh mate)) (cell_in mesh sea layer (behind mesh (cell_number mesh mate) mate.1))

-- a wall keeps 0
wall_by : (b : Bool) (x : ℤ) → b ≡ false → (if b then x else pos 0) ≡ pos 0
wall_by true x h = absurd (cc h)
wall_by false x h = refl

pub wall_keeps : (mesh : Mesh) (layers : ℕ) (rates : Rates) (sea : Sea) (layer f : ℕ) → is_open mesh (face_at mesh f).first (face_at mesh f).second ≡ false → next_number mesh layers rates sea layer f ≡ pos 0
unfolding next_number
wall_keeps mesh layers rates sea layer f h = wall_by (is_open mesh (face_at mesh f).first (face_at mesh f).second) _ h

-- at a wall nothing moves anyway
wall_or : (b : Bool) (u : ℤ) (behind here there beyond : Salty) → (b ≡ false → u ≡ pos 0) → through u behind here there beyond ≡ (if b then through u behind here there beyond else nothing)
wall_or true u behind here there beyond h = refl
wall_or false u behind here there beyond h = ap (λ (v : ℤ). through v behind here there beyond) (h refl) ∙ through_none behind here there beyond

module _ (mesh : Mesh) (layers : ℕ) (rates : Rates) (sea : Sea) (ocean : IsOcean mesh) (layer : ℕ) where
  abbrev number : ℕ → ℤ
  number f = next_number mesh layers rates sea layer f

  abbrev mate_at : ℕ → Side → Option CellSide
  mate_at n side = mate_of mesh.mosaic (cell_of mesh.mosaic.tiles n, side)

  -- what moves between two cells, each with the one behind it
  abbrev pub between : (u : ℤ) → (n : ℕ) → Side → (m : ℕ) → Side → Salty
  between u n side m other = through u (cell_in mesh sea layer (behind mesh n side)) (cell_in mesh sea layer n) (cell_in mesh sea layer m) (cell_in mesh sea layer (behind mesh m other))

  -- what moves through a face, from its first side
  face_between : (f n : ℕ) (side : Side) (m : ℕ) (other : Side) → (face_at mesh f).first ≡ n → (face_at mesh f).first_side ≡ side → (face_at mesh f).second ≡ m → (face_at mesh f).second_side ≡ other
      → between (number f) n side m other ≡ face_flow mesh layers rates sea layer f
  unfolding face_flow
  face_between f n side m other e g h k =
      let wall = wall_or (is_open mesh (face_at mesh f).first (face_at mesh f).second) (number f) _ _ _ _ (wall_keeps mesh layers rates sea layer f) in
      sym (λ i. between (number f) (e i) (g i) (h i) (k i)) ∙ wall

  by_first : (n : ℕ) (side : Side) (f : ℕ) (p : Option ℕ) → position (is_first n side) (faces_of mesh.mosaic) ≡ Some f
      → flow_to mesh sea (seen number (Some f) p) layer n side (mate_at n side) ≡ face_flow mesh layers rates sea layer f
  by_first n side f p e =
      let at = position-Some (is_first n side) (faces_of mesh.mosaic) f no_face e in
      let is = first_of mesh.mosaic ocean.mates ocean.numbers ocean.faces n side f at.0 at.1 in
      ap (flow_to mesh sea (number f) layer n side) is.is
      ∙ face_between f n side (cell_number mesh is.mate) is.mate.1 is.here is.here_side is.second is.second_side

  by_second : (n : ℕ) (side : Side) (f : ℕ) → position (is_second n side) (faces_of mesh.mosaic) ≡ Some f
      → flow_to mesh sea (neg_ℤ (number f)) layer n side (mate_at n side) ≡ turned (face_flow mesh layers rates sea layer f)
  by_second n side f e =
      let at = position-Some (is_second n side) (faces_of mesh.mosaic) f no_face e in
      let is = second_of mesh.mosaic ocean.mates ocean.numbers ocean.faces n side f at.0 at.1 in
      let m = cell_number mesh is.mate in
      ap (flow_to mesh sea (neg_ℤ (number f)) layer n side) is.is
      ∙ through_turned (number f) (cell_in mesh sea layer (behind mesh m is.mate.1)) (cell_in mesh sea layer m) (cell_in mesh sea layer n) (cell_in mesh sea layer (behind mesh n side))
      ∙ ap turned (face_between f m is.mate.1 n side is.first is.first_side is.here is.here_side)

  by_place : (n : ℕ) (side : Side) (o p : Option ℕ) → position (is_first n side) (faces_of mesh.mosaic) ≡ o → position (is_second n side) (faces_of mesh.mosaic) ≡ p
      → flow_to mesh sea (seen number o p) layer n side (mate_at n side) ≡ seen_flow (face_flow mesh layers rates sea layer) (side_face_by o p)
  by_place n side (Some f) p e h = by_first n side f p e
  by_place n side None (Some f) e h = by_second n side f h
  by_place n side None None e h = flow_none mesh sea layer n side (mate_at n side)

  -- a side sees what moves through its face
  pub flow_seen : (n : ℕ) (side : Side) → flow_through mesh layers rates sea layer n side ≡ seen_flow (face_flow mesh layers rates sea layer) (side_face mesh.mosaic n side)
  unfolding flow_through outward
  flow_seen n side = by_place n side (position (is_first n side) (faces_of mesh.mosaic)) (position (is_second n side) (faces_of mesh.mosaic)) refl refl
