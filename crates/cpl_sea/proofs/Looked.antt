-- What a step looks up is within what it is looked up in.
use Rattle.std.proofs.Common.{◌≡◌, refl, sym, subst, ℕ, ◌<◌, arith, Bool, true, false, Option, Some, None, length}
use Rattle.std.specs.Prelude.{All, if◌then◌else◌}
use Rattle.std.specs.List.{position}
use Rattle.std.proofs.lemmas.List.{get_or-map, length-map}
use Rattle.std.proofs.lemmas.List.Elements.{All-from_get_or}
use Rattle.std.proofs.lemmas.List.FromFn.{get_or-map-range_with_len, length-map-range_with_len}
use Rattle.std.proofs.lemmas.List.Quantifiers.{position-Some}
use Rattle.cpl_mosaic.specs.declared.mosaic.Mesh.{Mesh}
use Rattle.cpl_mosaic.specs.declared.parts.Side.{Side}
use Rattle.cpl_mosaic.specs.declared.parts.Side.TheVariants.{W, E, S, N}
use Rattle.cpl_mosaic.specs.Lists.{MosaicLists}
use Rattle.cpl_mosaic.specs.Sides.{CellSide, opposite}
use Rattle.cpl_mosaic.specs.Cells.{cell_of}
use Rattle.cpl_mosaic.specs.Mates.{mate_of}
use Rattle.cpl_faces.specs.declared.face.Face.{Face}
use Rattle.cpl_faces.specs.Faces.{faces_of}
use Rattle.cpl_state.specs.Diffusion.{cell_count, cell_number}
use Rattle.cpl_state.specs.Transport.{behind, face_at, face_count, is_first, is_open, is_second, no_face, open_or}
use Rattle.cpl_sea.specs.declared.links.Link.{Link}
use Rattle.cpl_sea.specs.declared.links.SideFace.TheVariants.{Alone}
use Rattle.cpl_sea.specs.declared.links.CellFaces.{CellFaces}
use Rattle.cpl_sea.specs.Links.{all_cell_faces, cell_faces, link_of, links_of, side_face, side_face_by}
use Rattle.cpl_sea.specs.Passes.{AreSidesWithin, IsLinkWithin, IsSideWithin, cell_faces_at, link_at}
use Rattle.cpl_sea.specs.Seas.{IsOcean}
use Rattle.cpl_sea.proofs.Sides.{face_is}

abbrev pub no_link : Link
no_link = record { first = 0; second = 0; behind_first = 0; behind_second = 0; is_open = false }

abbrev pub no_cell_faces : CellFaces
no_cell_faces = record { west = Alone; east = Alone; south = Alone; north = Alone }

either_below : (b : Bool) (m n count : ℕ) → m < count → n < count → (if b then m else n) < count
either_below true m n count l k = l
either_below false m n count l k = k

within_by : (count : ℕ) (o p : Option ℕ) → ((f : ℕ) → o ≡ Some f → f < count) → ((f : ℕ) → p ≡ Some f → f < count) → IsSideWithin count (side_face_by o p)
within_by count (Some f) p h k = h f refl
within_by count None (Some f) h k = k f refl
within_by count None None h k = tt

pub side_within : (mosaic : MosaicLists) (n : ℕ) (side : Side) → IsSideWithin (length (faces_of mosaic)) (side_face mosaic n side)
side_within mosaic n side =
    within_by (length (faces_of mosaic)) (position (is_first n side) (faces_of mosaic)) (position (is_second n side) (faces_of mosaic))
    (λ f e. (position-Some (is_first n side) (faces_of mosaic) f no_face e).0)
    (λ f e. (position-Some (is_second n side) (faces_of mosaic) f no_face e).0)

pub sides_within : (mosaic : MosaicLists) (n : ℕ) → AreSidesWithin (length (faces_of mosaic)) (cell_faces mosaic n)
sides_within mosaic n = record { west = side_within mosaic n W; east = side_within mosaic n E; south = side_within mosaic n S; north = side_within mosaic n N }

module _ (mesh : Mesh) where
  pub length_links : length (links_of mesh) ≡ face_count mesh
  unfolding links_of
  length_links = length-map (faces_of mesh.mosaic) (link_of mesh)

  pub link_is : (f : ℕ) → f < face_count mesh → link_at (links_of mesh) f ≡ link_of mesh (face_at mesh f)
  unfolding links_of
  link_is f l = get_or-map (link_of mesh) (faces_of mesh.mosaic) f no_face no_link l

  pub length_cell_faces : length (all_cell_faces mesh) ≡ cell_count mesh
  unfolding all_cell_faces
  length_cell_faces = length-map-range_with_len (cell_faces mesh.mosaic) 0 (cell_count mesh)

  pub cell_faces_is : (n : ℕ) → n < cell_count mesh → cell_faces_at (all_cell_faces mesh) n ≡ cell_faces mesh.mosaic n
  unfolding all_cell_faces
  cell_faces_is n l = get_or-map-range_with_len (cell_faces mesh.mosaic) 0 (cell_count mesh) n n no_cell_faces l (omega arith)

  pub all_sides_within : All (AreSidesWithin (face_count mesh)) (all_cell_faces mesh)
  all_sides_within =
      All-from_get_or (AreSidesWithin (face_count mesh)) (all_cell_faces mesh) no_cell_faces
      (λ n l. subst (AreSidesWithin (face_count mesh)) (sym (cell_faces_is n (omega (arith, length_cell_faces)))) (sides_within mesh.mosaic n))

  module _ (ocean : IsOcean mesh) where
    open_below : (n : ℕ) → n < cell_count mesh → (o : Option CellSide) → ((b : CellSide) → o ≡ Some b → cell_number mesh b < cell_count mesh) → open_or mesh n o < cell_count mesh
    open_below n l None h = l
    open_below n l (Some b) h = either_below (is_open mesh n (cell_number mesh b)) (cell_number mesh b) n (cell_count mesh) (h b refl) l

    pub behind_below : (n : ℕ) (side : Side) → n < cell_count mesh → behind mesh n side < cell_count mesh
    unfolding behind
    behind_below n side l =
        open_below n l (mate_of mesh.mosaic (cell_of mesh.mosaic.tiles n, opposite side))
        (λ b e. ocean.numbers.below b.0 (ocean.mates.within (cell_of mesh.mosaic.tiles n, opposite side) b (ocean.numbers.is_cell n l) e))

    pub face_below : (f : ℕ) → f < face_count mesh → ((face_at mesh f).first < cell_count mesh) × ((face_at mesh f).second < cell_count mesh)
    face_below f l =
        let is = face_is mesh.mosaic ocean.mates ocean.numbers ocean.faces f l in
        let first = ocean.numbers.below is.0.0 is.2.cell in
        let second = ocean.numbers.below is.1.0 (ocean.mates.within is.0 is.1 is.2.cell is.2.mate) in (
          subst (λ (t : Face). t.first < cell_count mesh) (sym is.3) first,
          subst (λ (t : Face). t.second < cell_count mesh) (sym is.3) second,
        )

    pub link_within : (f : ℕ) → f < face_count mesh → IsLinkWithin (cell_count mesh) (link_of mesh (face_at mesh f))
    link_within f l =
        let below = face_below f l in
        record {
          first = below.0;
          second = below.1;
          behind_first = behind_below (face_at mesh f).first (face_at mesh f).first_side below.0;
          behind_second = behind_below (face_at mesh f).second (face_at mesh f).second_side below.1;
        }

    pub links_within : All (IsLinkWithin (cell_count mesh)) (links_of mesh)
    links_within =
        All-from_get_or (IsLinkWithin (cell_count mesh)) (links_of mesh) no_link
        (λ f l.
        let k : f < face_count mesh = omega (arith, length_links) in
        subst (IsLinkWithin (cell_count mesh)) (sym (link_is f k)) (link_within f k))
