use Rattle.std.proofs.Common.{◌≡◌, ◌∙◌, sym, ap, subst, arith, ℕ, ◌<◌, ◌++◌, ◌∷◌, [], List, length, get_or, take}
use Rattle.std.specs.Prelude.{map}
use Rattle.std.proofs.lemmas.List.{map_more, take_all}
use Rattle.cpl_mosaic.specs.declared.mosaic.Mesh.{Mesh}
use Rattle.cpl_faces.specs.declared.face.Face.{Face}
use Rattle.cpl_faces.specs.Faces.{faces_of}
use Rattle.cpl_state.specs.Diffusion.{cell_count}
use Rattle.cpl_state.specs.Transport.{face_at, no_face}
use Rattle.cpl_sea.specs.declared.links.Link.{Link}
use Rattle.cpl_sea.specs.Links.{link_of, links_of}
use Rattle.cpl_sea.specs.Seas.{IsOcean}
use Rattle.cpl_sea.proofs.Looked.{face_below}
use Rattle.cpl_sea.proofs.lookups.links.Goals as goal

below : (mesh : Mesh) → IsOcean mesh → (faces : List Face) → faces ≡ faces_of mesh.mosaic → (k : ℕ) → k < length faces → ((get_or faces k no_face).first < cell_count mesh) × ((get_or faces k no_face).second < cell_count mesh)
below mesh ocean faces e k l =
    let long = ap length e in
    let same : get_or faces k no_face ≡ face_at mesh k = ap (λ (t : List Face). get_or t k no_face) e in
    let is = face_below mesh ocean k (omega (arith, long)) in (
      subst (λ (t : Face). t.first < cell_count mesh) (sym same) is.0,
      subst (λ (t : Face). t.second < cell_count mesh) (sym same) is.1,
    )

pub link-requires-clause-first : goal.link-requires-clause-first
link-requires-clause-first c = (below c.args.mesh.now c.requires.ocean c.args.faces.now c.requires.faces c.loop-face.face-index c.loop-face-test.true).0

pub link-requires-clause-second : goal.link-requires-clause-second
link-requires-clause-second c = (below c.args.mesh.now c.requires.ocean c.args.faces.now c.requires.faces c.loop-face.face-index c.loop-face-test.true).1

pub loop-face-preserved : goal.loop-face-preserved
loop-face-preserved c =
    c.in_ok-push.ensures.items
    ∙ (λ i. c.loop-face.invariant i ++ c.link.ensures i ∷ [])
    ∙ sym (map_more (link_of c.args.mesh.now) c.args.faces.now c.loop-face.face-index no_face c.loop-face-test.true)

all_of : (mesh : Mesh) (faces : List Face) (links : List Link) (n : ℕ) → faces ≡ faces_of mesh.mosaic → length faces ≡ n → links ≡ map (link_of mesh) (take n faces) → links ≡ links_of mesh
unfolding links_of
all_of mesh faces links n e long is =
    is ∙ ap (map (link_of mesh)) (take_all n faces (omega (arith, long)) ∙ e)

pub returns : goal.returns
returns c = all_of c.args.mesh.now c.args.faces.now c.loop-face.links.items c.loop-face.face-index c.requires.faces (omega arith) c.loop-face.invariant
