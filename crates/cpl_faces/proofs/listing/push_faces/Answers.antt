use Rattle.std.proofs.Common.{◌≡◌, ◌++◌, [], OnOk, ◌∙◌, ap, subst}
use Rattle.std.specs.List.{cons_option}
use Rattle.cpl_mosaic.specs.declared.parts.Side.TheVariants.{W, E, S, N}
use Rattle.cpl_faces.specs.Faces.{face_from}
use Rattle.cpl_faces.proofs.Listed.{one_by_one}
use Rattle.cpl_faces.proofs.listing.push_faces.Goals as goal

pub returns : goal.returns
returns c =
    let mosaic = c.args.mosaic.now in
    let n = c.args.n in
    let w : c.push_face.new.faces.items ≡ c.args.faces.now.items ++ cons_option (face_from mosaic n W) [] = c.in_ok-push_face.ensures in
    let e : c.push_face-2.new.faces.items ≡ c.push_face.new.faces.items ++ cons_option (face_from mosaic n E) [] = c.in_ok-push_face-2.ensures in
    let s : c.push_face-3.new.faces.items ≡ c.push_face-2.new.faces.items ++ cons_option (face_from mosaic n S) [] = c.in_ok-push_face-3.ensures in
    let before : c.push_face-3.new.faces.items ≡ ((c.args.faces.now.items ++ cons_option (face_from mosaic n W) []) ++ cons_option (face_from mosaic n E) []) ++ cons_option (face_from mosaic n S) [] =
    s ∙ ap (λ t. t ++ cons_option (face_from mosaic n S) []) (e ∙ ap (λ t. t ++ cons_option (face_from mosaic n E) []) w) in
    let all = ap (λ t. t ++ cons_option (face_from mosaic n N) []) before ∙ one_by_one c.args.faces.now.items (face_from mosaic n W) (face_from mosaic n E) (face_from mosaic n S) (face_from mosaic n N) in
    subst (λ t. OnOk c.push_face-4.result (c.push_face-4.new.faces.items ≡ t)) all c.push_face-4.ensures
