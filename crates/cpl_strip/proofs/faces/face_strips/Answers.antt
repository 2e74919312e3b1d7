use Rattle.std.proofs.Common.{sym, ◌∙◌, ap, subst, ◌*◌, List, ℕ}
use Rattle.std.proofs.lemmas.Result.{IfOk-weaker}
use Rattle.cpl_layout.specs.Pieces.{pieces_of}
use Rattle.cpl_strip.specs.declared.parts.FaceStrip.{FaceStrip}
use Rattle.cpl_strip.specs.Faces.{AreFaceStrips}
use Rattle.cpl_strip.specs.Tables.{picks, made_at}
use Rattle.cpl_strip.specs.Taken.{side_takes, holes_in, face_strip_made}
use Rattle.cpl_strip.specs.Between.{face_strips_of}
use Rattle.cpl_strip.proofs.Bundles.{some_pieces}
use Rattle.cpl_strip.proofs.Pairs.{made_pairs}
use Rattle.cpl_strip.proofs.Faced.{are_face_strips}
use Rattle.cpl_strip.proofs.faces.face_strips.Goals as goal

pub returns-clause-links : goal.returns-clause-links
returns-clause-links c =
    let strung = are_face_strips c.args.mosaic.now c.args.layout.now c.in_ok-table.table (record {
      tiles = c.requires;
      mates = c.cells-cells.ensures.mates;
      owners = c.pieces.ensures.owners;
      some = some_pieces c.args.layout.now c.pieces.ensures.rules;
      filled = c.in_ok-table.ensures;
    }) in
    IfOk-weaker _ _ _
    (λ v h. subst (λ (l : List FaceStrip). AreFaceStrips c.args.mosaic.now c.args.layout.now l)
    (sym (h ∙ ap (λ (n : ℕ). picks (made_at face_strip_made n c.in_ok-table.table) (n * n)) c.pieces.ensures.count)) strung)
    c.strips_in.ensures

pub returns-clause-exact : goal.returns-clause-exact
unfolding face_strips_of
returns-clause-exact c =
    let some = some_pieces c.args.layout.now c.pieces.ensures.rules in
    IfOk-weaker c.strips_in.result _ _
    (λ v h. h ∙ ap (λ (n : ℕ). picks (made_at face_strip_made n c.in_ok-table.table) (n * n)) c.pieces.ensures.count
    ∙ made_pairs face_strip_made (side_takes c.args.mosaic.now c.args.layout.now) (holes_in c.args.layout.now 1) (pieces_of c.args.layout.now) c.in_ok-table.table some c.in_ok-table.ensures)
    c.strips_in.ensures
