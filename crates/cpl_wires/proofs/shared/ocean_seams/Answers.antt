use Rattle.std.proofs.Common.{◌≡◌, ◌∙◌, sym, subst, arith}
use Rattle.std.proofs.lemmas.Result.{IfOk-weaker}
use Rattle.cpl_layout.specs.Layouts.{IsLayout}
use Rattle.cpl_strip.specs.Between.{face_strips_of}
use Rattle.cpl_wires.specs.Tables.{sea_faces}
use Rattle.cpl_wires.proofs.Strung.{have_face_pieces, face_strips_few}
use Rattle.cpl_wires.proofs.shared.ocean_seams.Goals as goal

pub new-requires-clause-pieces : goal.new-requires-clause-pieces
new-requires-clause-pieces c =
    have_face_pieces c.grid-grid.result.now.ocean.mosaic c.layout-layout.result.now c.in_ok-found.found.items c.in_ok-found.ensures.links
    (subst IsLayout (sym c.layout-layout.ensures.layout) c.layout-layout.ensures.lawful)

pub new-requires-clause-few : goal.new-requires-clause-few
new-requires-clause-few c =
    let few = face_strips_few c.grid-grid.result.now.ocean.mosaic c.layout-layout.result.now c.in_ok-found.found.items c.in_ok-found.ensures.links
    (subst IsLayout (sym c.layout-layout.ensures.layout) c.layout-layout.ensures.lawful) in omega arith

pub returns : goal.returns
returns c =
    let found : c.in_ok-found.found.items ≡ sea_faces c.args.pieces.now =
    c.in_ok-found.ensures.exact ∙ (λ t. face_strips_of (c.grid-grid.ensures.grid t).ocean.mosaic (c.layout-layout.ensures.layout t)) in
    IfOk-weaker c.new.result (λ seams. seams ≡ c.in_ok-found.found.items) (λ seams. seams ≡ sea_faces c.args.pieces.now) (λ seams is. is ∙ found) c.new.ensures
