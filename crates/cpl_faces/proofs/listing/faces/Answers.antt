use Rattle.std.proofs.Common.{◌≡◌, ◌++◌, sym, ◌∙◌, ap, arith, add-one}
use Rattle.cpl_mosaic.specs.Contacts.{cells_of}
use Rattle.cpl_faces.specs.Faces.{faces_from, faces_of}
use Rattle.cpl_faces.proofs.Listed.{flat_map_next, are_faces}
use Rattle.cpl_faces.proofs.listing.faces.Goals as goal

pub loop-n-preserved : goal.loop-n-preserved
loop-n-preserved c =
    rw add-one (c.in_ok-push_faces.ensures ∙ ap (λ t. t ++ faces_from c.args.mosaic.now c.loop-n.n) c.loop-n.invariant ∙ sym (flat_map_next (faces_from c.args.mosaic.now) 0 c.loop-n.n c.loop-n.n (omega arith)))

pub returns-clause-faces : goal.returns-clause-faces
unfolding faces_of
returns-clause-faces c =
    let end : c.loop-n.n ≡ cells_of c.args.mosaic.now.tiles = omega (arith, c.cells-cells.ensures.count) in
    rw (← end) c.loop-n.invariant

pub returns-clause-are : goal.returns-clause-are
unfolding faces_of
returns-clause-are c =
    let end : c.loop-n.n ≡ cells_of c.args.mosaic.now.tiles = omega (arith, c.cells-cells.ensures.count) in
    let is : c.loop-n.faces.items ≡ faces_of c.args.mosaic.now = rw (← end) c.loop-n.invariant in
    rw is (are_faces c.args.mosaic.now c.cells-cells.ensures.numbers c.cells-cells.ensures.mates)
