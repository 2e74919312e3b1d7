use Rattle.std.proofs.Common.{◌≡◌, ◌∙◌, sym, ap, subst, arith, ℕ, ◌+◌, ◌-◌, ◌*◌, ◌<◌, length}
use Rattle.std.specs.Prelude.{All, slice_range}
use Rattle.cpl_transport.specs.Salts.{AreSmall, nothing, without}
use Rattle.cpl_sea.specs.Before.{cell_at, face_place, left_by}
use Rattle.cpl_sea.specs.Passes.{AreSidesWithin, cell_faces_at, out_of, salty_at}
use Rattle.cpl_sea.proofs.Looked.{no_cell_faces}
use Rattle.cpl_sea.proofs.Outs.{out_same}
use Rattle.cpl_sea.proofs.Rows.{later_row, one_more, place_below}
use Rattle.cpl_sea.proofs.Slices.{slice_at, slice_each, slice_length}
use Rattle.cpl_sea.proofs.blocks.leave_block.Goals as goal

pub leave_layer-requires-clause-faces : goal.leave_layer-requires-clause-faces
leave_layer-requires-clause-faces c =
    let before = c.args.before.now in
    let from = c.args.block.from in
    let to = from + c.args.block.width in
    let first = c.loop-layer.layer * length before.links.now in
    let row = later_row (length before.links.now) c.loop-layer.layer before.layers c.args.done 0 c.loop-layer-test.true c.requires.done in
    let long : length (slice_range c.args.flows.now first (first + c.args.done)) ≡ c.args.done = slice_length c.args.flows.now first (first + c.args.done) (omega (arith, row)) ∙ omega arith in
    subst (λ (n : ℕ). All (AreSidesWithin n) (slice_range before.cell_faces.now from to)) (sym long)
    (slice_each (AreSidesWithin c.args.done) no_cell_faces before.cell_faces.now from to (omega arith) (λ n l. c.requires.sides n (omega (arith, l))))

pub leave_layer-requires-clause-flows : goal.leave_layer-requires-clause-flows
leave_layer-requires-clause-flows c =
    let before = c.args.before.now in
    let layer = c.loop-layer.layer in
    let first = layer * length before.links.now in
    let row = later_row (length before.links.now) layer before.layers c.args.done 0 c.loop-layer-test.true c.requires.done in
    slice_each AreSmall nothing c.args.flows.now first (first + c.args.done) (omega (arith, row)) (λ f l. c.requires.small layer f c.loop-layer-test.true (omega (arith, l)))

pub loop-layer-preserved : goal.loop-layer-preserved
loop-layer-preserved c = λ k n l m.
    let before = c.args.before.now in
    let from = c.args.block.from in
    let width = c.args.block.width in
    let flows = c.args.flows.now in
    let done = c.args.done in
    let layer = c.loop-layer.layer in
    let first = layer * length before.links.now in
    let now = c.leave_layer.new.rest in
    let block = slice_range before.cell_faces.now from (from + width) in
    let long : length block ≡ from + width - from = slice_length before.cell_faces.now from (from + width) (omega arith) in
    let some = slice_range flows first (first + done) in
    let flow : (f : ℕ) → f < done → salty_at some f ≡ salty_at flows (first + f) = λ f less. slice_at nothing flows first (first + done) f (omega arith) in
    let here : (layer * length before.heights.now + from) + n ≡ layer * length before.heights.now + (from + n) = omega arith in
    let own : cell_faces_at block n ≡ cell_faces_at before.cell_faces.now (from + n) = slice_at no_cell_faces before.cell_faces.now from (from + width) n (omega arith) in
    one_more (λ k. salty_at now (k * width + n) ≡ left_by before (λ f. salty_at flows (face_place before k f)) k (from + n)) layer
    (λ k less. c.leave_layer.ensures.before (k * width + n) (place_below layer width k n less m) ∙ c.loop-layer.invariant k n less m)
    (c.leave_layer.ensures.left n (omega (arith, long))
    ∙ (λ i. without (cell_at before (here i)) (out_of (salty_at some) (own i)))
    ∙ ap (without (cell_at before (layer * length before.heights.now + (from + n))))
    (out_same done (salty_at some) (λ f. salty_at flows (first + f)) flow (cell_faces_at before.cell_faces.now (from + n)) (c.requires.sides n m))) k l
