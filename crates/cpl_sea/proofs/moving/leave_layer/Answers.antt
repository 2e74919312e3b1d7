use Rattle.std.proofs.Common.{◌≡◌, ◌∙◌, ◌+◌, ◌<◌, arith, length}
use Rattle.cpl_transport.specs.Salts.{nothing, without}
use Rattle.cpl_sea.specs.Before.{cell_at}
use Rattle.cpl_sea.specs.Passes.{cell_faces_at, out_of, salty_at}
use Rattle.cpl_sea.proofs.Writes.{written, written_before}
use Rattle.cpl_sea.proofs.moving.leave_layer.Goals as goal

pub loop-n-preserved : goal.loop-n-preserved
loop-n-preserved c =
    let n = c.loop-n.n in
    let begin = c.args.begin in
    let place = c.args.place in
    let rest = c.loop-n.rest in
    let before = c.args.before.now in
    let within : place + n < length rest = omega arith in
    let value : c.without.result ≡ without (cell_at before (begin + n)) (out_of (salty_at c.args.flows.now) (cell_faces_at c.args.faces.now n)) =
    c.without.ensures ∙ (λ i. without (c.cell.ensures.value i) (c.moved_out-out.ensures.value i)) in
    record {
      left = written nothing rest place n c.without.result within (λ k. without (cell_at before (begin + k)) (out_of (salty_at c.args.flows.now) (cell_faces_at c.args.faces.now k))) value c.loop-n.invariant.left;
      before = written_before nothing rest place n c.without.result within c.args.rest.now c.loop-n.invariant.before;
    }
