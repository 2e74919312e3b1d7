use Rattle.std.proofs.Common.{◌≡◌, ◌+◌, ◌<◌, ◌^◌, arith, refl}
use Rattle.std.specs.List.{range_with_len}
use Rattle.std.proofs.lemmas.List.Elements.{All-append}
use Rattle.cpl_combine.specs.Places.{faces_between, window_faces}
use Rattle.cpl_combine.specs.Windows.{row_start}
use Rattle.cpl_combine.proofs.Steps.{range_below, rows_next}
use Rattle.cpl_combine.proofs.places.faces_of.Goals as goal

pub loop-j-preserved : goal.loop-j-preserved
loop-j-preserved c =
    let tiles = c.args.mosaic.now.tiles in
    let w = c.args.window in
    let faces = c.args.faces.now in
    let run = range_with_len c.faces_before-from.result c.saturating_sub.result in
    let is : run ≡ faces_between faces (row_start tiles w c.loop-j.j) (row_start tiles w c.loop-j.j + w.nx) = rw (c.saturating_sub.ensures, c.faces_before-from.ensures.before, c.faces_before-to.ensures.before, c.row_start-start.ensures.start) refl in
    record {
      faces = rows_next (λ j. faces_between faces (row_start tiles w j) (row_start tiles w j + w.nx)) c.loop-j.places.items c.push_run.new.out.items run c.loop-j.j c.in_ok-push_run.ensures c.loop-j.invariant.faces is;
      small = rw c.in_ok-push_run.ensures (All-append (λ n. n < 2 ^ 24) c.loop-j.places.items run c.loop-j.invariant.small (range_below c.faces_before-from.result c.saturating_sub.result (2 ^ 24) (let from = c.faces_before-from.ensures.few in let to = c.faces_before-to.ensures.few in omega (arith, c.saturating_sub.ensures))));
    }

pub returns-clause-faces : goal.returns-clause-faces
unfolding window_faces
returns-clause-faces c =
    let end : c.loop-j.j ≡ c.args.window.ny = omega arith in
    rw (← end) c.loop-j.invariant.faces
