use Rattle.std.proofs.Common.{arith, ◌≤◌, below_more}
use Rattle.std.proofs.lemmas.List.Elements.{All-from_get_or, All-get_or}
use Rattle.cpl_sea.specs.Passes.{AreSidesWithin, cell_faces_at}
use Rattle.cpl_sea.proofs.Looked.{no_cell_faces}
use Rattle.cpl_sea.proofs.Moved.{sides_more}
use Rattle.cpl_sea.proofs.blocks.ready_faces.Goals as goal

pub loop-n-preserved : goal.loop-n-preserved
loop-n-preserved c =
    let faces = c.args.faces.now in
    let n = c.loop-n.n in
    let is = c.loop-n.invariant in
    let more : c.loop-n.ready ≤ c.max-ready.result = omega (arith, c.max-ready.ensures) in
    let own : c.needed_by.result ≤ c.max-ready.result = omega (arith, c.max-ready.ensures) in
    record {
      done = omega (arith, more, is.done);
      within = below_more (λ k. AreSidesWithin c.max-ready.result (cell_faces_at faces k)) n
          (λ k l. sides_more c.loop-n.ready c.max-ready.result more (cell_faces_at faces k) (is.within k l))
          (sides_more c.needed_by.result c.max-ready.result own (cell_faces_at faces n) c.needed_by.ensures.within);
      least = λ most le all.
          let before = is.least most le all in
          let here = c.needed_by.ensures.least most (All-get_or (AreSidesWithin most) faces n no_cell_faces c.loop-n-test.true all) in
          omega (arith, before, here, c.max-ready.ensures);
    }

pub returns-clause-within : goal.returns-clause-within
returns-clause-within c = All-from_get_or (AreSidesWithin c.loop-n.ready) c.args.faces.now no_cell_faces (λ k l. c.loop-n.invariant.within k (omega arith))
