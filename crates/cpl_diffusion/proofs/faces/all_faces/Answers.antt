use Rattle.std.proofs.Common.{◌≡◌, ◌∙◌, sym, ap, arith, [], ◌∷◌, ◌++◌}
use Rattle.cpl_diffusion.specs.Across.{faces_to}
use Rattle.cpl_diffusion.proofs.Across.{faces_to_more, faces_to_none}
use Rattle.cpl_diffusion.proofs.faces.all_faces.Goals as goal

pub faces_along-here-requires-clause-before : goal.faces_along-here-requires-clause-before
faces_along-here-requires-clause-before c = c.as_slice.ensures.value ∙ c.loop-n.invariant

pub loop-n-init : goal.loop-n-init
loop-n-init c = c.in_ok-faces.ensures.items ∙ sym (faces_to_none c.args.mesh.now c.args.ahead c.args.back)

pub loop-n-preserved : goal.loop-n-preserved
loop-n-preserved c =
    c.in_ok-push.ensures.items
    ∙ (λ i. c.loop-n.invariant i ++ c.faces_along-here.ensures i ∷ [])
    ∙ sym (faces_to_more c.args.mesh.now c.args.ahead c.args.back c.loop-n.n)

pub returns : goal.returns
returns c =
    let n : c.loop-n.n ≡ c.cells-cells.result = omega arith in
    record {
      air = c.requires;
      mates = c.cells-cells.ensures.mates;
      numbers = c.cells-cells.ensures.numbers;
      looked_up = c.loop-n.invariant ∙ ap (faces_to c.args.mesh.now c.args.ahead c.args.back) (n ∙ c.cells-cells.ensures.count);
    }
