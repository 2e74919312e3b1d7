use Rattle.std.proofs.Common.{◌∙◌, sym, ap, ◌++◌, ◌-◌, ◌∷◌, [], arith, append_assoc}
use Rattle.std.specs.List.{range_with_len}
use Rattle.cpl_combine.proofs.Steps.{run_more}
use Rattle.cpl_combine.proofs.places.push_run.Goals as goal

pub loop-n-preserved : goal.loop-n-preserved
loop-n-preserved c =
    let from = c.args.from in
    let n = c.loop-n.n in
    c.in_ok-push.ensures.items
    ∙ ap (λ t. t ++ n ∷ []) c.loop-n.invariant
    ∙ append_assoc c.args.out.now.items (range_with_len from (n - from)) (n ∷ [])
    ∙ ap (λ t. c.args.out.now.items ++ t) (sym (run_more from n (omega arith)))
