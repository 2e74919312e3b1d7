use Rattle.std.proofs.Common.{◌∙◌, sym, ap, arith, List, [], ◌∷◌, ◌++◌, map}
use Rattle.std.specs.List.{range_with_len}
use Rattle.std.proofs.lemmas.List.FromFn.{map-range_with_len_more}
use Rattle.cpl_wires.specs.declared.parts.Lengths.{Lengths}
use Rattle.cpl_wires.specs.Lengths.{lengths_of}
use Rattle.cpl_wires.proofs.exchanges.all_lengths.Goals as goal

pub loop-piece-preserved : goal.loop-piece-preserved
loop-piece-preserved c =
    let edges = c.args.edges.now in
    let n = c.loop-piece.piece in
    c.in_ok-push.ensures.items
    ∙ ap (λ (l : List Lengths). l ++ c.lengths_of.result ∷ []) c.loop-piece.invariant
    ∙ ap (λ (x : Lengths). map (lengths_of edges) (range_with_len 0 n) ++ x ∷ []) c.lengths_of.ensures.lengths
    ∙ sym (map-range_with_len_more (lengths_of edges) 0 n n (omega arith))
