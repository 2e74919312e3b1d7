use Rattle.std.proofs.Common.{sym, ◌∙◌, ap, ℕ, arith, List, [], ◌∷◌, ◌++◌, map}
use Rattle.std.specs.List.{range_with_len}
use Rattle.std.proofs.lemmas.List.FromFn.{map-range_with_len_more}
use Rattle.cpl_mosaic.specs.declared.parts.CellId.{CellId}
use Rattle.cpl_mosaic.specs.Cells.{cell_of}
use Rattle.cpl_wires.specs.Tables.{Pair, same_pair}
use Rattle.cpl_wires.proofs.pairs.cell_pairs.Goals as goal

pub loop-n-preserved : goal.loop-n-preserved
loop-n-preserved c =
    let pair = λ (n : ℕ). same_pair (cell_of c.args.mosaic.now.tiles n) in
    c.in_ok-push.ensures.items
    ∙ ap (λ (l : List Pair). l ++ same_pair c.cell-cell.result ∷ []) c.loop-n.invariant
    ∙ ap (λ (cell : CellId). map pair (range_with_len 0 c.loop-n.n) ++ same_pair cell ∷ []) c.cell-cell.ensures
    ∙ sym (map-range_with_len_more pair 0 c.loop-n.n c.loop-n.n (omega arith))
