use Rattle.std.proofs.Common.{sym, ◌∙◌, ap, ℕ, arith, List, [], ◌∷◌, ◌++◌, map}
use Rattle.std.specs.List.{range_with_len}
use Rattle.std.proofs.lemmas.List.FromFn.{map-range_with_len_more}
use Rattle.cpl_mosaic.specs.Cells.{cell_of}
use Rattle.cpl_xgrid.specs.Rules.{tiles_of}
use Rattle.cpl_xput.specs.Exchanges.{elements_of}
use Rattle.cpl_xput.proofs.elements.elements_of.Goals as goal

pub loop-cell-preserved : goal.loop-cell-preserved
loop-cell-preserved c =
    let has = λ (n : ℕ). elements_of c.args.grid.now (cell_of (tiles_of c.args.grid.now.air) n) in
    c.in_ok-push.ensures.items
    ∙ ap (λ (l : List ℕ). l ++ c.elements_at.result ∷ []) c.loop-cell.invariant
    ∙ ap (λ (x : ℕ). map has (range_with_len 0 c.loop-cell.cell) ++ x ∷ []) c.elements_at.ensures
    ∙ sym (map-range_with_len_more has 0 c.loop-cell.cell c.loop-cell.cell (omega arith))
