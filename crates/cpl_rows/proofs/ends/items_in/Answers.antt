use Rattle.std.proofs.Common.{◌≡◌, ◌∙◌, sym, ap, ◌<◌, length, arith, true, false, eqb, append-nil}
use Rattle.std.proofs.lemmas.Bool.{eq-eqb, ne_eqb}
use Rattle.cpl_layout.specs.Pieces.{owner_of}
use Rattle.cpl_mosaic.specs.declared.parts.CellId.{CellId}
use Rattle.cpl_rows.specs.Ends.{cells_by, cell_by, no_cell}
use Rattle.cpl_rows.proofs.Listed.{numbers_push}
use Rattle.cpl_rows.proofs.Ended.{cells_count}
use Rattle.cpl_rows.proofs.ends.items_in.Goals as goal
use Rattle.cpl_rows.proofs.ends.items_in.Goals.{then-owner-p+in_ok-push, else-owner-p}

pub loop-item-preserved : goal.loop-item-preserved
loop-item-preserved c =
    let grid = c.args.grid.now in
    let layout = c.args.layout.now in
    let cells = cells_by grid c.args.purpose c.args.end in
    let item = c.loop-item.item in
    let long = cells_count grid c.args.purpose c.args.end in
    let within = c.loop-item-test.true in
    let count = c.count_of-item-end.ensures.count in
    let below : item < length cells = omega arith in
    let own = λ (cell : CellId). eqb (owner_of layout cell) c.args.p in
    let owner : c.owner.result ≡ owner_of layout (cell_by grid c.args.purpose c.args.end item) = c.owner.ensures.owner ∙ ap (owner_of layout) c.cell_at.ensures in
    let was = c.loop-item.invariant in
    elim c.if-owner-p.branch [
      | then-owner-p+in_ok-push w ↦
          let yes : c.owner.result ≡ c.args.p = w.if-owner-p.true in
          numbers_push own item cells no_cell true c.loop-item.items.items c.if-owner-p.items.items below was (eq-eqb _ _ (sym owner ∙ yes)) (ap (λ v. v.items) w.items-is ∙ w.in_ok-push.ensures.items)
      | else-owner-p w ↦
          let no = w.if-owner-p.false in
          numbers_push own item cells no_cell false c.loop-item.items.items c.if-owner-p.items.items below was (ne_eqb _ _ (λ e. no (owner ∙ e))) (ap (λ v. v.items) w.items-is ∙ sym (append-nil c.loop-item.items.items))
    ]
