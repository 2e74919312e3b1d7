use Rattle.std.proofs.Common.{ℕ, List, [], ◌++◌, map, append-nil, ap, sym, ◌∙◌, subst}
use Rattle.csv.specs.Records.{fields_of}
use Rattle.cpl_stocks.specs.Lines.{line}
use Rattle.cpl_stocks.specs.Writers.{Wrote}
use Rattle.cpl_stocks.proofs.RowLines.{wrote_row}
use Rattle.cpl_stocks.proofs.table.table_text.Goals as goal

pub loop-row-init : goal.loop-row-init
loop-row-init g c =
    let wrote = c.in_ok-write_line.ensures [] c.in_ok-writer.ensures in
    let same = ap line c.in_ok-line.ensures.fields ∙ sym (append-nil (line (map (λ name. name.now) c.args.columns.now))) in
    subst (Wrote c.write_line.new.writer) same wrote

pub loop-row-preserved : goal.loop-row-preserved
loop-row-preserved g c =
    let fields = g.R.TableRow.fields in
    let made = c.in_ok-push_fields.ensures.added ∙ ap (λ (old : List (List ℕ)). old ++ fields c.row-item.result) c.clear.ensures.fields in
    wrote_row c.write_line-in-loop-row.new.writer fields c.args.rows.now c.loop-row.row-index c.row-item.result
    (line (map (λ name. name.now) c.args.columns.now)) (fields_of c.push_fields.new.line) c.loop-row-test.true c.row-item.is made
    (c.in_ok-write_line-2.ensures _ c.loop-row.invariant)
