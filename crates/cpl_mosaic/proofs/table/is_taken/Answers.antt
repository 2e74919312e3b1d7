use Rattle.std.proofs.Common.{◌≡◌, sym, ◌∙◌, ap, arith, ℕ, get_or, None, true, false}
use Rattle.std.specs.List.{list_any}
use Rattle.std.specs.Option.{is_some}
use Rattle.std.proofs.lemmas.Bool.{or_from}
use Rattle.std.proofs.lemmas.List.{take_all}
use Rattle.std.proofs.lemmas.List.Folds.{list_any_at, list_any_more}
use Rattle.cpl_mosaic.specs.Contacts.{joins_of}
use Rattle.cpl_mosaic.specs.Table.{is_taken}
use Rattle.cpl_mosaic.proofs.Spans.{count_joins}
use Rattle.cpl_mosaic.proofs.table.is_taken.Goals as goal

pub returns-then-is_some : goal.returns-then-is_some
returns-then-is_some c =
    let count = count_joins c.args.tiles.now c.args.contact in
    let is : is_taken c.args.tiles.now c.args.table.now c.join_at.result ≡ true = ap (λ (k : ℕ). is_some (get_or c.args.table.now k None)) (sym c.place.ensures.place) ∙ sym c.is_some.ensures ∙ c.if-is_some.true in
    sym (list_any_at (is_taken c.args.tiles.now c.args.table.now) (joins_of c.args.tiles.now c.args.contact) c.loop-m.m c.join_at.result (omega arith) (ap (is_taken c.args.tiles.now c.args.table.now) c.join_at.ensures.join ∙ is))

pub loop-m-preserved : goal.loop-m-preserved
loop-m-preserved c =
    let count = count_joins c.args.tiles.now c.args.contact in
    let is : is_taken c.args.tiles.now c.args.table.now c.join_at.result ≡ false = ap (λ (k : ℕ). is_some (get_or c.args.table.now k None)) (sym c.place.ensures.place) ∙ sym c.is_some.ensures ∙ c.if-is_some.false in
    list_any_more (is_taken c.args.tiles.now c.args.table.now) (joins_of c.args.tiles.now c.args.contact) c.loop-m.m c.join_at.result (omega arith)
    ∙ or_from _ _ c.loop-m.invariant (ap (is_taken c.args.tiles.now c.args.table.now) c.join_at.ensures.join ∙ is)

pub returns : goal.returns
returns c =
    let count = count_joins c.args.tiles.now c.args.contact in
    sym (ap (list_any (is_taken c.args.tiles.now c.args.table.now)) (sym (take_all c.loop-m.m (joins_of c.args.tiles.now c.args.contact) (omega arith))) ∙ c.loop-m.invariant)
