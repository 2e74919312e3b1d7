use Rattle.std.proofs.Common.{◌≡◌, sym, ◌∙◌, ap, arith, ℕ, get_or, List, Some, None}
use Rattle.std.proofs.lemmas.List.{drop_all}
use Rattle.cpl_mosaic.specs.Sides.{CellSide}
use Rattle.cpl_mosaic.specs.Contacts.{joins_of}
use Rattle.cpl_mosaic.specs.Table.{put, with_join, with_joins}
use Rattle.cpl_mosaic.proofs.Spans.{count_joins}
use Rattle.cpl_mosaic.proofs.Tables.{fit_more, fit_none}
use Rattle.cpl_mosaic.proofs.table.join.Goals as goal

pub returns-then-not-put-clause-refused : goal.returns-then-not-put-clause-refused
returns-then-not-put-clause-refused c =
    let count = count_joins c.args.tiles.now c.args.contact in
    let none : with_join c.args.tiles.now c.loop-m.table c.join_at.result ≡ None = ap (λ (k : ℕ). put c.loop-m.table k c.join_at.result.1 (get_or c.loop-m.table k None)) (sym c.place.ensures.place) ∙ c.if-not-put.ensures.refused in
    sym c.loop-m.invariant ∙ fit_none c.args.tiles.now (joins_of c.args.tiles.now c.args.contact) c.loop-m.m c.join_at.result c.loop-m.table (omega arith) c.join_at.ensures.join none

pub loop-m-preserved : goal.loop-m-preserved
loop-m-preserved c =
    let count = count_joins c.args.tiles.now c.args.contact in
    let some : with_join c.args.tiles.now c.loop-m.table c.join_at.result ≡ Some c.put.new.table = ap (λ (k : ℕ). put c.loop-m.table k c.join_at.result.1 (get_or c.loop-m.table k None)) (sym c.place.ensures.place) ∙ c.if-not-put.ensures.fits in
    sym (fit_more c.args.tiles.now (joins_of c.args.tiles.now c.args.contact) c.loop-m.m c.join_at.result c.loop-m.table c.put.new.table (omega arith) c.join_at.ensures.join some) ∙ c.loop-m.invariant

pub returns-clause-fits : goal.returns-clause-fits
returns-clause-fits c =
    let count = count_joins c.args.tiles.now c.args.contact in
    sym c.loop-m.invariant ∙ ap (λ (l : List (CellSide × CellSide)). with_joins c.args.tiles.now l c.loop-m.table) (drop_all c.loop-m.m (joins_of c.args.tiles.now c.args.contact) (omega arith))
