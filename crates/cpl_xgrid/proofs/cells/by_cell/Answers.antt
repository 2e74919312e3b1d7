use Rattle.std.proofs.Common.{◌≡◌, sym, ◌∙◌, ap, subst, ℕ, List, map}
use Rattle.std.proofs.lemmas.Result.{IfOk-weaker}
use Rattle.cpl_mosaic.specs.Cells.{number_of}
use Rattle.cpl_mosaic.specs.Contacts.{cells_of}
use Rattle.cpl_xgrid.specs.Groups.{AreKeys, by_key}
use Rattle.cpl_xgrid.specs.Indexes.{by_cell}
use Rattle.cpl_xgrid.proofs.CellNumbers.{by_key_is, keys_are}
use Rattle.cpl_xgrid.proofs.cells.by_cell.Goals as goal

pub by_key-requires-clause-keys : goal.by_key-requires-clause-keys
by_key-requires-clause-keys c =
    let keys = keys_are c.args.mosaic.now.tiles c.args.cells.now c.cells-count.ensures.numbers c.requires.cells in
    let counted = subst (λ (m : ℕ). AreKeys m (map (number_of c.args.mosaic.now.tiles) c.args.cells.now)) (sym c.cells-count.ensures.count) keys in
    subst (λ (l : List ℕ). AreKeys c.cells-count.result l) (sym (c.deref.ensures.value ∙ c.in_ok-numbers.ensures)) counted

pub returns : goal.returns
returns c =
    let tiles = c.args.mosaic.now.tiles in
    let same : by_key c.cells-count.result c.deref.result.now ≡ by_cell tiles c.args.cells.now =
    ap (λ (m : ℕ). by_key m c.deref.result.now) c.cells-count.ensures.count
    ∙ ap (by_key (cells_of tiles)) (c.deref.ensures.value ∙ c.in_ok-numbers.ensures)
    ∙ by_key_is tiles c.args.cells.now c.cells-count.ensures.numbers c.requires.cells in
    IfOk-weaker c.by_key.result (λ groups. groups ≡ by_key c.cells-count.result c.deref.result.now) (λ groups. groups ≡ by_cell tiles c.args.cells.now) (λ groups is. is ∙ same) c.by_key.ensures
