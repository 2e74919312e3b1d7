use Rattle.std.proofs.Common.{sym, subst, ℕ, arith}
use Rattle.cpl_field.specs.Spots.{number_at}
use Rattle.cpl_ocean.specs.Columns.{Fills, IsCellBefore}
use Rattle.cpl_ocean.proofs.Loaded.{loads_cells}
use Rattle.cpl_ocean.proofs.Raised.{filled_row, rows_all}
use Rattle.cpl_ocean.proofs.loads.load_cells.Goals as goal

pub loop-j-preserved : goal.loop-j-preserved
loop-j-preserved c =
    let from = c.args.from.now in
    let row = subst (λ (n : ℕ). Fills from (number_at from) (IsCellBefore n c.loop-j.j) c.loop-j.to c.load_row.new.to) (sym c.requires.columns) c.load_row.ensures in
    filled_row from (number_at from) c.loop-j.j c.args.to.now c.loop-j.to c.load_row.new.to c.loop-j.invariant row

pub returns : goal.returns
returns c =
    let from = c.args.from.now in
    let rows = c.requires.rows in
    let all = c.loop-j-test.false in
    loads_cells from c.args.to.now c.loop-j.to c.requires.shape (rows_all from (number_at from) c.loop-j.j c.args.to.now c.loop-j.to (omega arith) c.loop-j.invariant)
