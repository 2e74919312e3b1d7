use Rattle.std.proofs.Common.{sym, subst, ℕ}
use Rattle.cpl_ocean.specs.Columns.{Fills, IsCellBefore, height_at}
use Rattle.cpl_ocean.proofs.Raised.{filled_row}
use Rattle.cpl_ocean.proofs.heights.raise_rows.Goals as goal

pub loop-j-preserved : goal.loop-j-preserved
loop-j-preserved c =
    let row = subst (λ (n : ℕ). Fills c.args.area.now (height_at c.args.area.now c.args.layers.now) (IsCellBefore n c.loop-j.j) c.loop-j.heights c.raise_row.new.heights) (sym c.requires.columns) c.raise_row.ensures in
    filled_row c.args.area.now (height_at c.args.area.now c.args.layers.now) c.loop-j.j c.args.heights.now c.loop-j.heights c.raise_row.new.heights c.loop-j.invariant row
