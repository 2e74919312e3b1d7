use Rattle.std.proofs.Common.{sym, subst, ℕ, ◌+◌, ◌*◌}
use Rattle.cpl_ocean.specs.Mixed.{IsMixedBefore, Mixes}
use Rattle.cpl_ocean.proofs.Stored.{left_same, rows_more}
use Rattle.cpl_ocean.proofs.mixing.store_layer.Goals as goal

pub store_row-requires-clause-left : goal.store_row-requires-clause-left
store_row-requires-clause-left c i j on =
    let before = c.loop-j.invariant in
    left_same c.args.area.now c.args.mix c.args.layers.now c.loop-j.layers (j * c.args.area.now.nx + i) before.count before.left (c.requires.left i j on)

pub loop-j-preserved : goal.loop-j-preserved
loop-j-preserved c =
    let area = c.args.area.now in
    rows_more area c.args.mix c.args.l c.loop-j.j c.args.layers.now c.loop-j.layers c.store_row.new.layers c.loop-j.invariant
    (subst (λ (n : ℕ). Mixes area c.args.mix (IsMixedBefore c.args.l n c.loop-j.j) c.loop-j.layers c.store_row.new.layers) (sym c.requires.columns) c.store_row.ensures)
