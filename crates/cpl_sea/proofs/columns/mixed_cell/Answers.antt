use Rattle.std.proofs.Common.{◌≡◌, ◌∙◌, arith, ◌-◌}
use Rattle.cpl_transport.specs.Salts.{joined, without}
use Rattle.cpl_transport.proofs.Exchanges.{mixed_below}
use Rattle.cpl_sea.specs.Passes.{column_at}
use Rattle.cpl_sea.proofs.columns.mixed_cell.Goals as goal

pub returns-else-layer-eq0 : goal.returns-else-layer-eq0
returns-else-layer-eq0 c =
    let column = column_at c.args.count c.args.cells.now c.args.n in
    c.after_exchange.ensures
    ∙ (λ i. without (joined (column c.args.layer) (c.passed-from_above.ensures.value i)) (c.passed-down.ensures.value i))
    ∙ mixed_below c.args.mix c.args.layers column c.args.layer (c.args.layer - 1) (let some : c.args.layer ≡ 0 → ⊥ = c.if-layer-eq0.false in omega arith)
