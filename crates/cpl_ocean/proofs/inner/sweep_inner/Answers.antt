use Rattle.std.proofs.Common.{sym, subst, ℕ, ◌-◌, arith}
use Rattle.cpl_field.specs.Sweeps.{IsInSpan}
use Rattle.cpl_field.proofs.Swept.{inner_all, inner_rows}
use Rattle.cpl_transport.specs.Salts.{nothing}
use Rattle.cpl_ocean.specs.Sweeps.{Computes, left_in}
use Rattle.cpl_ocean.proofs.inner.sweep_inner.Goals as goal

pub loop-j-preserved : goal.loop-j-preserved
loop-j-preserved c =
    let basin = c.args.basin.now in
    let next = left_in basin c.args.slope c.args.fields.now in
    let rows = c.requires.from.columns.rows in
    let row = subst (λ (nx : ℕ). Computes basin.area next (IsInSpan 2 (nx - 2) c.loop-j.j) c.loop-j.left c.inner_row.new.left) (sym c.requires.from.columns.columns) c.inner_row.ensures.left in
    record {
      souths = c.inner_row.ensures.souths;
      left = inner_rows nothing basin.area next 2 c.loop-j.j c.args.left.now c.loop-j.left c.inner_row.new.left (omega arith) (omega arith) c.loop-j.invariant.left row;
    }

pub returns : goal.returns
returns c =
    let basin = c.args.basin.now in
    let rows = c.requires.from.columns.rows in
    inner_all nothing basin.area (left_in basin c.args.slope c.args.fields.now) 2 c.loop-j.j c.args.left.now c.loop-j.left (omega arith) c.loop-j.invariant.left
