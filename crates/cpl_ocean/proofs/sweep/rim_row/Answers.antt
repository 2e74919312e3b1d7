use Rattle.std.proofs.Common.{sym, subst, ℕ, ◌-◌, arith}
use Rattle.cpl_field.specs.Sweeps.{IsInSpan}
use Rattle.cpl_field.proofs.Swept.{rim_ends, rim_whole}
use Rattle.cpl_transport.specs.Salts.{nothing}
use Rattle.cpl_ocean.specs.Sweeps.{Computes, left_in}
use Rattle.cpl_ocean.proofs.sweep.rim_row.Goals as goal
use Rattle.cpl_ocean.proofs.sweep.rim_row.Goals.{then-nx-lt5-via-then-nx-lt5, then-nx-lt5-via-else-nx-lt5+then-j-lt2, then-nx-lt5-via-else-nx-lt5+else-j-lt2+then-j-basin}

pub returns-then-nx-lt5 : goal.returns-then-nx-lt5
returns-then-nx-lt5 c =
    let basin = c.args.basin.now in
    let columns = c.requires.from.columns.columns in
    let rows = c.requires.from.columns.rows in
    rim_whole nothing basin.area (left_in basin c.args.slope c.args.fields.now) 2 c.args.j c.args.left.now c.span.new.left
    (λ i is. elim c.then-nx-lt5.branch [
      | then-nx-lt5-via-then-nx-lt5 w ↦ let few = w.if-nx-lt5.true in absurd (omega (arith, is.west, is.east))
      | then-nx-lt5-via-else-nx-lt5+then-j-lt2 w ↦ let low = w.if-j-lt2.true in absurd (omega (arith, is.south))
      | then-nx-lt5-via-else-nx-lt5+else-j-lt2+then-j-basin w ↦ let high = w.if-j-basin.true in absurd (omega (arith, is.north))
    ])
    (subst (λ (nx : ℕ). Computes basin.area (left_in basin c.args.slope c.args.fields.now) (IsInSpan 0 nx c.args.j) c.args.left.now c.span.new.left) (sym columns) c.span.ensures)

pub returns : goal.returns
returns c =
    let basin = c.args.basin.now in
    let next = left_in basin c.args.slope c.args.fields.now in
    let rows = c.requires.from.columns.rows in
    rim_ends nothing basin.area next 2 c.args.j c.args.left.now c.span-2.new.left c.span-3.new.left (omega arith) (omega arith) c.span-2.ensures
    (subst (λ (nx : ℕ). Computes basin.area next (IsInSpan (nx - 2) nx c.args.j) c.span-2.new.left c.span-3.new.left) (sym c.requires.from.columns.columns) c.span-3.ensures)
