use Rattle.std.proofs.Common.{◌≡◌, ◌∙◌, sym, ap, subst, ℕ, ◌+◌, ◌*◌, arith}
use Rattle.std.proofs.lemmas.Nat.{mul-add-lt}
use Rattle.cpl_field.specs.Sweeps.{IsInSpan}
use Rattle.cpl_transport.specs.Salts.{nothing}
use Rattle.cpl_ocean.specs.Sweeps.{Computes, left_in}
use Rattle.cpl_field.proofs.Swept.{computes_next}
use Rattle.cpl_ocean.proofs.sweep.span.Goals as goal

pub bounds-left-first : goal.bounds-left-first
bounds-left-first c =
    let fits = mul-add-lt c.args.j c.args.basin.now.nx c.loop-i.i c.args.basin.now.ny (omega arith) (omega arith) in
    let count = c.loop-i.invariant.count in
    omega arith

pub loop-i-preserved : goal.loop-i-preserved
loop-i-preserved c =
    let basin = c.args.basin.now in
    let is = c.requires.from.columns in
    let columns = is.columns in
    let rows = is.rows in
    computes_next nothing basin.area (left_in basin c.args.slope c.args.fields.now) c.args.from c.loop-i.i c.args.j c.args.left.now c.loop-i.left c.loop-i.invariant (c.requires.left ∙ (λ t. sym columns t * sym rows t)) (omega arith) (omega arith) (omega arith) c.transported.result (c.args.j * basin.nx + c.loop-i.i)
    (ap (λ m. c.args.j * m + c.loop-i.i) (sym columns)) c.transported.ensures

pub returns : goal.returns
returns c =
    let to : c.loop-i.i ≡ c.args.to = omega arith in
    let P : ℕ → Type 0 = λ i. Computes c.args.basin.now.area (left_in c.args.basin.now c.args.slope c.args.fields.now) (IsInSpan c.args.from i c.args.j) c.args.left.now c.loop-i.left in
    subst P to c.loop-i.invariant
