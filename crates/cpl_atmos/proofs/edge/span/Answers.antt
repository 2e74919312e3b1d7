use Rattle.std.proofs.Common.{◌≡◌, sym, ap, subst, ℕ, ◌+◌, ◌*◌, arith, pos}
use Rattle.std.proofs.lemmas.Int.{ints}
use Rattle.std.proofs.lemmas.Nat.{mul-add-lt}
use Rattle.cpl_atmos.specs.Sweeps.{Computes, next_at}
use Rattle.cpl_field.specs.Sweeps.{IsInSpan}
use Rattle.cpl_atmos.proofs.Divisors.{wide, kept_by}
use Rattle.cpl_field.proofs.Swept.{computes_next}
use Rattle.cpl_atmos.proofs.edge.span.Goals as goal

pub bounds-values-first : goal.bounds-values-first
bounds-values-first c =
    let has = kept_by _ _ _ c.args.areas.now _ _ c.areas.invariant c.areas.view_is in
    let fits = mul-add-lt c.args.j c.args.areas.now.nx c.loop-i.i c.args.areas.now.ny (omega arith) (omega arith) in
    let row : c.args.j * c.areas.inside.nx ≡ c.args.j * c.args.areas.now.nx = ap (λ m. c.args.j * m) (sym has.columns) in
    let count = c.loop-i.invariant.count in
    omega arith

pub loop-i-preserved : goal.loop-i-preserved
loop-i-preserved c =
    let has = kept_by _ _ _ c.args.areas.now _ _ c.areas.invariant c.areas.view_is in
    computes_next (pos 0) c.args.areas.now (next_at c.args.areas.now c.args.x.now) c.args.from c.loop-i.i c.args.j c.args.values.now c.loop-i.values c.loop-i.invariant c.requires.values (omega arith) (omega arith) (omega arith) (wide c.next_at.result) (c.args.j * c.areas.inside.nx + c.loop-i.i)
    (ap (λ m. c.args.j * m + c.loop-i.i) (sym has.columns)) (omega (arith, ints))

pub returns : goal.returns
returns c =
    let to : c.loop-i.i ≡ c.args.to = omega arith in
    let P : ℕ → Type 0 = λ i. Computes c.args.areas.now c.args.x.now (IsInSpan c.args.from i c.args.j) c.args.values.now c.loop-i.values in
    subst P to c.loop-i.invariant
