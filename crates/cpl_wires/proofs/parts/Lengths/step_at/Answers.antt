use Rattle.std.proofs.Common.{◌≡◌, ◌-◌, ◌*◌, ◌≤◌, ℕ, false, ap, arith, inl, inr}
use Rattle.std.specs.Prelude.{◌/◌}
use Rattle.std.proofs.lemmas.Bool.{cases_eq}
use Rattle.cpl_wires.specs.Lengths.{step_size}
use Rattle.cpl_wires.proofs.Sized.{size_some, times_below, rest_below, place_is, later_size}
use Rattle.cpl_wires.proofs.parts.Lengths.step_at.Goals as goal

pub returns-clause-place : goal.returns-clause-place
returns-clause-place c =
    let names = c.args.names.now in
    let lengths = c.args.self.now in
    let past = c.args.m - c.step_size-first.result in
    let step = c.min-step.result in
    let size = c.step_size-size.result in
    let some = size_some names lengths false false c.requires.names c.requires.short in
    let size_is : size ≡ step_size names lengths false false = c.step_size-size.ensures.size in
    let first_is = c.step_size-first.ensures.size in
    let low : step ≤ past / size = omega arith in
    let times = times_below past size step (omega arith) low in
    let same : step * size ≡ step * step_size names lengths false false = ap (λ (n : ℕ). step * n) size_is in
    let place = place_is names lengths c.args.m past step (omega arith) (omega arith) in omega arith

pub returns-clause-there : goal.returns-clause-there
returns-clause-there c =
    let names = c.args.names.now in
    let lengths = c.args.self.now in
    let past = c.args.m - c.step_size-first.result in
    let step = c.min-step.result in
    let size = c.step_size-size.result in
    let some = size_some names lengths false false c.requires.names c.requires.short in
    let size_is : size ≡ step_size names lengths false false = c.step_size-size.ensures.size in
    let later = later_size names lengths step in
    elim (cases_eq step (past / size)) [
      | inl is ↦ let rest = rest_below past size step (omega arith) is in inl (omega arith)
      | inr other ↦ inr (omega arith)
    ]
