use Rattle.std.proofs.Common.{◌≡◌, ◌∙◌, arith, ◌+◌, ◌*◌, ◌<◌, pos, ℕ, w64, to_z, of_z}
use Rattle.std.specs.Prelude.{Bool, false, nat_lt, ◌==◌, unsigned_abs, if◌then◌else◌}
use Rattle.std.proofs.lemmas.Int.{ints}
use Rattle.std.proofs.lemmas.Bool.Decides.{nat_tests}
use Rattle.std.proofs.lemmas.List.Elements.{All-from_recursion}
use Rattle.cpl_fixed.specs.Ranges.{IsFromℤ}
use Rattle.cpl_ice.specs.Slow.{at}
use Rattle.cpl_ice.proofs.cell.IceCell.is_thick.Goals as goal

with_part : (p : ℕ) (b : Bool) → 0 < p → b ≡ (if p == 0 then false else b)
with_part p b some = grind (arith, nat_tests)

pub amount_at-bound-requires-clause-amounts : goal.amount_at-bound-requires-clause-amounts
amount_at-bound-requires-clause-amounts c = λ k d within.
    let bound = All-from_recursion (IsFromℤ 1 1_048_576) c.args.rates.now.bounds c.requires.rates.bounds k d within in
    (omega (arith, ints, bound.0), omega (arith, ints, bound.1))

pub is_thicker-requires-clause-bound : goal.is_thicker-requires-clause-bound
is_thicker-requires-clause-bound c =
    let bound = All-from_recursion (IsFromℤ 1 1_048_576) c.args.rates.now.bounds c.requires.rates.bounds c.args.n (pos 0) (omega arith) in
    omega (arith, ints, bound.0, bound.1, c.amount_at-bound.ensures.value)

pub returns-then-part-gt0 : goal.returns-then-part-gt0
returns-then-part-gt0 c =
    let bound = c.amount_at-bound.ensures in
    let b : to_z w64 (of_z w64 c.amount_at-bound.result) ≡ c.amount_at-bound.result = omega (arith, ints, bound.amount.0, bound.amount.1) in
    let part = c.amount_at-part.ensures in
    let p : to_z w64 (of_z w64 c.amount_at-part.result) ≡ c.amount_at-part.result = omega (arith, ints, part.amount.0, part.amount.1) in
    let ice = c.amount_at-ice.ensures in
    let x : to_z w64 (of_z w64 c.amount_at-ice.result) ≡ c.amount_at-ice.result = omega (arith, ints, ice.amount.0, ice.amount.1) in
    let area : to_z w64 (of_z w64 c.args.self.now.area) ≡ c.args.self.now.area = omega (arith, ints) in
    let some : 0 < unsigned_abs (at c.args.self.now.parts (c.args.n + 1)) = omega (arith, ints, part.value, c.if-part-gt0.true) in
    c.is_thicker.ensures
    ∙ (λ i. nat_lt (unsigned_abs ((b ∙ bound.value) i) * unsigned_abs ((p ∙ part.value) i) * unsigned_abs (area i)) (unsigned_abs ((x ∙ ice.value) i) * 65_536))
    ∙ with_part _ _ some
