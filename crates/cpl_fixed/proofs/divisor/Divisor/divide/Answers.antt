use Rattle.std.proofs.Common.{◌≡◌, ◌∙◌, sym, ap, ℕ, ◌*◌, ◌/◌, ◌^◌, arith}
use Rattle.cpl_fixed.proofs.Reciprocals.{upper_most, upper_is, upper_next}
use Rattle.cpl_fixed.proofs.divisor.Divisor.divide.Goals as goal

upper : (b v n n' : ℕ) → n' ≡ n → v * n / b ≡ v * n' / b
upper b v n n' e = ap (λ m. v * m / b) (sym e)

pub overflow_sub-n : goal.overflow_sub-n
overflow_sub-n c =
    upper_most (2 ^ 64) c.self.inside.divisor c.args.n c.from.result _ c.self.invariant.0 (omega arith) (omega arith)
    (c.self.invariant.1 ∙ sym c.from.ensures)
    (upper (2 ^ 64) c.from.result c.args.n c.from-2.result c.from-2.ensures)

pub returns-then-n-quotient : goal.returns-then-n-quotient
returns-then-n-quotient c =
    upper_is (2 ^ 64) c.self.inside.divisor c.args.n c.from.result _ c.self.invariant.0 (omega arith) (omega arith)
    (c.self.invariant.1 ∙ sym c.from.ensures)
    (upper (2 ^ 64) c.from.result c.args.n c.from-2.result c.from-2.ensures)
    c.if-n-quotient.true
    ∙ ap (λ d. c.args.n / d) c.self.view_is

pub returns-else-n-quotient : goal.returns-else-n-quotient
returns-else-n-quotient c =
    upper_next (2 ^ 64) c.self.inside.divisor c.args.n c.from.result _ c.self.invariant.0 (omega arith) (omega arith)
    (c.self.invariant.1 ∙ sym c.from.ensures)
    (upper (2 ^ 64) c.from.result c.args.n c.from-2.result c.from-2.ensures)
    c.if-n-quotient.false
    ∙ ap (λ d. c.args.n / d) c.self.view_is
