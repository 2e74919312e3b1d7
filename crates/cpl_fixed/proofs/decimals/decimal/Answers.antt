use Rattle.std.proofs.Common.{◌≡◌, ℕ, suc, ◌+◌, ◌-◌, ◌*◌, ◌≤◌, ◌<◌, List, [], ◌∷◌, None, arith, drop, length, sym, ◌∙◌, ap, drop-cons, get_or}
use Rattle.std.proofs.lemmas.Bool.Decides.{nat_tests}
use Rattle.cpl_fixed.specs.Decimals.{value_from, value_of, at_most}
use Rattle.cpl_fixed.proofs.decimals.decimal.Goals as goal

-- further digits make a number no less
grows : (n : ℕ) (digits : List ℕ) → n ≤ value_from n digits
grows n [] = omega arith
grows n (digit ∷ digits) = omega (arith, grows (10 * n + (digit - 48)) digits)

-- digits whose front is above a bound with the digit after it stand for a number above it
refused : (digits : List ℕ) (most n i : ℕ) → i < length digits → value_from n (drop i digits) ≡ value_of digits → most < 10 * n + (get_or digits i 0 - 48) → None ≡ at_most most (value_of digits)
refused digits most n i within same above =
    let next : value_from (10 * n + (get_or digits i 0 - 48)) (drop (suc i) digits) ≡ value_of digits = ap (value_from n) (sym (drop-cons digits i 0 within)) ∙ same in
    let large : most < value_of digits = omega (arith, grows (10 * n + (get_or digits i 0 - 48)) (drop (suc i) digits), next) in
    grind (arith, nat_tests)

pub returns-in_err-checked_mul : goal.returns-in_err-checked_mul
returns-in_err-checked_mul c =
    c.from_residual.ensures
    ∙ refused c.args.digits.now c.args.most c.loop-digit.value c.loop-digit.digit-index c.loop-digit-test.true c.loop-digit.invariant.same (omega (arith, c.in_err-checked_mul.ensures))

pub returns-in_err-value : goal.returns-in_err-value
returns-in_err-value c =
    c.from_residual-in_err-value.ensures
    ∙ refused c.args.digits.now c.args.most c.loop-digit.value c.loop-digit.digit-index c.loop-digit-test.true c.loop-digit.invariant.same (omega (arith, c.in_err-value.ensures, c.in_ok-checked_mul.ensures, c.saturating_sub.ensures, c.from.ensures))

pub returns-then-value-most : goal.returns-then-value-most
returns-then-value-most c = refused c.args.digits.now c.args.most c.loop-digit.value c.loop-digit.digit-index c.loop-digit-test.true c.loop-digit.invariant.same (omega (arith, c.in_ok-value.ensures, c.in_ok-checked_mul.ensures, c.saturating_sub.ensures, c.from.ensures))
