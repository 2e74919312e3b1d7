-- Totals of lists in which a number changes.
use Rattle.std.proofs.Common.{◌≡◌, ℕ, zero, suc, ◌<◌, arith, List, [], ◌∷◌, length}
use Rattle.std.specs.Prelude.{ℤ, pos, ◌+ℤ◌, ◌≤ℤ◌, All}
use Rattle.std.proofs.lemmas.Int.{ints}
use Rattle.std.proofs.lemmas.List.Elements.{All-tail, All-head}
use Rattle.cpl_fixed.specs.Totals.{total_of}
use Rattle.cpl_ice.specs.Cells.{IsAmount}
use Rattle.cpl_ice.specs.Slow.{added, at}

-- a total gains what one of its numbers gains
pub total_added : (xs : List ℤ) (n : ℕ) (x : ℤ) → n < length xs → total_of (added xs n x) ≡ total_of xs +ℤ x
total_added [] n x within = absurd (omega arith)
total_added (y ∷ ys) zero x within = omega (arith, ints)
total_added (y ∷ ys) (suc n) x within =
    let rest = total_added ys n x (omega arith) in
    omega (arith, ints, rest)

-- a total of amounts isn't negative
pub total_least : (xs : List ℤ) → All IsAmount xs → pos 0 ≤ℤ total_of xs
total_least [] each = omega (arith, ints)
total_least (x ∷ xs) each =
    let first = All-head IsAmount x xs each in
    let rest = total_least xs (All-tail IsAmount x xs each) in
    omega (arith, ints, first.0, rest)

-- no amount is above the total
pub at_most_total : (xs : List ℤ) (n : ℕ) → All IsAmount xs → at xs n ≤ℤ total_of xs
at_most_total [] n each = omega (arith, ints)
at_most_total (x ∷ xs) zero each =
    let rest = total_least xs (All-tail IsAmount x xs each) in
    omega (arith, ints, rest)
at_most_total (x ∷ xs) (suc n) each =
    let first = All-head IsAmount x xs each in
    let rest = at_most_total xs n (All-tail IsAmount x xs each) in
    omega (arith, ints, first.0, rest)
