-- Sums that fit, by the values without their signs.
use Rattle.std.proofs.Common.{Bool, true, false, cond, eqb, ℕ, ◌+◌, ◌≤◌, arith, List, [], ◌∷◌, take, w64}
use Rattle.std.specs.Prelude.{ℤ, ◌+ℤ◌, unsigned_abs}
use Rattle.std.specs.List.{sum_by}
use Rattle.std.proofs.lemmas.Int.{ints, fits_signed_from_abs}
use Rattle.std.proofs.lemmas.List.Sums.{sum_by-cons, sum_by-take-le}
use Rattle.cpl_fixed.specs.Totals.{total_of}
use Rattle.cpl_fixed.specs.declared.limits.TheConstants.{MOST_TOTAL}
use Rattle.cpl_xput.specs.Sums.{values_at, SumsFit}

abs_add : (a b : ℤ) → unsigned_abs (a +ℤ b) ≤ unsigned_abs a + unsigned_abs b
abs_add a b = omega (arith, ints)

one_more : (b : Bool) (x : ℤ) (xs : List ℤ) (most : ℕ) → unsigned_abs (total_of xs) ≤ most → unsigned_abs (total_of (cond b (x ∷ xs) xs)) ≤ unsigned_abs x + most
one_more true x xs most within = let sum = abs_add x (total_of xs) in omega arith
one_more false x xs most within = omega arith

at_most : (at : ℕ) (places : List ℕ) (values : List ℤ) → unsigned_abs (total_of (values_at at places values)) ≤ sum_by unsigned_abs values
at_most at [] values = omega arith
at_most at (place ∷ places) [] = omega arith
at_most at (place ∷ places) (value ∷ values) =
    let rest = one_more (eqb place at) value (values_at at places values) (sum_by unsigned_abs values) (at_most at places values) in
    let whole = sum_by-cons unsigned_abs value values in
    omega arith

pub sums_fit : (places : List ℕ) (values : List ℤ) → sum_by unsigned_abs values ≤ MOST_TOTAL → SumsFit places values
sums_fit places values within n at =
    let sum = at_most at (take n places) (take n values) in
    let part = sum_by-take-le unsigned_abs values n in
    fits_signed_from_abs w64 _ (omega arith)
