-- Tests of numbers, and where they fail.
use Rattle.std.proofs.Common.{◌≡◌, Bool, true, false, refl, ℤ, arith}
use Rattle.std.specs.Prelude.{◌&&◌, ◌||◌, not, ◌≤ℤ◌}
use Rattle.std.specs.Int.Signed.{lt_z}
use Rattle.std.proofs.lemmas.Int.{ints}

-- `not a && b` fails
pub first_holds : (a b : Bool) → (not a && b) ≡ false → b ≡ true → a ≡ true
first_holds true b e is = refl
first_holds false true e is = absurd cc
first_holds false false e is = absurd cc

pub one_fails : (a b : Bool) → (b ≡ true → a ≡ true) → (not a && b) ≡ false
one_fails true b then = refl
one_fails false true then = absurd (let h = then refl in cc)
one_fails false false then = refl

-- `not a && not b` fails
pub second_holds : (a b : Bool) → (not a && not b) ≡ false → a ≡ false → b ≡ true
second_holds true b e is = absurd cc
second_holds false true e is = refl
second_holds false false e is = absurd cc

pub neither_fails : (a b : Bool) → (a ≡ false → b ≡ true) → (not a && not b) ≡ false
neither_fails true b then = refl
neither_fails false true then = refl
neither_fails false false then = absurd (let h = then refl in cc)

-- `a || b || c` fails
pub all_fail : (a b c : Bool) → (a || b || c) ≡ false → (a ≡ false) × (b ≡ false) × (c ≡ false)
all_fail true b c e = absurd cc
all_fail false true c e = absurd cc
all_fail false false c e = (refl, refl, e)

pub none_holds : (a b c : Bool) → a ≡ false → b ≡ false → c ≡ false → (a || b || c) ≡ false
none_holds a b c p q r = rw (p, q, r) refl

-- `a || b`
pub holds_left : (a b : Bool) → a ≡ true → (a || b) ≡ true
holds_left a b p = rw p refl

pub holds_right : (a b : Bool) → b ≡ true → (a || b) ≡ true
holds_right true b p = refl
holds_right false b p = p

-- an order that fails is the other one
pub not_less : (x y : ℤ) → lt_z x y ≡ false → y ≤ℤ x
not_less x y e = grind (arith, ints)

pub from_not_less : (x y : ℤ) → y ≤ℤ x → lt_z x y ≡ false
from_not_less x y le = grind (arith, ints)
