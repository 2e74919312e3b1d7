-- Flows as natural numbers: what a cell gives, less what it takes.
use Rattle.std.proofs.Common.{◌≡◌, ◌∙◌, sym, ap, ℕ, suc, ◌+◌, ◌-◌, ◌*◌, ◌/◌, ◌<◌, ◌≤◌, arith, inl, inr}
use Rattle.std.proofs.Math.Nat.{zero-div, mul-div-le, mul-le-mul_left, le_of_mul-le-mul_left, mul-div-mul_right}
use Rattle.std.specs.Prelude.{ℤ, pos, negsuc, ◌-ℤ◌, ◌*ℤ◌, ◌≤ℤ◌, ◌<ℤ◌, int_div}
use Rattle.std.proofs.lemmas.Int.{ints}
use Rattle.std.proofs.lemmas.Bool.{cases_lt}
use Rattle.cpl_fixed.specs.Division.{trunc}
use Rattle.cpl_fixed.specs.Flows.{flow}
use Rattle.cpl_fixed.specs.Flows.{gives}

pub no_more : (x b s q : ℕ) → 0 < s → b ≤ s → 8 * s * q ≤ x * b → 8 * q ≤ x
no_more x b s q some le h =
    let scaled : s * (8 * q) ≤ s * x = omega (arith, h, mul-le-mul_left x le) in
    le_of_mul-le-mul_left scaled some

none_of : (k d : ℕ) → k ≡ 0 → k / d ≡ 0
none_of k d e = ap (λ n. n / d) e ∙ zero-div d

difference : (m n d : ℕ) → int_div (pos m -ℤ pos n) (pos d) ≡ pos ((m - n) / d) -ℤ pos ((n - m) / d)
difference m n d = elim (cases_lt m n) [
  | inl lt ↦
      let e : pos m -ℤ pos n ≡ negsuc (n - m - 1) = omega (arith, ints) in
      let s : suc (n - m - 1) ≡ n - m = omega arith in
      let z : (m - n) / d ≡ 0 = none_of (m - n) d (omega arith) in
      rw (e, s) (omega (arith, ints, z))
  | inr ge ↦
      let e : pos m -ℤ pos n ≡ pos (m - n) = omega (arith, ints) in
      let z : (n - m) / d ≡ 0 = none_of (n - m) d (omega arith) in
      rw e (omega (arith, ints, z))
]

-- a flow is what the first gives less what the second gives
pub flow_is : (x a y b : ℕ) → flow (pos x) (pos a) (pos y) (pos b) ≡ pos (gives x a y b) -ℤ pos (gives y b x a)
flow_is x a y b =
    let swapped : 8 * (b + a) ≡ 8 * (a + b) = omega arith in
    difference (x * b) (y * a) (8 * (a + b)) ∙ ap (λ d. pos ((x * b - y * a) / (8 * (a + b))) -ℤ pos ((y * a - x * b) / d)) (sym swapped)

-- only one of the two gives
pub flow_given : (x a y b : ℕ) → y * a ≤ x * b → flow (pos x) (pos a) (pos y) (pos b) ≡ pos (gives x a y b)
flow_given x a y b le =
    let none : gives y b x a ≡ 0 = none_of (y * a - x * b) (8 * (b + a)) (omega arith) in
    let e = flow_is x a y b in
    omega (arith, ints, e, none)

pub flow_taken : (x a y b : ℕ) → x * b ≤ y * a → flow (pos x) (pos a) (pos y) (pos b) ≡ pos 0 -ℤ pos (gives y b x a)
flow_taken x a y b le =
    let none : gives x a y b ≡ 0 = none_of (x * b - y * a) (8 * (a + b)) (omega arith) in
    let e = flow_is x a y b in
    omega (arith, ints, e, none)

-- a cell gives at most an eighth of what it has
pub gives_most : (x a y b : ℕ) → 0 < a + b → 8 * gives x a y b ≤ x
gives_most x a y b some =
    let d : 8 * (a + b) * gives x a y b ≤ x * b - y * a = mul-div-le (x * b - y * a) (8 * (a + b)) in
    no_more x b (a + b) (gives x a y b) some (omega arith) (omega arith)

-- the same on signed numbers, none of which is negative
pub flow_most : (x a y b : ℤ) → pos 0 ≤ℤ x → pos 0 <ℤ a → pos 0 ≤ℤ y → pos 0 <ℤ b → (pos 8 *ℤ flow x a y b) ≤ℤ x
flow_most (pos x) (pos a) (pos y) (pos b) hx ha hy hb =
    let e = flow_is x a y b in
    let most = gives_most x a y b (omega (arith, ints)) in
    omega (arith, ints)
flow_most (negsuc x) a y b hx ha hy hb = absurd (omega (arith, ints))
flow_most x (negsuc a) y b hx ha hy hb = absurd (omega (arith, ints))
flow_most x a (negsuc y) b hx ha hy hb = absurd (omega (arith, ints))
flow_most x a y (negsuc b) hx ha hy hb = absurd (omega (arith, ints))

pub flow_least : (x a y b : ℤ) → pos 0 ≤ℤ x → pos 0 <ℤ a → pos 0 ≤ℤ y → pos 0 <ℤ b → (pos 0 -ℤ y) ≤ℤ (pos 8 *ℤ flow x a y b)
flow_least (pos x) (pos a) (pos y) (pos b) hx ha hy hb =
    let e = flow_is x a y b in
    let most = gives_most y b x a (omega (arith, ints)) in
    omega (arith, ints)
flow_least (negsuc x) a y b hx ha hy hb = absurd (omega (arith, ints))
flow_least x (negsuc a) y b hx ha hy hb = absurd (omega (arith, ints))
flow_least x a (negsuc y) b hx ha hy hb = absurd (omega (arith, ints))
flow_least x a y (negsuc b) hx ha hy hb = absurd (omega (arith, ints))

-- what flows out of one cell flows into the other
pub flow_turned : (x a y b : ℤ) → pos 0 ≤ℤ x → pos 0 ≤ℤ a → pos 0 ≤ℤ y → pos 0 ≤ℤ b → flow x a y b ≡ pos 0 -ℤ flow y b x a
flow_turned (pos x) (pos a) (pos y) (pos b) hx ha hy hb =
    let e = flow_is x a y b in
    let f = flow_is y b x a in
    omega (arith, ints)
flow_turned (negsuc x) a y b hx ha hy hb = absurd (omega (arith, ints))
flow_turned x (negsuc a) y b hx ha hy hb = absurd (omega (arith, ints))
flow_turned x a (negsuc y) b hx ha hy hb = absurd (omega (arith, ints))
flow_turned x a y (negsuc b) hx ha hy hb = absurd (omega (arith, ints))

-- nothing flows between a cell and itself
pub flow_self : (x a : ℤ) → pos 0 ≤ℤ x → pos 0 ≤ℤ a → flow x a x a ≡ pos 0
flow_self x a hx ha =
    let e = flow_turned x a x a hx ha hx ha in
    omega (arith, ints)

sum_less : (d y a : ℕ) → d * a ≡ (d + y) * a - y * a
sum_less d y a = omega arith

sub-mul : (x y a : ℕ) → (x - y) * a ≡ x * a - y * a
sub-mul x y a = elim (cases_lt x y) [
  | inl lt ↦
      let none : x - y ≡ 0 = omega arith in
      let less : a * x ≤ a * y = mul-le-mul_left a (omega arith) in
      ap (λ d. d * a) none ∙ omega (arith, less)
  | inr ge ↦
      let whole : x - y + y ≡ x = omega arith in
      sum_less (x - y) y a ∙ ap (λ n. n * a - y * a) whole
]

gives_even : (x a y : ℕ) → 0 < a → gives x a y a ≡ (x - y) / 16
gives_even x a y some =
    let over : 8 * (a + a) ≡ 16 * a = omega arith in
    ap (λ n. n / (8 * (a + a))) (sym (sub-mul x y a)) ∙ ap (λ d. (x - y) * a / d) over ∙ mul-div-mul_right (x - y) 16 some

-- equal areas cancel out
pub flow_even : (x a y : ℤ) → pos 0 ≤ℤ x → pos 0 <ℤ a → pos 0 ≤ℤ y → flow x a y a ≡ trunc (x -ℤ y) (pos 16)
flow_even (pos x) (pos a) (pos y) hx ha hy =
    let some : 0 < a = omega (arith, ints) in
    flow_is x a y a ∙ (λ i. pos (gives_even x a y some i) -ℤ pos (gives_even y a x some i)) ∙ sym (difference x y 16)
flow_even (negsuc x) a y hx ha hy = absurd (omega (arith, ints))
flow_even x (negsuc a) y hx ha hy = absurd (omega (arith, ints))
flow_even x a (negsuc y) hx ha hy = absurd (omega (arith, ints))
