-- Columns whose layers give each other parts of what they have.
use Rattle.std.proofs.Common.{◌≡◌, ◌∙◌, refl, ap, arith, ℕ, zero, suc, ◌+◌, ◌*◌, ◌/◌, ◌^◌, ◌<◌, ◌≤◌, inl, inr}
use Rattle.std.specs.Prelude.{ℤ, pos, negsuc, ◌-ℤ◌, ◌*ℤ◌, ◌≤ℤ◌}
use Rattle.std.proofs.Math.Nat.{mul-div-le, mul-le-mul_left}
use Rattle.std.proofs.Math.Pow.{pow_mono}
use Rattle.std.proofs.lemmas.Bool.{cases_lt}
use Rattle.std.proofs.lemmas.Bool.Decides.{nat_tests}
use Rattle.std.proofs.lemmas.Int.{ints}
use Rattle.cpl_transport.specs.Mixing.{part, exchanged, passed, mixed, sum_of}

-- a part is at most a quarter
pub quarter : (mix n : ℕ) → 2 ≤ mix → 4 * (n / 2 ^ mix) ≤ n
quarter mix n le =
    let whole : 2 ^ mix * (n / 2 ^ mix) ≤ n = mul-div-le n (2 ^ mix) in
    let four : 4 ≤ 2 ^ mix = pow_mono le in
    let less = mul-le-mul_left (n / 2 ^ mix) four in
    omega (arith, whole, less)

pub part_quarter : (mix : ℕ) (x : ℤ) → 2 ≤ mix → pos 0 ≤ℤ x → (pos 0 ≤ℤ part mix x) × ((pos 4 *ℤ part mix x) ≤ℤ x)
part_quarter mix (pos n) le h = let q = quarter mix n le in (omega (arith, ints), omega (arith, ints, q))
part_quarter mix (negsuc n) le h = absurd (omega (arith, ints))

module _ (mix layers : ℕ) (column : ℕ → ℤ) where
  passed_on : (n : ℕ) → n + 1 < layers → passed mix layers column n ≡ exchanged mix (column n) (column (n + 1))
  passed_on n l = grind (arith, nat_tests)

  passed_none : (n : ℕ) → layers ≤ n + 1 → passed mix layers column n ≡ pos 0
  passed_none n l = grind (arith, nat_tests)

  -- the first layers have given what passed down out of them
  sum_mixed : (n : ℕ) → sum_of (suc n) (mixed mix layers column) ≡ sum_of (suc n) column -ℤ passed mix layers column n
  sum_mixed zero = omega (arith, ints)
  sum_mixed (suc n) = let e = sum_mixed n in omega (arith, ints, e)

  module _ (le : 2 ≤ mix) (least : (k : ℕ) → k < layers → pos 0 ≤ℤ column k) where
    -- what passes down is at most a quarter, and what comes up too
    passed_most : (n : ℕ) → n < layers → (pos 4 *ℤ passed mix layers column n) ≤ℤ column n
    passed_most n l = elim (cases_lt (n + 1) layers) [
      | inl more ↦
          let e = passed_on n more in
          let here = part_quarter mix (column n) le (least n l) in
          let below = part_quarter mix (column (n + 1)) le (least (n + 1) more) in
          omega (arith, ints, e, here.1, below.0)
      | inr last ↦
          let e = passed_none n last in
          let h = least n l in
          omega (arith, ints, e, h)
    ]

    passed_least : (n : ℕ) → suc n < layers → (pos 0 -ℤ column (suc n)) ≤ℤ (pos 4 *ℤ passed mix layers column n)
    passed_least n l =
        let same : n + 1 ≡ suc n = omega arith in
        let e = passed_on n (omega arith) ∙ ap (λ k. exchanged mix (column n) (column k)) same in
        let here = part_quarter mix (column n) le (least n (omega arith)) in
        let below = part_quarter mix (column (suc n)) le (least (suc n) l) in
        omega (arith, ints, e, here.0, below.1)

    pub mixed_least : (n : ℕ) → n < layers → pos 0 ≤ℤ mixed mix layers column n
    mixed_least zero l =
        let h = least zero l in
        let most = passed_most zero l in
        omega (arith, ints, h, most)
    mixed_least (suc n) l =
        let h = least (suc n) l in
        let most = passed_most (suc n) l in
        let low = passed_least n l in
        omega (arith, ints, h, most, low)

pub sum_same : (mix layers : ℕ) (column : ℕ → ℤ) → sum_of layers (mixed mix layers column) ≡ sum_of layers column
sum_same mix zero column = refl
sum_same mix (suc n) column =
    let e = sum_mixed mix (suc n) column n in
    let none = passed_none mix (suc n) column n (omega arith) in
    omega (arith, ints, e, none)
