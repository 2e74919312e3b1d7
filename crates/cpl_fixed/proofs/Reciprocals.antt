-- The upper half of a product with a reciprocal is the quotient, or one below it.
use Rattle.std.proofs.Common.{◌≡◌, ap, ℕ, ◌+◌, ◌-◌, ◌*◌, ◌/◌, ◌<◌, ◌≤◌, arith}
use Rattle.std.proofs.Math.Nat.{mul-div-le, lt-mul-div-succ, mul-le-mul_left, le_of_mul-le-mul_left, lt_of_mul-lt-mul_left}
use Rattle.std.proofs.lemmas.Nat.{div-mul-add}

-- v is a reciprocal of d in b, rounded down, and q the upper part of v * n
module _ (b d v n q : ℕ) where
  not_above : 0 < b → v * d ≤ b → q * b ≤ v * n → q * d ≤ n
  not_above some reciprocal upper =
      let scaled : d * (q * b) ≤ d * (v * n) = mul-le-mul_left d upper in
      let whole : n * (v * d) ≤ n * b = mul-le-mul_left n reciprocal in
      let both : b * (q * d) ≤ b * n = omega arith in
      le_of_mul-le-mul_left both some

  one_short : 0 < d → b ≤ v * d + d → n < b → v * n < q * b + b → n < q * d + d + d
  one_short some reciprocal small upper =
      let whole : n * b ≤ n * (v * d + d) = mul-le-mul_left n reciprocal in
      let scaled : d * (v * n + 1) ≤ d * (q * b + b) = mul-le-mul_left d (omega arith) in
      let last : d * (n + 1) ≤ d * b = mul-le-mul_left d (omega arith) in
      let both : b * n < b * (q * d + d + d) = omega arith in
      lt_of_mul-lt-mul_left b both

-- a quotient, known by what it leaves
pub quotient_is : (n d q : ℕ) → q * d ≤ n → n - q * d < d → q ≡ n / d
quotient_is n d q le rest =
    let whole : q * d + (n - q * d) ≡ n = omega arith in
    let e = div-mul-add q d (n - q * d) rest in
    cc (ap (λ m. m / d) whole)

-- the upper part of a product with the reciprocal of d in b
module _ (b d n v q : ℕ) (some : 0 < d) (base : 0 < b) (small : n < b) (reciprocal : (b - 1) / d ≡ v) (upper : v * n / b ≡ q) where
  pub upper_most : q * d ≤ n
  upper_most =
      not_above b d v n q base
      (omega (arith, mul-div-le (b - 1) d, ap (λ k. d * k) reciprocal))
      (omega (arith, mul-div-le (v * n) b, ap (λ k. b * k) upper))

  pub upper_least : n < q * d + d + d
  upper_least =
      one_short b d v n q some
      (omega (arith, lt-mul-div-succ (b - 1) some, ap (λ k. d * k) reciprocal))
      small
      (omega (arith, lt-mul-div-succ (v * n) base, ap (λ k. b * k) upper))

  -- with no correction
  pub upper_is : n - q * d < d → q ≡ n / d
  upper_is rest = quotient_is n d q upper_most rest

  -- with one
  pub upper_next : d ≤ n - q * d → q + 1 ≡ n / d
  upper_next rest =
      let most = upper_most in
      let least = upper_least in
      quotient_is n d (q + 1) (omega arith) (omega arith)
