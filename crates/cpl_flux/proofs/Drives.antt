-- What a difference drives, by its sign, and bounds of signed products.
use Rattle.std.proofs.Common.{◌≡◌, ◌∙◌, ap, ℕ, zero, suc, ◌-◌, ◌*◌, ◌/◌, ◌<◌, ◌≤◌, arith, min}
use Rattle.std.proofs.Math.Nat.{zero-div}
use Rattle.std.proofs.Math.IntN.{pos-*ℤ-negsuc}
use Rattle.std.specs.Prelude.{ℤ, pos, negsuc, neg_ℤ, ◌-ℤ◌, ◌*ℤ◌, ◌≤ℤ◌, unsigned_abs}
use Rattle.std.proofs.lemmas.Int.{ints, clamps}
use Rattle.cpl_fixed.specs.Division.{trunc, clamp}
use Rattle.cpl_flux.specs.Elements.{raw_heat, IsGiven}

-- the signed number is the natural one
pub natural : (x : ℤ) → pos 0 ≤ℤ x → x ≡ pos (unsigned_abs x)
natural (pos n) h = ap pos (omega arith)
natural (negsuc n) h = absurd (omega (arith, ints))

trunc_neg : (m d : ℕ) → trunc (neg_ℤ (pos m)) (pos d) ≡ neg_ℤ (pos (m / d))
trunc_neg zero d =
    let e : 0 / d ≡ 0 = zero-div d in
    omega (arith, ints, e)
trunc_neg (suc m) d = omega (arith, ints)

-- warmer air drives heat down
raw_down : (kh b air part : ℕ) → part ≤ air → raw_heat kh b air part ≡ pos (kh * b * (air - part) / 1_048_576)
raw_down kh b air part le =
    let e : pos air -ℤ pos part ≡ pos (air - part) = omega (arith, ints) in
    ap (λ d. trunc (pos (kh * b) *ℤ d) (pos 1_048_576)) e

-- a warmer part drives it up
raw_up : (kh b air part : ℕ) → air < part → raw_heat kh b air part ≡ neg_ℤ (pos (kh * b * (part - air) / 1_048_576))
raw_up kh b air part lt =
    let e : pos air -ℤ pos part ≡ negsuc (part - air - 1) = omega (arith, ints) in
    let s : suc (part - air - 1) ≡ part - air = omega arith in
    ap (λ d. trunc (pos (kh * b) *ℤ d) (pos 1_048_576)) e
    ∙ ap (λ x. trunc x (pos 1_048_576)) (pos-*ℤ-negsuc (kh * b) (part - air - 1) ∙ ap (λ d. neg_ℤ (pos (kh * b * d))) s)
    ∙ trunc_neg (kh * b * (part - air)) 1_048_576

clamp_down : (raw least most : ℕ) → clamp (pos raw) (neg_ℤ (pos least)) (pos most) ≡ pos (min raw most)
clamp_down raw least most = omega (arith, ints, clamps)

clamp_up : (raw least most : ℕ) → clamp (neg_ℤ (pos raw)) (neg_ℤ (pos least)) (pos most) ≡ neg_ℤ (pos (min raw least))
clamp_up raw least most = omega (arith, ints, clamps)

-- what goes down is bounded by the air
pub bounded_down : (kh b air part least most : ℕ) → part ≤ air → clamp (raw_heat kh b air part) (neg_ℤ (pos least)) (pos most) ≡ pos (min (kh * b * (air - part) / 1_048_576) most)
bounded_down kh b air part least most le =
    ap (λ x. clamp x (neg_ℤ (pos least)) (pos most)) (raw_down kh b air part le) ∙ clamp_down (kh * b * (air - part) / 1_048_576) least most

-- what goes up by the part
pub bounded_up : (kh b air part least most : ℕ) → air < part → clamp (raw_heat kh b air part) (neg_ℤ (pos least)) (pos most) ≡ neg_ℤ (pos (min (kh * b * (part - air) / 1_048_576) least))
bounded_up kh b air part least most lt =
    ap (λ x. clamp x (neg_ℤ (pos least)) (pos most)) (raw_up kh b air part lt) ∙ clamp_up (kh * b * (part - air) / 1_048_576) least most

-- a bound on naturals is one on signed numbers
pub given_is : (there whole b : ℤ) (given : ℕ) → pos 0 ≤ℤ there → pos 0 ≤ℤ whole → pos 0 ≤ℤ b → 8 * unsigned_abs whole * given ≤ unsigned_abs there * unsigned_abs b → IsGiven there whole b (pos given)
given_is (pos there) (pos whole) (pos b) given ht hw hb h = omega (arith, ints, h)
given_is (negsuc there) whole b given ht hw hb h = absurd (omega (arith, ints))
given_is there (negsuc whole) b given ht hw hb h = absurd (omega (arith, ints))
given_is there whole (negsuc b) given ht hw hb h = absurd (omega (arith, ints))

-- what takes gives nothing
pub taken_is : (there whole b : ℤ) (taken : ℕ) → pos 0 ≤ℤ there → pos 0 ≤ℤ whole → pos 0 ≤ℤ b → IsGiven there whole b (neg_ℤ (pos taken))
taken_is (pos there) (pos whole) (pos b) zero ht hw hb = omega (arith, ints)
taken_is (pos there) (pos whole) (pos b) (suc taken) ht hw hb =
    let e = pos-*ℤ-negsuc whole taken in
    omega (arith, ints, e)
taken_is (negsuc there) whole b taken ht hw hb = absurd (omega (arith, ints))
taken_is there (negsuc whole) b taken ht hw hb = absurd (omega (arith, ints))
taken_is there whole (negsuc b) taken ht hw hb = absurd (omega (arith, ints))
