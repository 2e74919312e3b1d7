-- Two divisions of a line into equal parts: which of their parts overlap, and how their overlaps sum.
use Rattle.std.proofs.Common.{◌≡◌, ◌∙◌, ap, ltb, ℕ, zero, suc, ◌+◌, ◌-◌, ◌*◌, ◌/◌, ◌<◌, ◌≤◌, min, arith, map, inl, inr}
use Rattle.std.specs.Prelude.{pos, ◌+ℤ◌}
use Rattle.std.specs.List.{filter, range_with_len}
use Rattle.std.proofs.lemmas.Int.{ints}
use Rattle.std.proofs.lemmas.Bool.{lt-ltb, le-ltb, cases_lt}
use Rattle.std.proofs.Math.Nat.{mul-le-mul_left, mul-le-mul_right}
use Rattle.cpl_fixed.specs.Totals.{total_of}
use Rattle.cpl_made_grid.specs.Overlaps.{in_common}
use Rattle.cpl_made_grid.specs.Shares.{end_under}
use Rattle.cpl_made_grid.proofs.Ranges.{filter_range}

-- a quotient and what is below or above it
above_first : (n x o : ℕ) → 0 < n → x / n ≤ o → x < o * n + n
above_first n x o some le = let h : n * (x / n) ≤ n * o = mul-le-mul_left n le in omega arith

below_first : (n x o : ℕ) → 0 < n → o < x / n → o * n + n ≤ x
below_first n x o some lt =
    let more : o + 1 ≤ x / n = omega arith in
    let h : n * (o + 1) ≤ n * (x / n) = mul-le-mul_left n more in
    omega arith

below_end : (n z o : ℕ) → 0 < n → 1 ≤ z → o < (z - 1) / n + 1 → o * n < z
below_end n z o some least lt =
    let most : o ≤ (z - 1) / n = omega arith in
    let h : n * o ≤ n * ((z - 1) / n) = mul-le-mul_left n most in
    omega arith

above_end : (n z o : ℕ) → 0 < n → 1 ≤ z → (z - 1) / n + 1 ≤ o → z ≤ o * n
above_end n z o some least le = let h : n * ((z - 1) / n + 1) ≤ n * o = mul-le-mul_left n le in omega arith

less_from : (n x y : ℕ) → n * x < n * y → x ≤ y
less_from n x y lt = elim (cases_lt y x) [
  | inl more ↦ let h : n * y ≤ n * x = mul-le-mul_left n (omega arith) in absurd (omega arith)
  | inr le ↦ le
]

pub div_less : (n x m : ℕ) → 0 < n → x < n * m → x / n < m
div_less n x m some lt = elim (cases_lt (x / n) m) [
  | inl less ↦ less
  | inr le ↦ let h : n * m ≤ n * (x / n) = mul-le-mul_left n le in absurd (omega arith)
]

-- two divisions: no more parts in the first than in the second
pub record AreParts (airs oceans a : ℕ) : Type 0 where
  pub some : 0 < airs
  pub more : airs ≤ oceans
  pub within : a < airs

module _ (airs oceans a : ℕ) (parts : AreParts airs oceans a) where
  abbrev first : ℕ
  first = a * oceans / airs

  abbrev end : ℕ
  end = end_under airs oceans a

  -- a part of the line has some length
  long : 1 ≤ (a + 1) * oceans
  long = let some = parts.some in let more = parts.more in omega arith

  -- the parts that overlap the a-th
  pub overlaps : (o : ℕ) → first ≤ o → o < end → 0 < in_common airs oceans a o
  overlaps o le lt =
      let some = parts.some in
      let more = parts.more in
      let x = above_first airs (a * oceans) o some le in
      let y = below_end airs ((a + 1) * oceans) o some long lt in
      omega arith

  before : (o : ℕ) → o < first → in_common airs oceans a o ≤ 0
  before o lt = let x = below_first airs (a * oceans) o parts.some lt in omega arith

  after : (o : ℕ) → end ≤ o → in_common airs oceans a o ≤ 0
  after o le = let y = above_end airs ((a + 1) * oceans) o parts.some long le in omega arith

  pub first_end : first ≤ end
  first_end =
      let some = parts.some in
      let more = parts.more in
      let floor : airs * first ≤ a * oceans = omega arith in
      let h = above_end airs ((a + 1) * oceans) end some long (omega arith) in
      let grows : airs * first < airs * end = omega arith in
      less_from airs first end grows

  pub end_within : end ≤ oceans
  end_within =
      let some = parts.some in
      let more = parts.more in
      let within = parts.within in
      let h : (a + 1) * oceans ≤ airs * oceans = mul-le-mul_right oceans (omega arith) in
      let last : ((a + 1) * oceans - 1) / airs < oceans = div_less airs ((a + 1) * oceans - 1) oceans some (omega arith) in
      omega arith

  pub parts_under : filter (λ o. ltb 0 (in_common airs oceans a o)) (range_with_len 0 oceans) ≡ range_with_len first (end - first)
  parts_under =
      filter_range (λ o. ltb 0 (in_common airs oceans a o)) oceans first end first_end end_within
      (λ o lt. le-ltb 0 (in_common airs oceans a o) (before o lt))
      (λ o le lt. lt-ltb 0 (in_common airs oceans a o) (overlaps o le lt))
      (λ o le lt. le-ltb 0 (in_common airs oceans a o) (after o le))

  -- how much of the a-th part lies before the o-th part of the other division
  abbrev covered : ℕ → ℕ
  covered o = min (o * airs) ((a + 1) * oceans) - a * oceans

  step : (o : ℕ) → o * airs ≤ (a + 1) * oceans → covered (o + 1) ≡ in_common airs oceans a o + covered o
  step o le = omega arith

  covers : (o n : ℕ) → ((m : ℕ) → m < o + n → m * airs ≤ (a + 1) * oceans) → total_of (map (λ m. pos (in_common airs oceans a m)) (range_with_len o n)) +ℤ pos (covered o) ≡ pos (covered (o + n))
  covers o zero all = let same : covered o ≡ covered (o + zero) = ap covered (omega arith) in omega (arith, ints, same)
  covers o (suc n) all =
      let one = step o (all o (omega arith)) in
      let rest = covers (o + 1) n (λ m lt. all m (omega arith)) in
      let same : covered (o + 1 + n) ≡ covered (o + suc n) = ap covered (omega arith) in
      omega (arith, ints, one, rest, same)

  -- the overlaps of the a-th part sum to its length
  pub parts_sum : total_of (map (λ o. pos (in_common airs oceans a o)) (range_with_len first (end - first))) ≡ pos oceans
  parts_sum =
      let some = parts.some in
      let order = first_end in
      let all = covers first (end - first) (λ m lt. let h = below_end airs ((a + 1) * oceans) m some long (omega arith) in omega arith) in
      let floor : airs * first ≤ a * oceans = omega arith in
      let none : covered first ≡ 0 = omega arith in
      let whole : first + (end - first) ≡ end = omega arith in
      let past = above_end airs ((a + 1) * oceans) end some long (omega arith) in
      let full : covered (first + (end - first)) ≡ oceans = ap covered whole ∙ omega arith in
      omega (arith, ints, all, none, full)

  -- each overlap is at most a part of the other division
  pub overlap_most : (o : ℕ) → in_common airs oceans a o ≤ airs
  overlap_most o = omega arith
