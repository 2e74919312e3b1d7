-- The shares of an amount sum to it, and none is negative or above it.
use Rattle.std.proofs.Common.{◌≡◌, ◌∙◌, sym, refl, ap, ℕ, zero, suc, ◌+◌, ◌-◌, ◌*◌, ◌/◌, ◌<◌, ◌≤◌, arith, List, [], ◌∷◌, length, take, get_or}
use Rattle.std.specs.Prelude.{ℤ, pos, negsuc, ◌+ℤ◌, ◌-ℤ◌, ◌<ℤ◌, ◌≤ℤ◌, All}
use Rattle.std.specs.List.{AllByRecursion}
use Rattle.std.proofs.Math.Nat.{zero-div}
use Rattle.std.proofs.lemmas.Int.{ints}
use Rattle.std.proofs.lemmas.List.Elements.{All-tail, All-from_recursion}
use Rattle.cpl_fixed.specs.Totals.{total_of}
use Rattle.cpl_fixed.specs.Shares.{part_of, share, shares_from, shares_of, CanShare, SharesAgree, IsPartWay}
use Rattle.cpl_fixed.proofs.Parts.{part_grows, part_whole, part_pos, share_pos}

-- a number that isn't negative
abbrev IsNatural : ℤ → Type 0
IsNatural z = pos 0 ≤ℤ z

-- one share is from 0 to the amount
record InRange (amount share : ℤ) : Type 0 where
  least : pos 0 ≤ℤ share
  most : share ≤ℤ amount

-- all shares sum to what lies between the running sums
sum_of_shares : (x whole from : ℤ) (weights : List ℤ) → total_of (shares_from x whole from weights) ≡ part_of x (from +ℤ total_of weights) whole -ℤ part_of x from whole
sum_of_shares x whole from [] =
    let none : from +ℤ pos 0 ≡ from = omega (arith, ints) in
    let same = ap (λ (z : ℤ). part_of x z whole) none in
    omega (arith, ints, same)
sum_of_shares x whole from (weight ∷ weights) =
    let regroup : (from +ℤ weight) +ℤ total_of weights ≡ from +ℤ (weight +ℤ total_of weights) = omega (arith, ints) in
    let same = ap (λ (z : ℤ). part_of x z whole) regroup in
    let rest = sum_of_shares x whole (from +ℤ weight) weights in
    omega (arith, ints, same, rest)

-- there is one for each weight
count_of_shares : (x whole from : ℤ) (weights : List ℤ) → length (shares_from x whole from weights) ≡ length weights
count_of_shares x whole from [] = refl
count_of_shares x whole from (weight ∷ weights) = ap suc (count_of_shares x whole (from +ℤ weight) weights)

-- each lies between two running sums
share_at : (x whole from : ℤ) (weights : List ℤ) (n : ℕ) → n < length weights → get_or (shares_from x whole from weights) n (pos 0) ≡ share x (from +ℤ total_of (take n weights)) (from +ℤ total_of (take (suc n) weights)) whole
share_at x whole from [] n within = absurd (omega arith)
share_at x whole from (weight ∷ weights) zero within =
    let first : from ≡ from +ℤ pos 0 = omega (arith, ints) in
    let next : from +ℤ weight ≡ from +ℤ (weight +ℤ pos 0) = omega (arith, ints) in
    ap (λ (z : ℤ). share x z (from +ℤ weight) whole) first ∙ ap (λ (z : ℤ). share x (from +ℤ pos 0) z whole) next
share_at x whole from (weight ∷ weights) (suc n) within =
    let first : (from +ℤ weight) +ℤ total_of (take n weights) ≡ from +ℤ (weight +ℤ total_of (take n weights)) = omega (arith, ints) in
    let next : (from +ℤ weight) +ℤ total_of (take (suc n) weights) ≡ from +ℤ (weight +ℤ total_of (take (suc n) weights)) = omega (arith, ints) in
    share_at x whole (from +ℤ weight) weights n (omega arith)
    ∙ ap (λ (z : ℤ). share x z ((from +ℤ weight) +ℤ total_of (take (suc n) weights)) whole) first
    ∙ ap (λ (z : ℤ). share x (from +ℤ (weight +ℤ total_of (take n weights))) z whole) next

-- sums of numbers that aren't negative aren't either
pub total_least : (xs : List ℤ) → All IsNatural xs → pos 0 ≤ℤ total_of xs
total_least [] each = omega (arith, ints)
total_least (x ∷ xs) each =
    let first = each 0 x (omega arith) in
    let rest = total_least xs (All-tail IsNatural x xs each) in
    omega (arith, ints, first, rest)

-- a share between running sums in order
in_range : (x from to whole : ℤ) → pos 0 ≤ℤ x → pos 0 ≤ℤ from → from ≤ℤ to → to ≤ℤ whole → pos 0 <ℤ whole → InRange x (share x from to whole)
in_range (pos x) (pos from) (pos to) (pos whole) x_least least order within some =
    let upto = part_pos x to whole in
    let before = part_pos x from whole in
    let less = part_grows x from to whole (omega (arith, ints, some)) (omega (arith, ints, order)) in
    let more = part_grows x to whole whole (omega (arith, ints, some)) (omega (arith, ints, within)) in
    let all = part_whole x whole (omega (arith, ints, some)) in
    record { least = omega (arith, ints, upto, before, less); most = omega (arith, ints, upto, before, more, all) }
in_range (negsuc x) from to whole x_least least order within some = absurd (omega (arith, ints, x_least))
in_range x (negsuc from) to whole x_least least order within some = absurd (omega (arith, ints, least))
in_range x (pos from) (negsuc to) whole x_least least order within some = absurd (omega (arith, ints, order))
in_range x from to (negsuc whole) x_least least order within some = absurd (omega (arith, ints, some))

ranges : (x whole from : ℤ) (weights : List ℤ) → pos 0 ≤ℤ x → pos 0 <ℤ whole → pos 0 ≤ℤ from → All IsNatural weights → (from +ℤ total_of weights) ≤ℤ whole → AllByRecursion (InRange x) (shares_from x whole from weights)
ranges x whole from [] x_least some least each within = tt
ranges x whole from (weight ∷ weights) x_least some least each within =
    let first = each 0 weight (omega arith) in
    let others = All-tail IsNatural weight weights each in
    let rest = total_least weights others in (
      in_range x from (from +ℤ weight) whole x_least least (omega (arith, ints, first)) (omega (arith, ints, within, rest)) some,
      ranges x whole (from +ℤ weight) weights x_least some (omega (arith, ints, least, first)) others (omega (arith, ints, within)),
    )

-- the part of the whole is the amount, and that of nothing is nothing
whole_part : (x whole : ℤ) → pos 0 ≤ℤ x → pos 0 <ℤ whole → part_of x whole whole ≡ x
whole_part (pos x) (pos whole) least some = part_pos x whole whole ∙ ap pos (part_whole x whole (omega (arith, ints, some)))
whole_part (negsuc x) whole least some = absurd (omega (arith, ints, least))
whole_part x (negsuc whole) least some = absurd (omega (arith, ints, some))

no_part : (x whole : ℤ) → pos 0 ≤ℤ x → pos 0 <ℤ whole → part_of x (pos 0) whole ≡ pos 0
no_part (pos x) (pos whole) least some =
    let none : x * 0 / whole ≡ 0 = ap (λ (n : ℕ). n / whole) (omega arith) ∙ zero-div whole in
    part_pos x 0 whole ∙ ap pos none
no_part (negsuc x) whole least some = absurd (omega (arith, ints, least))
no_part x (negsuc whole) least some = absurd (omega (arith, ints, some))

pub shares_agree : (x : ℤ) (weights : List ℤ) → CanShare x weights → SharesAgree x weights (shares_of x weights)
shares_agree x weights can =
    let whole = total_of weights in
    let some : pos 0 <ℤ total_of weights = omega (arith, ints, can.some) in
    let from_none : pos 0 +ℤ total_of weights ≡ total_of weights = omega (arith, ints) in
    let upto : part_of x (pos 0 +ℤ total_of weights) (total_of weights) ≡ x = ap (λ (z : ℤ). part_of x z (total_of weights)) from_none ∙ whole_part x (total_of weights) can.amount_least some in
    let before = no_part x (total_of weights) can.amount_least some in
    let sum = sum_of_shares x (total_of weights) (pos 0) weights in
    let each = All-from_recursion (InRange x) (shares_of x weights) (ranges x (total_of weights) (pos 0) weights can.amount_least some (omega (arith, ints)) can.each (omega (arith, ints))) in
    record {
      count = count_of_shares x (total_of weights) (pos 0) weights;
      total = omega (arith, ints, sum, upto, before);
      least = λ k d below. (each k d below).least;
      most = λ k d below. (each k d below).most;
      each = λ n below.
          let first : pos 0 +ℤ total_of (take n weights) ≡ total_of (take n weights) = omega (arith, ints) in
          let next : pos 0 +ℤ total_of (take (suc n) weights) ≡ total_of (take (n + 1) weights) = omega (arith, ints, ap (λ (k : ℕ). total_of (take k weights)) (let e : suc n ≡ n + 1 = omega arith in e)) in
          share_at x (total_of weights) (pos 0) weights n below
          ∙ ap (λ (z : ℤ). share x z (pos 0 +ℤ total_of (take (suc n) weights)) (total_of weights)) first
          ∙ ap (λ (z : ℤ). share x (total_of (take n weights)) z (total_of weights)) next;
    }

-- the next share, and what is kept with it
pub record IsNext (amount whole from given w : ℕ) (weight : ℤ) (weights : List ℤ) : Type 0 where
  pub within : from + w ≤ whole
  pub more : given ≤ amount * (from + w) / whole
  pub small : amount * (from + w) / whole ≤ amount
  pub kept : IsPartWay amount whole (from + w) (amount * (from + w) / whole) weights
  pub shares : shares_from (pos amount) (pos whole) (pos from) (weight ∷ weights)
      ≡ pos (amount * (from + w) / whole - given) ∷ shares_from (pos amount) (pos whole) (pos (from + w)) weights

pub next_share : (amount whole from given w : ℕ) (weight : ℤ) (weights : List ℤ) → weight ≡ pos w → IsPartWay amount whole from given (weight ∷ weights) → IsNext amount whole from given w weight weights
next_share amount whole from given w weight weights is part_way =
    let others = All-tail IsNatural weight weights part_way.each in
    let rest = total_least weights others in
    let within : from + w ≤ whole = omega (arith, ints, part_way.within, rest, is) in
    let more = part_grows amount from (from + w) whole part_way.some (omega arith) in
    let most = part_grows amount (from + w) whole whole part_way.some within in
    let all = part_whole amount whole part_way.some in
    let next : pos from +ℤ weight ≡ pos (from + w) = omega (arith, ints, is) in
    let one : share (pos amount) (pos from) (pos from +ℤ weight) (pos whole) ≡ pos (amount * (from + w) / whole - given) =
    ap (λ (z : ℤ). share (pos amount) (pos from) z (pos whole)) next
    ∙ share_pos amount from (from + w) whole part_way.some (omega arith)
    ∙ ap (λ (n : ℕ). pos (amount * (from + w) / whole - n)) (sym part_way.so_far) in
    record {
      within = within;
      more = omega (arith, part_way.so_far, more);
      small = omega (arith, most, all);
      kept = record {
        amount_most = part_way.amount_most;
        each = others;
        within = omega (arith, ints, part_way.within, next);
        some = part_way.some;
        so_far = refl;
      };
      shares = λ s. one s ∷ shares_from (pos amount) (pos whole) (next s) weights;
    }

-- the sum of the first weights is no more than that of all
pub total_front : (xs : List ℤ) (n : ℕ) → All IsNatural xs → (pos 0 ≤ℤ total_of (take n xs)) × (total_of (take n xs) ≤ℤ total_of xs)
total_front [] zero each = (omega (arith, ints), omega (arith, ints))
total_front [] (suc n) each = (omega (arith, ints), omega (arith, ints))
total_front (x ∷ xs) zero each = let h = total_least (x ∷ xs) each in (omega (arith, ints), h)
total_front (x ∷ xs) (suc n) each =
    let first = each 0 x (omega arith) in
    let rest = total_front xs n (All-tail IsNatural x xs each) in
    (omega (arith, ints, first, rest.0), omega (arith, ints, rest.1))

pub total_more : (xs : List ℤ) (n : ℕ) → n < length xs → total_of (take (n + 1) xs) ≡ total_of (take n xs) +ℤ get_or xs n (pos 0)
total_more [] n within = absurd (omega arith)
total_more (x ∷ xs) zero within = omega (arith, ints)
total_more (x ∷ xs) (suc n) within =
    let rest = total_more xs n (omega arith) in
    let e : suc n + 1 ≡ suc (n + 1) = omega arith in
    ap (λ (k : ℕ). total_of (take k (x ∷ xs))) e ∙ omega (arith, ints, rest)
