-- Parts of amounts that aren't negative.
use Rattle.std.proofs.Common.{◌≡◌, ◌∙◌, sym, ap, subst, arith, FitsSigned, w64, to_z, of_z}
use Rattle.std.specs.Int.{w128}
use Rattle.std.specs.Prelude.{ℤ, pos, negsuc, ◌+ℤ◌, ◌≤ℤ◌, ◌<ℤ◌, int_div}
use Rattle.std.proofs.Math.IntN.{zero-*ℤ}
use Rattle.std.proofs.lemmas.Int.{ints}
use Rattle.cpl_fixed.specs.Amounts.{IsAmount}
use Rattle.cpl_fixed.specs.Shares.{part_of, share}
use Rattle.cpl_fixed.proofs.Parts.{part_grows, part_whole, part_pos}

-- a part is from 0 to the amount
pub part_range : (x weight whole : ℤ) → IsAmount x → pos 0 ≤ℤ weight → weight ≤ℤ whole → pos 0 <ℤ whole → IsAmount (part_of x weight whole)
part_range (pos x) (pos weight) (pos whole) amount least within some =
    let part = part_pos x weight whole in
    let more = part_grows x weight whole whole (omega (arith, ints, some)) (omega (arith, ints, within)) in
    let all = part_whole x whole (omega (arith, ints, some)) in
    let most = amount.1 in
    (omega (arith, ints, part), omega (arith, ints, part, more, all, most))
part_range (negsuc x) weight whole amount least within some = absurd (let h = amount.0 in omega (arith, ints, h))
part_range x (negsuc weight) whole amount least within some = absurd (omega (arith, ints, least))
part_range x weight (negsuc whole) amount least within some = absurd (omega (arith, ints, some))

-- a share is from 0 to the amount
pub share_range : (x from to whole : ℤ) → IsAmount x → pos 0 ≤ℤ from → from ≤ℤ to → to ≤ℤ whole → pos 0 <ℤ whole → IsAmount (share x from to whole)
share_range (pos x) (pos from) (pos to) (pos whole) amount least order within some =
    let upto = part_pos x to whole in
    let before = part_pos x from whole in
    let less = part_grows x from to whole (omega (arith, ints, some)) (omega (arith, ints, order)) in
    let more = part_grows x to whole whole (omega (arith, ints, some)) (omega (arith, ints, within)) in
    let all = part_whole x whole (omega (arith, ints, some)) in
    let most = amount.1 in
    (omega (arith, ints, upto, before, less), omega (arith, ints, upto, before, more, all, most))
share_range (negsuc x) from to whole amount least order within some = absurd (let h = amount.0 in omega (arith, ints, h))
share_range x (negsuc from) to whole amount least order within some = absurd (omega (arith, ints, least))
share_range x (pos from) (negsuc to) whole amount least order within some = absurd (omega (arith, ints, order))
share_range x from to (negsuc whole) amount least order within some = absurd (omega (arith, ints, some))

-- no weight, no share
pub share_none : (x from whole : ℤ) → share x from (from +ℤ pos 0) whole ≡ pos 0
share_none x from whole =
    let same : from +ℤ pos 0 ≡ from = omega (arith, ints) in
    let e = ap (λ (z : ℤ). part_of x z whole) same in
    omega (arith, ints, e)

-- no share of nothing
pub no_share : (from to whole : ℤ) → share (pos 0) from to whole ≡ pos 0
no_share from to whole =
    let upto = ap (λ (x : ℤ). int_div x whole) (zero-*ℤ to) in
    let before = ap (λ (x : ℤ). int_div x whole) (zero-*ℤ from) in
    omega (arith, ints, upto, before)

-- an amount fits
pub amount_fits : (z : ℤ) → IsAmount z → FitsSigned w64 z
amount_fits (pos n) h = let m = h.1 in record { sfits = omega (arith, ints, m) }
amount_fits (negsuc n) h = absurd (let m = h.0 in omega (arith, ints, m))

-- an amount that was passed
pub amount_passed : (x : ℤ) → IsAmount x → to_z w64 (of_z w64 x) ≡ x
amount_passed x h = let a = h.0 in let b = h.1 in omega (arith, ints)

-- an amount in 128 bits, cast to 64
pub amount_wide : (x amount : ℤ) → x ≡ amount → IsAmount amount → to_z w128 (of_z w128 x) ≡ amount
amount_wide x amount e h = let a = h.0 in let b = h.1 in omega (arith, ints)

pub amount_fits_wide : (x amount : ℤ) → x ≡ amount → IsAmount amount → FitsSigned w64 (to_z w128 (of_z w128 x))
amount_fits_wide x amount e h = subst (FitsSigned w64) (sym (amount_wide x amount e h)) (amount_fits amount h)

pub amount_cast : (x amount : ℤ) → x ≡ amount → IsAmount amount → to_z w64 (of_z w64 (to_z w128 (of_z w128 x))) ≡ amount
amount_cast x amount e h = ap (λ (z : ℤ). to_z w64 (of_z w64 z)) (amount_wide x amount e h) ∙ amount_passed amount h

-- an area that was read and passed
pub area_read : (x b area : ℤ) → x ≡ b → pos 0 ≤ℤ b → b ≤ℤ area → area ≤ℤ pos 1_099_511_627_776 → to_z w64 (of_z w64 x) ≡ b
area_read x b area e least most limit = omega (arith, ints)
