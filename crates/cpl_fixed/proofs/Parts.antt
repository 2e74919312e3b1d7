-- Parts and shares of an amount.
use Rattle.std.proofs.Common.{◌≡◌, ◌∙◌, ap, ℕ, ◌-◌, ◌*◌, ◌/◌, ◌<◌, ◌≤◌, arith}
use Rattle.std.specs.Prelude.{ℤ, pos}
use Rattle.std.proofs.Math.Nat.{div-mul-le_self, mul-div_cancel, mul-le-mul_left}
use Rattle.std.proofs.Math.IntN.{pos-*ℤ-pos}
use Rattle.std.proofs.lemmas.Nat.{le-div}
use Rattle.std.proofs.lemmas.Int.{ints}
use Rattle.cpl_fixed.specs.Division.{trunc}
use Rattle.cpl_fixed.specs.Shares.{part_of, share}

-- the part of a greater weight is no less
pub part_grows : (x from to whole : ℕ) → 0 < whole → from ≤ to → x * from / whole ≤ x * to / whole
part_grows x from to whole some order =
    let most = div-mul-le_self (x * from) whole in
    let more = mul-le-mul_left x order in
    le-div (x * from / whole) (x * to) whole some (omega arith)

-- the part of the whole is all
pub part_whole : (x whole : ℕ) → 0 < whole → x * whole / whole ≡ x
part_whole x whole some = mul-div_cancel x some

-- the part of unsigned numbers
pub part_pos : (x weight whole : ℕ) → part_of (pos x) (pos weight) (pos whole) ≡ pos (x * weight / whole)
part_pos x weight whole = ap (λ (z : ℤ). trunc z (pos whole)) (pos-*ℤ-pos x weight)

-- the share of unsigned numbers
pub share_pos : (x from to whole : ℕ) → 0 < whole → from ≤ to → share (pos x) (pos from) (pos to) (pos whole) ≡ pos (x * to / whole - x * from / whole)
share_pos x from to whole some order =
    let more = part_grows x from to whole some order in
    let upto = part_pos x to whole in
    let before = part_pos x from whole in
    omega (arith, ints, more, upto, before)

-- the share of numbers of which none is negative
pub share_natural : (x from to whole : ℤ) (n f t w : ℕ) → x ≡ pos n → from ≡ pos f → to ≡ pos t → whole ≡ pos w → 0 < w → f ≤ t → share x from to whole ≡ pos (n * t / w - n * f / w)
share_natural x from to whole n f t w is_x is_from is_to is_whole some order =
    ap (λ (z : ℤ). share z from to whole) is_x
    ∙ ap (λ (z : ℤ). share (pos n) z to whole) is_from
    ∙ ap (λ (z : ℤ). share (pos n) (pos f) z whole) is_to
    ∙ ap (λ (z : ℤ). share (pos n) (pos f) (pos t) z) is_whole
    ∙ share_pos n f t w some order
