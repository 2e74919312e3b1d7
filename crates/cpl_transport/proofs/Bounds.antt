-- Numbers as the machine reads them, and between two bounds.
use Rattle.std.proofs.Common.{◌≡◌, ◌∙◌, ap, arith, ◌^◌, pos, ◌-ℤ◌, ◌≤ℤ◌, ℤ, to_z, of_z, w64}
use Rattle.std.proofs.lemmas.Int.{ints, clamps}
use Rattle.std.specs.Int.{int_min, int_max}
use Rattle.cpl_fixed.specs.Amounts.{IsAmount}
use Rattle.cpl_fixed.specs.Division.{clamp}
use Rattle.cpl_transport.specs.Salts.{IsEighth}

-- a number as the machine reads it
abbrev pub read : ℤ → ℤ
read x = to_z w64 (of_z w64 x)

-- a number that is read as it is
pub record Fits (x : ℤ) : Type 0 where
  pub least : (pos 0 -ℤ pos (2 ^ 62)) ≤ℤ x
  pub most : x ≤ℤ pos (2 ^ 62)

pub own : (x : ℤ) → Fits x → read x ≡ x
own x h = omega (arith, ints, h.least, h.most)

-- an amount is, and so is an eighth of one
pub own_amount : (x : ℤ) → IsAmount x → read x ≡ x
own_amount x h = omega (arith, ints, h.0, h.1)

pub own_eighth : (there x : ℤ) → IsAmount there → IsEighth there x → read x ≡ x
own_eighth there x h k = omega (arith, ints, h.0, h.1, k.least, k.most)

clamp_fits : (x lo hi : ℤ) → Fits x → Fits lo → Fits hi → Fits (int_max x lo) × Fits (clamp x lo hi)
clamp_fits x lo hi h k l = (
  record { least = omega (arith, ints, clamps, h.least, h.most, k.least, k.most); most = omega (arith, ints, clamps, h.least, h.most, k.least, k.most) },
  record {
    least = omega (arith, ints, clamps, h.least, h.most, k.least, k.most, l.least, l.most);
    most = omega (arith, ints, clamps, h.least, h.most, k.least, k.most, l.least, l.most);
  },
)

-- what the machine finds between two bounds is what stands there
pub clamped : (x lo hi y lo' hi' more less : ℤ) → Fits x → Fits lo → Fits hi → y ≡ x → lo' ≡ lo → hi' ≡ hi → more ≡ int_max y lo' → less ≡ int_min (read more) hi' → read less ≡ clamp x lo hi
clamped x lo hi y lo' hi' more less h k l d e f g m =
    let fits = clamp_fits x lo hi h k l in
    let top : read more ≡ int_max x lo = ap read (g ∙ (λ i. int_max (d i) (e i))) ∙ own (int_max x lo) fits.0 in
    ap read (m ∙ (λ i. int_min (top i) (f i))) ∙ own (clamp x lo hi) fits.1
