use Rattle.std.proofs.Common.{◌≡◌, ◌∙◌, refl, sym, subst, arith, ℕ, zero, suc, ◌*◌, ◌/◌, ◌≤◌, pos, ◌+ℤ◌, ℤ, to_z, w64}
use Rattle.std.proofs.lemmas.Int.{ints, clamps}
use Rattle.std.specs.Prelude.{int_div}
use Rattle.std.specs.Int.{int_min, int_max}
use Rattle.cpl_fixed.specs.Amounts.{IsAmount, amount}
use Rattle.cpl_fixed.specs.Division.{clamp}
use Rattle.cpl_transport.specs.Moves.{carried}
use Rattle.cpl_transport.specs.Salts.{IsEighth, IsSmall}
use Rattle.cpl_transport.proofs.Bounds.{Fits, clamped, read}
use Rattle.cpl_transport.proofs.moves.corrected.Goals as goal

-- with some water something may go
carried_some : (x water j : ℤ) (m : ℕ) → 1 ≤ m → carried x water m j ≡ clamp (pos (amount x * m / amount water) +ℤ j) (pos 0) (pos (amount x / 8))
carried_some x water j zero some = absurd (omega arith)
carried_some x water j (suc m) some = refl

module _ (x j : ℤ) (share : ℕ) (h : IsAmount x) (k : IsSmall j) (most : 8 * share ≤ amount x) where
  sum_is : read (to_z w64 share +ℤ read j) ≡ pos share +ℤ j
  sum_is = omega (arith, ints, h.0, h.1, k.0, k.1, most)

  top_is : read (int_div (read x) (pos 8)) ≡ pos (amount x / 8)
  top_is = omega (arith, ints, h.0, h.1)

  between : (more less : ℤ) → more ≡ int_max (read (to_z w64 share +ℤ read j)) (pos 0) → less ≡ int_min (read more) (read (int_div (read x) (pos 8)))
      → read less ≡ clamp (pos share +ℤ j) (pos 0) (pos (amount x / 8))
  between more less e f =
      let fits : Fits (pos share +ℤ j) = record { least = omega (arith, ints, h.0, h.1, k.0, k.1, most); most = omega (arith, ints, h.0, h.1, k.0, k.1, most) } in
      let low : Fits (pos 0) = record { least = omega (arith, ints); most = omega (arith, ints) } in
      let high : Fits (pos (amount x / 8)) = record { least = omega (arith, ints, h.0, h.1); most = omega (arith, ints, h.0, h.1) } in
      clamped (pos share +ℤ j) (pos 0) (pos (amount x / 8)) _ _ _ more less fits low high sum_is refl top_is e f

  eighth : IsEighth x (clamp (pos share +ℤ j) (pos 0) (pos (amount x / 8)))
  eighth = record { least = omega (arith, ints, clamps, h.0, h.1); most = omega (arith, ints, clamps, h.0, h.1) }

pub overflow_add-share : goal.overflow_add-share
overflow_add-share c =
    omega (arith, ints, c.portion-share.ensures.eighth, c.requires.here.0, c.requires.here.1, c.requires.correction.0, c.requires.correction.1)

-- the share of the numbers as they are read
share_is : (share : ℕ) (x m water : ℤ) → IsAmount x → IsAmount water → IsEighth water m → share ≡ amount (read x) * amount (read m) / amount (read water) → share ≡ amount x * amount m / amount water
share_is share x m water h k l e =
    let a : read x ≡ x = omega (arith, ints, h.0, h.1) in
    let b : read m ≡ m = omega (arith, ints, k.0, k.1, l.least, l.most) in
    let c : read water ≡ water = omega (arith, ints, k.0, k.1) in
    e ∙ (λ i. amount (a i) * amount (b i) / amount (c i))

own_eighth : (share : ℕ) (x : ℤ) → IsAmount x → 8 * share ≤ amount (read x) → 8 * share ≤ amount x
own_eighth share x h e = omega (arith, ints, h.0, h.1, e)

pub returns-clause-value : goal.returns-clause-value
returns-clause-value c =
    let x = c.args.here in
    let most = own_eighth c.portion-share.result x c.requires.here c.portion-share.ensures.eighth in
    let share = share_is c.portion-share.result x c.args.m c.args.water c.requires.here c.requires.water c.requires.moved c.portion-share.ensures.value in
    between x c.args.j c.portion-share.result c.requires.here c.requires.correction most c.max.result c.min.result c.max.ensures.value c.min.ensures.value
    ∙ (λ i. clamp (pos (share i) +ℤ c.args.j) (pos 0) (pos (amount x / 8)))
    ∙ sym (carried_some x c.args.water c.args.j (amount c.args.m) (omega (arith, ints)))

pub returns-clause-eighth : goal.returns-clause-eighth
returns-clause-eighth c =
    let x = c.args.here in
    let most = own_eighth c.portion-share.result x c.requires.here c.portion-share.ensures.eighth in
    subst (IsEighth x) (sym (between x c.args.j c.portion-share.result c.requires.here c.requires.correction most c.max.result c.min.result c.max.ensures.value c.min.ensures.value))
    (eighth x c.args.j c.portion-share.result c.requires.here c.requires.correction most)
