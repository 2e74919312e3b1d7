use Rattle.std.proofs.Common.{◌≡◌, ◌∙◌, refl, sym, subst, arith, pos, neg_ℤ, ◌^◌, ◌-ℤ◌, ◌+ℤ◌, ℤ, to_z, of_z, w64}
use Rattle.std.proofs.lemmas.Int.{ints, clamps}
use Rattle.std.specs.Int.{int_min, int_max}
use Rattle.cpl_fixed.specs.Division.{trunc}
use Rattle.cpl_fixed.specs.declared.limits.TheConstants.{MOST_FACE}
use Rattle.cpl_transport.specs.Heights.{IsFaceNumber, in_face}
use Rattle.cpl_transport.proofs.Bounds.{Fits, clamped}
use Rattle.cpl_transport.proofs.heights.next_face.Goals as goal

-- the number before it is bounded, as the machine reads it
sum_is : (u d : ℤ) → IsFaceNumber u → IsFaceNumber d
    → to_z w64 (of_z w64 (to_z w64 (of_z w64 (to_z w64 (of_z w64 u) -ℤ to_z w64 (of_z w64 (trunc (to_z w64 (of_z w64 u)) (pos 16))))) +ℤ to_z w64 (of_z w64 d)))
    ≡ u -ℤ trunc u (pos 16) +ℤ d
sum_is u d h k = omega (arith, ints, h.0, h.1, k.0, k.1)

pub overflow_add-next : goal.overflow_add-next
overflow_add-next c = omega (arith, ints, c.drive.ensures.range)

-- the number that is returned
returned : (u d more less : ℤ) → IsFaceNumber u → IsFaceNumber d
    → more ≡ int_max (to_z w64 (of_z w64 (to_z w64 (of_z w64 (to_z w64 (of_z w64 u) -ℤ to_z w64 (of_z w64 (trunc (to_z w64 (of_z w64 u)) (pos 16))))) +ℤ to_z w64 (of_z w64 d)))) (neg_ℤ MOST_FACE)
    → less ≡ int_min (to_z w64 (of_z w64 more)) MOST_FACE
    → (to_z w64 (of_z w64 less) ≡ in_face (u -ℤ trunc u (pos 16) +ℤ d)) × IsFaceNumber (to_z w64 (of_z w64 less))
returned u d more less h k e f =
    let x = u -ℤ trunc u (pos 16) +ℤ d in
    let fits : Fits x = record { least = omega (arith, ints, h.0, h.1, k.0, k.1); most = omega (arith, ints, h.0, h.1, k.0, k.1) } in
    let low : Fits (neg_ℤ MOST_FACE) = record { least = omega (arith, ints); most = omega (arith, ints) } in
    let high : Fits MOST_FACE = record { least = omega (arith, ints); most = omega (arith, ints) } in
    let is = clamped x (neg_ℤ MOST_FACE) MOST_FACE _ _ _ more less fits low high (sum_is u d h k) refl refl e f in
    (is, subst IsFaceNumber (sym is) (omega (arith, ints, clamps), omega (arith, ints, clamps)))

pub returns-clause-value : goal.returns-clause-value
returns-clause-value c =
    let height : to_z w64 (of_z w64 c.args.height) ≡ c.args.height = omega (arith, ints) in
    let other : to_z w64 (of_z w64 c.args.other) ≡ c.args.other = omega (arith, ints) in
    (returned c.args.u c.drive.result c.max.result c.min.result c.requires.number c.drive.ensures.range c.max.ensures.value c.min.ensures.value).0
    ∙ (λ i. in_face (c.args.u -ℤ trunc c.args.u (pos 16) +ℤ c.drive.ensures.value i))
    ∙ (λ i. in_face (c.args.u -ℤ trunc c.args.u (pos 16) +ℤ trunc (height i -ℤ other i) (pos (2 ^ c.args.slope))))

pub returns-clause-range : goal.returns-clause-range
returns-clause-range c = (returned c.args.u c.drive.result c.max.result c.min.result c.requires.number c.drive.ensures.range c.max.ensures.value c.min.ensures.value).1
