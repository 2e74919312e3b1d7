-- The last moment of a run.
use Rattle.std.proofs.Common.{◌≡◌, ◌∙◌, refl, sym, ap, Bool, true, false, cond, ◌&&◌, ℕ, ◌*◌, ◌^◌, ◌≤◌, arith, inl, inr, leb, Option, Some, None, w64, to_z, of_z}
use Rattle.std.specs.Prelude.{ℤ, pos, negsuc, ◌+ℤ◌, ◌*ℤ◌, ◌≤ℤ◌, ◌<ℤ◌, int_lt, unsigned_abs, FitsSigned}
use Rattle.std.specs.Int.{int_min}
use Rattle.std.proofs.lemmas.Int.{by_lt_z, ints, clamps}
use Rattle.std.proofs.lemmas.Bool.{cases_Bool, le-leb, leb-true}
use Rattle.std.proofs.Math.Nat.{mul-le-mul_left}
use Rattle.std.proofs.Math.IntN.{pos-*ℤ-pos}
use Rattle.cpl_namelist.specs.declared.names.Names.{Names}
use Rattle.cpl_namelist.specs.Civil.{Fits, civil_after}
use Rattle.cpl_state.specs.declared.whole.Whole.{Whole}
use Rattle.cpl_plan.specs.declared.error.PlanError.{PlanError}
use Rattle.cpl_plan.specs.declared.error.PlanError.TheVariants as fault
use Rattle.cpl_plan.specs.Faults.{date_fault, last_second}

-- the seconds of a run are in range
pub record IsRunLength (x : ℤ) : Type 0 where
  pub least : pos 0 ≤ℤ x
  pub most : x ≤ℤ pos 26784000000

run_range : (steps : ℕ) (dt : ℤ) → steps ≤ 10000 → pos 1 ≤ℤ dt → dt ≤ℤ pos 2678400 → IsRunLength (pos steps *ℤ dt)
run_range steps (pos d) few least most =
    let e = pos-*ℤ-pos steps d in
    let scaled : steps * d ≤ steps * 2678400 = mul-le-mul_left steps (omega (arith, ints, most)) in
    record { least = omega (arith, ints, e); most = omega (arith, ints, e, scaled, few) }
run_range steps (negsuc d) few least most = absurd (omega (arith, ints, least))

-- the last second in machine words
pub last_is : (steps : ℕ) (elapsed from dt : ℤ) → from ≡ pos steps → steps ≤ 10000 → pos 1 ≤ℤ dt → dt ≤ℤ pos 2678400 → pos 0 ≤ℤ elapsed → elapsed <ℤ pos (2 ^ 63)
    → (to_z w64 (of_z w64 elapsed) +ℤ to_z w64 (of_z w64 (to_z w64 (of_z w64 from) *ℤ to_z w64 (of_z w64 dt))) ≡ elapsed +ℤ (pos steps *ℤ dt)) × (pos 0 ≤ℤ (elapsed +ℤ (pos steps *ℤ dt)))
last_is steps elapsed from dt e few dt_least dt_most least most =
    let f : to_z w64 (of_z w64 from) ≡ pos steps = omega (arith, ints, e, few) in
    let d : to_z w64 (of_z w64 dt) ≡ dt = omega (arith, ints, dt_least, dt_most) in
    let range = run_range steps dt few dt_least dt_most in
    let product : to_z w64 (of_z w64 from) *ℤ to_z w64 (of_z w64 dt) ≡ pos steps *ℤ dt = λ i. f i *ℤ d i in
    let own : to_z w64 (of_z w64 (pos steps *ℤ dt)) ≡ pos steps *ℤ dt = omega (arith, ints, range.least, range.most) in
    let run : to_z w64 (of_z w64 (to_z w64 (of_z w64 from) *ℤ to_z w64 (of_z w64 dt))) ≡ pos steps *ℤ dt = ap (λ (z : ℤ). to_z w64 (of_z w64 z)) product ∙ own in
    let start : to_z w64 (of_z w64 elapsed) ≡ elapsed = omega (arith, ints, least, most) in
    ((λ i. start i +ℤ run i), omega (arith, ints, least, range.least))

-- what doesn't fit a word is above it
pub above_words : (x y : ℤ) → (FitsSigned w64 x → ⊥) → x ≡ y → pos 0 ≤ℤ y → pos (2 ^ 63) ≤ℤ y
above_words x y h e least = by_lt_z y (pos (2 ^ 63)) (λ lt. absurd (h (omega (arith, ints, e, least, lt)))) (λ ge. ge)

lt_true : (x y : ℤ) → x <ℤ y → int_lt x y ≡ true
lt_true x y h = grind (arith, ints)

lt_false : (x y : ℤ) → y ≤ℤ x → int_lt x y ≡ false
lt_false x y h = grind (arith, ints)

not_leb : (m n : ℕ) → (m ≤ n → ⊥) → leb m n ≡ false
not_leb m n h = elim (cases_Bool (leb m n)) [ inl e ↦ absurd (h (leb-true m n e)) | inr e ↦ e ]

module _ (names : Names) (start : Whole) where
  abbrev answer : Bool → Bool → Option PlanError
  answer below fits = cond (below && fits) None (Some (fault.Date (int_min (last_second names start) (pos 9223372036854775807))))

  -- it passes 64 bits
  pub date_late : pos (2 ^ 63) ≤ℤ last_second names start → date_fault names start ≡ Some (fault.Date (pos 9223372036854775807))
  date_late h =
      let most : int_min (last_second names start) (pos 9223372036854775807) ≡ pos 9223372036854775807 = omega (arith, ints, clamps, h) in
      ap (λ (b : Bool). answer b (leb (civil_after names.start (unsigned_abs (last_second names start))).0 9999)) (lt_false (last_second names start) (pos (2 ^ 63)) h)
      ∙ ap (λ (z : ℤ). Some (fault.Date z)) most

  -- it is in time
  pub date_fits : last_second names start <ℤ pos (2 ^ 63) → Fits names.start (unsigned_abs (last_second names start)) → date_fault names start ≡ None
  date_fits h fits =
      λ i. answer (lt_true (last_second names start) (pos (2 ^ 63)) h i) (le-leb (civil_after names.start (unsigned_abs (last_second names start))).0 9999 fits i)

  -- it is too late
  pub date_past : (last : ℤ) → last ≡ last_second names start → last_second names start <ℤ pos (2 ^ 63) → (Fits names.start (unsigned_abs (last_second names start)) → ⊥) → date_fault names start ≡ Some (fault.Date last)
  date_past last e h late =
      let most : int_min (last_second names start) (pos 9223372036854775807) ≡ last_second names start = omega (arith, ints, clamps, h) in
      (λ i. answer (lt_true (last_second names start) (pos (2 ^ 63)) h i) (not_leb (civil_after names.start (unsigned_abs (last_second names start))).0 9999 late i))
      ∙ ap (λ (z : ℤ). Some (fault.Date z)) (most ∙ sym e)

  judged : (below fits : Bool) → answer below fits ≡ None → (below ≡ true) × (fits ≡ true)
  judged true true e = (refl, refl)
  judged true false e = absurd (cc)
  judged false fits e = absurd (cc)

  below_true : (x y : ℤ) → int_lt x y ≡ true → x <ℤ y
  below_true x y e = grind (arith, ints)

  -- no fault says so
  pub date_none : date_fault names start ≡ None → (last_second names start <ℤ pos (2 ^ 63)) × Fits names.start (unsigned_abs (last_second names start))
  date_none e =
      let tests = judged (int_lt (last_second names start) (pos (2 ^ 63))) (leb (civil_after names.start (unsigned_abs (last_second names start))).0 9999) e in
      (below_true (last_second names start) (pos (2 ^ 63)) tests.0, leb-true (civil_after names.start (unsigned_abs (last_second names start))).0 9999 tests.1)
