-- The counts of steps are in their ranges, and the steps fill their times.
use Rattle.std.proofs.Common.{◌≡◌, ℕ, zero, suc, ◌*◌, ◌/◌, ◌%◌, ◌<◌, ◌≤◌, Bool, true, false, cond, Some, None, Result, Ok, Err, refl, sym, ap, subst, ◌∙◌, arith}
use Rattle.std.specs.Prelude.{◌&&◌, nat_le, nat_lt, ◌==◌}
use Rattle.std.proofs.lemmas.Bool.{leb-true, ltb-true, eqb-true}
use Rattle.cpl_fixed.specs.Results.{◌>>=◌}
use Rattle.cpl_fixed.specs.declared.limits.TheConstants.{MOST_FAST_STEPS, MOST_OCEAN_STEPS, MOST_STEPS}
use Rattle.cpl_namelist.specs.declared.fault.NamesError.{NamesError}
use Rattle.cpl_namelist.specs.declared.fault.NamesError.TheVariants as fault
use Rattle.cpl_namelist.specs.declared.fault.StepFault.{StepFault}
use Rattle.cpl_namelist.specs.declared.fault.StepFault.TheVariants as step
use Rattle.cpl_namelist.specs.declared.names.StepCounts.{StepCounts}
use Rattle.cpl_namelist.specs.Names.{divided, need, at_most, steps_of}
use Rattle.cpl_namelist.specs.Ranges.{IsFrom}
use Rattle.cpl_namelist.proofs.Given.{both}

need_ok : (s : StepFault) (part whole n : ℕ) → 1 ≤ whole → need s (divided part whole) ≡ Ok n → 1 ≤ n
need_ok s part whole n some e = by_test (nat_lt 0 part && whole % part == 0) refl e
  where
    positive : (part whole q : ℕ) → 1 ≤ whole → 0 < part → whole % part ≡ 0 → whole / part ≡ q → 1 ≤ q
    positive part whole zero some lt rest is = let none : part * (whole / part) ≡ part * 0 = ap (λ (n : ℕ). part * n) is in absurd (omega (arith, none, rest))
    positive part whole (suc q) some lt rest is = omega arith

    by_test : (b : Bool) → (nat_lt 0 part && whole % part == 0) ≡ b → need s (cond b (Some (whole / part)) None) ≡ Ok n → 1 ≤ n
    by_test true is e =
        let t = both (nat_lt 0 part) (whole % part == 0) is in
        let same : whole / part ≡ n = cc in
        positive part whole n some (ltb-true 0 part t.0) (eqb-true (whole % part) 0 t.1) same
    by_test false is e = absurd cc

-- a part that divides a whole fills it
need_fills : (s : StepFault) (part whole n : ℕ) → need s (divided part whole) ≡ Ok n → n * part ≡ whole
need_fills s part whole n e = by_test (nat_lt 0 part && whole % part == 0) refl e
  where
    by_test : (b : Bool) → (nat_lt 0 part && whole % part == 0) ≡ b → need s (cond b (Some (whole / part)) None) ≡ Ok n → n * part ≡ whole
    by_test true is e =
        let t = both (nat_lt 0 part) (whole % part == 0) is in
        let same : whole / part ≡ n = cc in
        let some = ltb-true 0 part t.0 in
        let none = eqb-true (whole % part) 0 t.1 in
        let all : part * (whole / part) ≡ part * n = ap (λ (n : ℕ). part * n) same in
        omega (arith, some, none, all)
    by_test false is e = absurd cc

most_ok : (s : StepFault) (limit n m : ℕ) → at_most s limit n ≡ Ok m → (n ≡ m) × (n ≤ limit)
most_ok s limit n m e = by_test (nat_le n limit) refl e
  where
    by_test : (b : Bool) → nat_le n limit ≡ b → cond b (Ok n) (Err (fault.Step s)) ≡ Ok m → (n ≡ m) × (n ≤ limit)
    by_test true is e = (cc, leb-true n limit is)
    by_test false is e = absurd cc

-- counts of steps are in their ranges and fill their times
pub record AreSteps (atmos cpld slow run : ℕ) (s : StepCounts) : Type 0 where
  pub fast : IsFrom 1 MOST_FAST_STEPS s.fast
  pub ocean : IsFrom 1 MOST_OCEAN_STEPS s.ocean
  pub count : s.count ≤ MOST_STEPS
  pub fast_fills : s.fast * atmos ≡ cpld
  pub ocean_fills : s.ocean * slow ≡ cpld
  pub count_fills : s.count * cpld ≡ run

abbrev made : ℕ → ℕ → ℕ → StepCounts
made f o c = record { fast = f; ocean = o; count = c }

abbrev done_steps : StepCounts → Result StepCounts NamesError
done_steps s = Ok s

ok_steps : (a b : StepCounts) → done_steps a ≡ done_steps b → a ≡ b
ok_steps a b e = cc

three_ok : (a b c : Result ℕ NamesError) (f : ℕ → ℕ → ℕ → Result StepCounts NamesError) (s : StepCounts) → (a >>= λ x. b >>= λ y. c >>= λ z. f x y z) ≡ Ok s
    → (x : ℕ) × (y : ℕ) × (z : ℕ) × (a ≡ Ok x) × (b ≡ Ok y) × (c ≡ Ok z) × (f x y z ≡ Ok s)
three_ok (Ok x) (Ok y) (Ok z) f s e = (x, y, z, refl, refl, refl, e)
three_ok (Ok x) (Ok y) (Err d) f s e = absurd cc
three_ok (Ok x) (Err d) c f s e = absurd cc
three_ok (Err d) b c f s e = absurd cc

pub steps_in : (atmos cpld ocean run : ℕ) (s : StepCounts) → 1 ≤ cpld → steps_of atmos cpld ocean run ≡ Ok s → AreSteps atmos cpld ocean run s
steps_in atmos cpld ocean run s some e =
    let a = three_ok (need step.Atmos (divided atmos cpld)) (need step.Ocean (divided ocean cpld)) (need step.Run (divided cpld run))
    (λ f o c. at_most step.FastCount MOST_FAST_STEPS f >>= λ few. at_most step.OceanCount MOST_OCEAN_STEPS o >>= λ some. at_most step.Count MOST_STEPS c >>= λ steps. Ok (made few some steps)) s e in
    let b = three_ok (at_most step.FastCount MOST_FAST_STEPS a.0) (at_most step.OceanCount MOST_OCEAN_STEPS a.1) (at_most step.Count MOST_STEPS a.2) (λ f o c. Ok (made f o c)) s a.6 in
    let f = most_ok step.FastCount MOST_FAST_STEPS a.0 b.0 b.3 in
    let o = most_ok step.OceanCount MOST_OCEAN_STEPS a.1 b.1 b.4 in
    let c = most_ok step.Count MOST_STEPS a.2 b.2 b.5 in
    let fast = need_ok step.Atmos atmos cpld a.0 some a.3 in
    let slow = need_ok step.Ocean ocean cpld a.1 some a.4 in
    let same : made b.0 b.1 b.2 ≡ s = ok_steps (made b.0 b.1 b.2) s b.6 in
    subst (AreSteps atmos cpld ocean run) {x = made b.0 b.1 b.2} same (record {
      fast = (omega (arith, f, fast), omega (arith, f));
      ocean = (omega (arith, o, slow), omega (arith, o));
      count = omega (arith, c);
      fast_fills = ap (λ (n : ℕ). n * atmos) (sym f.0) ∙ need_fills step.Atmos atmos cpld a.0 a.3;
      ocean_fills = ap (λ (n : ℕ). n * ocean) (sym o.0) ∙ need_fills step.Ocean ocean cpld a.1 a.4;
      count_fills = ap (λ (n : ℕ). n * cpld) (sym c.0) ∙ need_fills step.Run cpld run a.2 a.5;
    })
