-- The sun of any month is at most that of the greatest, and the budget holds step by step.
use Rattle.std.proofs.Common.{ℕ, zero, suc, ◌-◌, ◌*◌, ◌≤◌, arith, List, [], ◌∷◌}
use Rattle.std.specs.Prelude.{ℤ, pos, negsuc, ◌*ℤ◌, ◌≤ℤ◌, All}
use Rattle.std.proofs.lemmas.Int.{ints, clamps}
use Rattle.std.proofs.Math.Nat.{mul-le-mul_left}
use Rattle.std.proofs.Math.IntN.{pos-*ℤ-pos}
use Rattle.cpl_fixed.specs.Amounts.{at}
use Rattle.cpl_fixed.specs.Shares.{part_of}
use Rattle.cpl_fixed.proofs.Parts.{part_grows, part_pos}
use Rattle.cpl_namelist.specs.declared.names.Names.{Names}
use Rattle.cpl_namelist.specs.Ranges.{AreNames}
use Rattle.cpl_state.specs.declared.whole.Whole.{Whole}
use Rattle.cpl_state.specs.Stored.{IsStored}
use Rattle.cpl_state.specs.Budget.{greatest, most_sun, sun_of_strength}
use Rattle.cpl_state.specs.SurfaceLaws.{sun_of_step}
use Rattle.cpl_state.specs.CouplingStep.{month_of}
use Rattle.cpl_laws.proofs.Groups.{total_most}
use Rattle.cpl_laws.proofs.Flows.{strength_least}
use Rattle.cpl_laws.proofs.SurfaceKept.{sun_least}

pub greatest_least : (xs : List ℤ) → pos 0 ≤ℤ greatest xs
greatest_least [] = omega (arith, ints)
greatest_least (x ∷ xs) = let h = greatest_least xs in omega (arith, ints, clamps, h)

pub at_most_greatest : (xs : List ℤ) (k : ℕ) → at xs k ≤ℤ greatest xs
at_most_greatest [] k = omega (arith, ints)
at_most_greatest (x ∷ xs) zero = omega (arith, ints, clamps)
at_most_greatest (x ∷ xs) (suc k) = let h = at_most_greatest xs k in omega (arith, ints, clamps, h)

part_more : (x a b : ℤ) → pos 0 ≤ℤ x → pos 0 ≤ℤ a → a ≤ℤ b → part_of x a (pos 1_000) ≤ℤ part_of x b (pos 1_000)
part_more (pos x) (pos a) (pos b) hx ha le =
    let l = part_pos x a 1_000 in
    let r = part_pos x b 1_000 in
    let more = part_grows x a b 1_000 (omega arith) (omega (arith, ints, le)) in
    omega (arith, ints, l, r, more)
part_more (negsuc x) a b hx ha le = absurd (omega (arith, ints, hx))
part_more x (negsuc a) b hx ha le = absurd (omega (arith, ints, ha))
part_more x (pos a) (negsuc b) hx ha le = absurd (omega (arith, ints, le))

pub sun_more : (a b : ℤ) (suns : List ℤ) → pos 0 ≤ℤ a → a ≤ℤ b → All IsStored suns → sun_of_strength a suns ≤ℤ sun_of_strength b suns
sun_more a b suns least le all = total_most (λ sun. part_of sun a (pos 1_000)) (λ sun. part_of sun b (pos 1_000)) suns (λ k d l. part_more _ a b (all k d l).0 least le)

-- a greater sun gives more in as many steps
times_greater : (n : ℕ) (x y : ℤ) → pos 0 ≤ℤ x → x ≤ℤ y → (pos n *ℤ x) ≤ℤ (pos n *ℤ y)
times_greater n (pos x) (pos y) least le =
    let l = pos-*ℤ-pos n x in
    let r = pos-*ℤ-pos n y in
    let more : n * x ≤ n * y = mul-le-mul_left n (omega (arith, ints, le)) in
    omega (arith, ints, l, r, more)
times_greater n (negsuc x) y least le = absurd (omega (arith, ints, least))
times_greater n (pos x) (negsuc y) least le = absurd (omega (arith, ints, le))

module _ (names : Names) (whole : Whole) (are : AreNames names) (suns : All IsStored whole.air_sun) where
  pub most_sun_least : pos 0 ≤ℤ most_sun names whole
  most_sun_least = sun_least (greatest names.rates.month) whole.air_sun (greatest_least names.rates.month) suns

  -- the sun of a coupling step is at most that of as many fast steps in the strongest month
  pub step_sun_most : sun_of_step names whole ≤ℤ (pos names.fast *ℤ most_sun names whole)
  step_sun_most =
      let strength = at names.rates.month (month_of names whole - 1) in
      let least = strength_least names.rates are.rates (month_of names whole - 1) in
      let most = at_most_greatest names.rates.month (month_of names whole - 1) in
      times_greater names.fast (sun_of_strength strength whole.air_sun) (most_sun names whole)
      (sun_least strength whole.air_sun least suns) (sun_more strength (greatest names.rates.month) whole.air_sun least most suns)
