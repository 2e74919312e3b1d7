-- How long coupling steps are at most, and in which of them an action is.
use Rattle.std.proofs.Common.{◌≡◌, ap, ℕ, suc, ◌+◌, ◌-◌, ◌*◌, ◌<◌, ◌≤◌, arith, Bool, true, false, eqb}
use Rattle.std.specs.Prelude.{◌/◌}
use Rattle.std.proofs.lemmas.Bool.{ne_eqb}
use Rattle.cpl_namelist.specs.declared.names.Names.{Names}
use Rattle.cpl_namelist.specs.Ranges.{AreNames}
use Rattle.cpl_wires.specs.declared.parts.Lengths.{Lengths}
use Rattle.cpl_wires.specs.Lengths.{AreShort, step_size, begin_of}
use Rattle.cpl_wires.proofs.Few.{mul_most}

-- the products of a coupling step
pub fasts_few : (names : Names) (lengths : Lengths) → AreNames names → AreShort lengths → names.fast * lengths.fast ≤ 334_080_000
fasts_few names lengths are short = let most = mul_most names.fast 1_000 lengths.fast 334_080 are.fast.1 short.fast in omega arith

pub oceans_few : (names : Names) (lengths : Lengths) → AreNames names → AreShort lengths → names.ocean_steps * lengths.ocean ≤ 33_408_000
oceans_few names lengths are short = let most = mul_most names.ocean_steps 100 lengths.ocean 334_080 are.ocean_steps.1 short.ocean in omega arith

pub size_some : (names : Names) (lengths : Lengths) (first last : Bool) → AreNames names → AreShort lengths → 1 ≤ step_size names lengths first last
size_some names lengths first last are short =
    let fasts : 1 * lengths.fast ≤ names.fast * lengths.fast = mul_most 1 names.fast lengths.fast lengths.fast are.fast.0 (omega arith) in
    let oceans : 1 * lengths.ocean ≤ names.ocean_steps * lengths.ocean = mul_most 1 names.ocean_steps lengths.ocean lengths.ocean are.ocean_steps.0 (omega arith) in
    let some = short.some in omega arith

-- where a coupling step but the first begins
pub begin_is : (names : Names) (lengths : Lengths) (n : ℕ) → begin_of names lengths (n + 1) ≡ step_size names lengths true false + n * step_size names lengths false false
begin_is names lengths n = let same : n + 1 ≡ suc n = omega arith in ap (begin_of names lengths) same

-- BY DIVISION

-- as often as a length goes into a number, or less often
pub times_below : (past size step : ℕ) → 1 ≤ size → step ≤ past / size → step * size ≤ past
times_below past size step some l =
    let most : step * size ≤ past / size * size = mul_most step (past / size) size size l (omega arith) in
    let same : size * (past / size) ≡ past / size * size = omega arith in omega arith

-- what is left is shorter
pub rest_below : (past size step : ℕ) → 1 ≤ size → step ≡ past / size → past - step * size < size
rest_below past size step some is =
    let same : size * (past / size) ≡ past / size * size = omega arith in
    let times : step * size ≡ past / size * size = ap (λ (n : ℕ). n * size) is in omega arith

-- A number past the first coupling step is of the coupling step that division tells, or of the last.
pub place_is : (names : Names) (lengths : Lengths) (m past step : ℕ) → m ≡ step_size names lengths true false + past
    → step * step_size names lengths false false ≤ past → m ≡ begin_of names lengths (step + 1) + (past - step * step_size names lengths false false)
place_is names lengths m past step is l = let begin = begin_is names lengths step in omega arith

pub later_size : (names : Names) (lengths : Lengths) (step : ℕ) → step_size names lengths (eqb (step + 1) 0) false ≡ step_size names lengths false false
later_size names lengths step = ap (λ (first : Bool). step_size names lengths first false) (ne_eqb (step + 1) 0 (omega arith))
