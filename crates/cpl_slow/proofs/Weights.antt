-- The weights of outlets are small.
use Rattle.std.proofs.Common.{Bool, true, false, cond, ℕ, zero, suc, ◌*◌, arith, List, [], ◌∷◌, take}
use Rattle.std.specs.Prelude.{ℤ, pos, ◌≤ℤ◌, All}
use Rattle.std.proofs.lemmas.Int.{ints}
use Rattle.std.proofs.lemmas.List.Elements.{All-tail}
use Rattle.cpl_fixed.specs.Ranges.{IsFromℤ}
use Rattle.cpl_fixed.specs.declared.limits.TheConstants.{MOST_WEIGHT}
use Rattle.cpl_mosaic.specs.declared.parts.CellId.{CellId}
use Rattle.cpl_mosaic.specs.Sides.{is_same_cell}
use Rattle.cpl_xgrid.specs.declared.parts.Outlet.{Outlet}
use Rattle.cpl_laws.proofs.Weights.{measured_first}
use Rattle.cpl_state.specs.Slow.{weights_of}

-- weights of outlets are in range
abbrev pub HasWeight : Outlet → Type 0
HasWeight outlet = IsFromℤ 0 MOST_WEIGHT outlet.weight

cond_most : (b : Bool) (x : ℤ) → x ≤ℤ pos MOST_WEIGHT → cond b x (pos 0) ≤ℤ pos MOST_WEIGHT
cond_most true x h = h
cond_most false x h = omega (arith, ints)

-- the first ones of a land cell weigh no more than this
pub weights_most : (cell : CellId) (outlets : List Outlet) → All HasWeight outlets → (k : ℕ) → weights_of cell (take k outlets) ≤ℤ pos (1048576 * k)
weights_most cell outlets each zero = omega (arith, ints)
weights_most cell [] each (suc k) = omega (arith, ints)
weights_most cell (outlet ∷ outlets) each (suc k) =
    let first = measured_first (λ (outlet : Outlet). is_same_cell outlet.land cell) (λ (outlet : Outlet). outlet.weight) outlet (take k outlets) in
    let own = cond_most (is_same_cell outlet.land cell) outlet.weight (each 0 outlet (omega arith)).1 in
    let rest = weights_most cell outlets (All-tail HasWeight outlet outlets each) k in
    omega (arith, ints, first, own, rest)
