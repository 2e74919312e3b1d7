-- Tallies of fast steps.
use Rattle.std.specs.Prelude.{ℕ, List, [], ◌∷◌, ℤ, ◌+ℤ◌, FitsSigned}
use Rattle.std.specs.Int.{w128}
use Rattle.cpl_fixed.specs.Amounts.{IsAmount, at}
use Rattle.cpl_namelist.specs.declared.names.Names.{Names}
use Rattle.cpl_xgrid.specs.declared.grid.Grid.{Grid}
use Rattle.cpl_xgrid.specs.declared.parts.Surface.TheVariants.{Land, Ocean}
use Rattle.cpl_state.specs.declared.whole.Whole.{Whole}
use Rattle.cpl_state.specs.declared.whole.Mid.{Mid}
use Rattle.cpl_state.specs.FastStep.{Before, entered, left, gave, took, heat_given, water_given, heat_to_land, water_to_land, heat_to_ice, water_to_ice}
use Rattle.cpl_state.specs.CouplingStep.{month_of, over_fast, taken}
use Rattle.cpl_fast.specs.declared.fast.FastTally.{FastTally}

-- what a fast step moved
abbrev pub tally_of : Before → FastTally
tally_of s = record { entered = entered s; left = left s; gave = gave s; took = took s }

-- what this many fast steps moved together
abbrev pub fast_sums : ℕ → Grid → Names → (month : ℕ) → Mid → FastTally
fast_sums n grid names month mid = record {
  entered = over_fast entered n grid names month mid;
  left = over_fast left n grid names month mid;
  gave = over_fast (λ s. heat_given s Land) n grid names month mid ∷ over_fast (λ s. water_given s Land) n grid names month mid
      ∷ over_fast (λ s. heat_given s Ocean) n grid names month mid ∷ over_fast (λ s. water_given s Ocean) n grid names month mid ∷ [];
  took = over_fast heat_to_land n grid names month mid ∷ over_fast water_to_land n grid names month mid
      ∷ over_fast heat_to_ice n grid names month mid ∷ over_fast water_to_ice n grid names month mid ∷ [];
}

-- what the fast steps of a coupling step moved
abbrev pub all_fast_sums : Grid → Names → Whole → FastTally
all_fast_sums grid names whole = fast_sums names.fast grid names (month_of names whole) (taken grid whole)

-- the sums of four numbers and four others, place by place
abbrev pub each_sum : List ℤ → List ℤ → List ℤ
each_sum a b = (at a 0 +ℤ at b 0) ∷ (at a 1 +ℤ at b 1) ∷ (at a 2 +ℤ at b 2) ∷ (at a 3 +ℤ at b 3) ∷ []

-- two tallies together
abbrev pub both : FastTally → FastTally → FastTally
both a b = record { entered = a.entered +ℤ b.entered; left = a.left +ℤ b.left; gave = each_sum a.gave b.gave; took = each_sum a.took b.took }

-- the first four numbers keep within 128 bits
pub record FitWide (xs : List ℤ) : Type 0 where
  pub first : FitsSigned w128 (at xs 0)
  pub second : FitsSigned w128 (at xs 1)
  pub third : FitsSigned w128 (at xs 2)
  pub fourth : FitsSigned w128 (at xs 3)

-- the heat that entered and left is in range
pub record HasHeat (tally : FastTally) : Type 0 where
  pub entered : IsAmount tally.entered
  pub left : IsAmount tally.left

-- a tally whose numbers keep within those of this machine
pub record IsInRange (tally : FastTally) : Type 0 where
  pub heat : HasHeat tally
  pub gave : FitWide tally.gave
  pub took : FitWide tally.took
