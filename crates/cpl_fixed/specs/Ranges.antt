-- Ranges of numbers, and those that rates keep.
use Rattle.std.specs.Prelude.{ℕ, ◌≤◌, ℤ, pos, ◌≤ℤ◌}
use Rattle.std.specs.List.{AllByRecursion}
use Rattle.cpl_fixed.specs.declared.rates.Rates.{Rates}

-- from low to high
abbrev pub IsFrom : ℕ → ℕ → ℕ → Type 0
IsFrom low high n = (low ≤ n) × (n ≤ high)

-- a signed number
abbrev pub IsFromℤ : ℕ → ℕ → ℤ → Type 0
IsFromℤ low high n = (pos low ≤ℤ n) × (n ≤ℤ pos high)

-- the rates are in their ranges
pub record AreRates (rates : Rates) : Type 0 where
  pub ca : IsFromℤ 1 1_048_576 rates.ca
  pub kh : IsFromℤ 0 1_048_576 rates.kh
  pub ke : IsFromℤ 0 1_048_576 rates.ke
  pub hs : IsFromℤ 0 1_048_576 rates.hs
  pub ko : IsFromℤ 0 131_072 rates.ko
  pub rc : IsFromℤ 0 1_048_576 rates.rc
  pub month : AllByRecursion (IsFromℤ 0 4_000) rates.month
  pub cl : IsFromℤ 1 1_048_576 rates.cl
  pub cap : IsFromℤ 0 1_048_576 rates.cap
  pub land_albedo : IsFromℤ 0 1_000 rates.land_albedo
  pub h0 : IsFromℤ 1 1_048_576 rates.h0
  pub bounds : AllByRecursion (IsFromℤ 1 1_048_576) rates.bounds
  pub ice_albedo : IsFromℤ 0 1_000 rates.ice_albedo
  pub water_albedo : IsFromℤ 0 1_000 rates.water_albedo
  pub slope : IsFrom 0 40 rates.slope
  pub mix : IsFrom 2 40 rates.mix
