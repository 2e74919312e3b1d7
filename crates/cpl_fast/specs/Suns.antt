-- The sun that the elements of a list absorb.
use Rattle.std.specs.Prelude.{ℕ, ℤ, pos, ◌+ℤ◌, ◌-ℤ◌}
use Rattle.cpl_fixed.specs.Shares.{part_of, share}
use Rattle.cpl_fixed.specs.declared.rates.Rates.{Rates}
use Rattle.cpl_xgrid.specs.declared.parts.Surface.{Surface}
use Rattle.cpl_state.specs.FastStep.{albedo}
use Rattle.cpl_fast.specs.declared.flows.Flow.{Flow}
use Rattle.cpl_fast.specs.declared.flows.Tables.{Tables}
use Rattle.cpl_fast.specs.Flows.{area_in, before_in}

-- what an element absorbs, from a cell of the air with this sun and this area
unfoldable pub sun_in : Rates → Surface → (sun area : ℤ) → Tables → (row k : ℕ) → ℤ
sun_in rates list sun area tables row k =
    part_of (share sun (before_in tables row k) (before_in tables row k +ℤ area_in tables row k) area) (pos 1_000 -ℤ albedo rates list k) (pos 1_000)

-- nothing flows but the sun
abbrev pub only_sun : ℤ → Flow
only_sun sun = record { heat = pos 0; water = pos 0; sun = sun; rain = pos 0 }
