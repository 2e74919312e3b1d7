-- The bytes of an air state: a mark, and the sections of heats and vapours.
use Rattle.std.specs.Prelude.{◌≡◌, ℕ, List, ◌++◌, codes, length, Result, Ok, All}
use Rattle.std.specs.Int.{w64}
use Rattle.std.specs.Int.RustNames.{FitsSigned}
use Rattle.cpl_restart.specs.Numbers.{section_bytes}
use Rattle.cpl_state.specs.Stored.{IsStored}
use Rattle.cpl_fixed.specs.Results.{◌>>=◌}
use Rattle.cpl_restart.specs.Sections.{after_mark, section_at, nothing_after, no_negative}
pub use Rattle.cpl_restart.specs.Sections.{Reads}
use Rattle.cpl_state.specs.declared.air.Air.{Air}
use Rattle.cpl_restart.specs.declared.start_error.StartError.{StartError}

-- the first eight bytes of an air state
abbrev pub air_mark : List ℕ
air_mark = codes "CPLAIR01"

-- the one spelling of an air state
abbrev pub air_bytes : Air → List ℕ
air_bytes air = air_mark ++ section_bytes air.heat ++ section_bytes air.vapour

-- an air state of this many cells
pub record IsAir (cells : ℕ) (air : Air) : Type 0 where
  pub heat_length : length air.heat ≡ cells
  pub vapour_length : length air.vapour ≡ cells
  pub heat : All IsStored air.heat
  pub vapour : All IsStored air.vapour

-- as many numbers as cells, each within 64 bits with a sign: what the sections of a file can hold
pub record HasSections (cells : ℕ) (air : Air) : Type 0 where
  pub heat_length : length air.heat ≡ cells
  pub vapour_length : length air.vapour ≡ cells
  pub heat : All (FitsSigned w64) air.heat
  pub vapour : All (FitsSigned w64) air.vapour

-- The air state of this many cells that bytes spell, or their first fault: the mark, then in the order of the file what is
-- missing or of another count, then what stands behind the end, then the first negative number.
unfoldable pub air_of : ℕ → List ℕ → Result Air StartError
air_of cells bytes = do
  sections ← after_mark air_mark bytes
  heat ← section_at 1 cells sections
  vapour ← section_at 2 cells heat.1
  whole ← nothing_after vapour.1
  heat_signs ← no_negative 1 heat.0
  vapour_signs ← no_negative 2 vapour.0
  Ok (record { heat = heat.0; vapour = vapour.0 })
