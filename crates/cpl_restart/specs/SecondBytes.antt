-- The bytes of a restart in version 2, which is the version that is written.
use Rattle.std.specs.Prelude.{ℕ, List}
use Rattle.cpl_restart.specs.RestartBytes.{whole_bytes}
use Rattle.cpl_restart.specs.declared.version.Version.TheVariants.{Second}
use Rattle.cpl_state.specs.declared.whole.Whole.{Whole}

abbrev pub second_bytes : Whole → List ℕ
second_bytes = whole_bytes Second
