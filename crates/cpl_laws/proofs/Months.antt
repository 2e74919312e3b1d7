-- The month of a coupling step is one of the twelve.
use Rattle.std.proofs.Common.{◌+◌, ◌-◌, arith}
use Rattle.std.specs.Prelude.{unsigned_abs}
use Rattle.std.proofs.lemmas.Int.{ints}
use Rattle.cpl_fixed.specs.Ranges.{IsFrom}
use Rattle.cpl_namelist.specs.declared.names.Names.{Names}
use Rattle.cpl_namelist.specs.Civil.{part, days_after}
use Rattle.cpl_namelist.specs.Ranges.{AreNames}
use Rattle.cpl_namelist.proofs.Months.{found_from}
use Rattle.cpl_state.specs.declared.whole.Whole.{Whole}
use Rattle.cpl_state.specs.CouplingStep.{month_of}

pub month_range : (names : Names) (whole : Whole) → AreNames names → IsFrom 1 12 (month_of names whole)
unfolding month_of
month_range names whole are =
    let month = are.start.date.1 in
    let found = found_from (part names.start 0) (part names.start 1) (part names.start 2 - 1 + days_after names.start (unsigned_abs whole.elapsed)) (omega (arith, ints, month.0)) (omega (arith, ints, month.1)) in
    (found.month_low, found.month_high)
