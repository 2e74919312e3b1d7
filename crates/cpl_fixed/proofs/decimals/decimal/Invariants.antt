use Rattle.std.proofs.Common.{◌≡◌, ◌≤◌, drop}
use Rattle.cpl_fixed.specs.Decimals.{value_from}
use Rattle.cpl_fixed.proofs.decimals.decimal.Given as goal

abbrev pub invariant-loop-digit : goal.invariant-loop-digit
invariant-loop-digit l = record { small : l.value ≤ l.most; same : value_from l.value (drop l.digit-index l.digits) ≡ value_from 0 l.digits }
