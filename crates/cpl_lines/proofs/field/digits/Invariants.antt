use Rattle.std.proofs.Common.{◌≡◌, ◌<◌, ◌≤◌, ◌^◌, length}
use Rattle.cpl_lines.specs.Finding.{digits_at}
use Rattle.cpl_lines.proofs.field.digits.Given as goal

abbrev pub invariant-loop-rest : goal.invariant-loop-rest
invariant-loop-rest l = record {
  few : l.count ≤ 19;
  small : l.value < 10 ^ l.count;
  same : digits_at l.count l.value l.rest ≡ digits_at 0 0 l.bytes;
}

abbrev pub decreases-loop-rest : goal.decreases-loop-rest
decreases-loop-rest l = length l.rest
