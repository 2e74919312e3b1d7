use Rattle.std.proofs.Common.{◌≡◌, length}
use Rattle.cpl_mkx.specs.Rules.{rises}
use Rattle.cpl_mkx.proofs.judge.rises.Given as goal

-- those so far rise
abbrev pub invariant-loop-rest : goal.invariant-loop-rest
invariant-loop-rest l = rises l.rest ≡ rises l.edges

abbrev pub decreases-loop-rest : goal.decreases-loop-rest
decreases-loop-rest l = length l.rest
