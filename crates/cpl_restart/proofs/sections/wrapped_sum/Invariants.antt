use Rattle.std.proofs.Common.{◌≡◌, ◌∷◌, take}
use Rattle.cpl_restart.specs.Sections.{wrapped_sum}
use Rattle.cpl_restart.proofs.sections.wrapped_sum.Given as goal

abbrev pub invariant-loop-number : goal.invariant-loop-number
invariant-loop-number l = l.sum ≡ wrapped_sum (l.first ∷ take l.number-index l.others)
