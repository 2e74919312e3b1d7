use Rattle.std.proofs.Common.{◌≡◌, take}
use Rattle.cpl_fixed.specs.Ranges.{IsFromℤ}
use Rattle.cpl_state.specs.Budget.{greatest}
use Rattle.cpl_plan.proofs.budget.greatest.Given as goal

abbrev pub invariant-loop-number : goal.invariant-loop-number
invariant-loop-number l = record {
  same : l.most ≡ greatest (take l.number-index l.numbers);
  range : IsFromℤ 0 4000 l.most;
}
