use Rattle.std.proofs.Common.{◌≡◌, ◌≤◌, ◌+◌, ◌-◌, ◌*◌, ◌^◌, take}
use Rattle.std.specs.Prelude.{pos}
use Rattle.cpl_fixed.specs.Totals.{total_of}
use Rattle.cpl_plan.proofs.stocks.total.Given as goal

-- the halves together are the total of the amounts so far, each of which is below 2^63
abbrev pub invariant-loop-amount : goal.invariant-loop-amount
invariant-loop-amount l = record {
  same : pos (l.high * 2 ^ 32 + l.low) ≡ total_of (take l.amount-index l.amounts);
  few_low : l.low ≤ (2 ^ 32 - 1) * l.amount-index;
  few_high : l.high ≤ (2 ^ 31 - 1) * l.amount-index;
}
