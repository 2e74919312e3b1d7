use Rattle.std.proofs.Common.{◌≡◌, ◌≤◌, ◌*◌, ◌^◌, take}
use Rattle.std.specs.Prelude.{pos}
use Rattle.cpl_state.specs.Budget.{sun_of_strength}
use Rattle.cpl_plan.proofs.budget.sun_of_strength.Given as goal

-- the sun so far; that of a cell is at most 4 times its greatest number
abbrev pub invariant-loop-sun : goal.invariant-loop-sun
invariant-loop-sun l = record {
  same : pos l.total ≡ sun_of_strength l.strength (take l.sun-index l.suns);
  small : l.total ≤ 2 ^ 65 * l.sun-index;
}
