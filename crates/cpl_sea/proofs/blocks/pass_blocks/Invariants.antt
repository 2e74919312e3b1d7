use Rattle.std.proofs.Common.{◌-◌, length}
use Rattle.cpl_sea.proofs.Passed.{HasPassed}
use Rattle.cpl_sea.proofs.blocks.pass_blocks.Given as goal

abbrev pub invariant-loop-from : goal.invariant-loop-from
invariant-loop-from l = HasPassed l.before l.turn l.from l.done l.initial.faces l.faces l.initial.flows l.flows l.water l.heat l.salt

abbrev pub decreases-loop-from : goal.decreases-loop-from
decreases-loop-from l = length l.before.heights.now - l.from
