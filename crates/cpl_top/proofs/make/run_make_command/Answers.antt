use Rattle.std.proofs.Common.{sym, subst}
use Rattle.cpl_top.specs.Replies.{AreApart}
use Rattle.cpl_top.proofs.Made.{inputs_apart}
use Rattle.cpl_top.proofs.make.run_make_command.Goals as goal

pub returns-clause-apart : goal.returns-clause-apart
returns-clause-apart c = subst AreApart (sym c.in_ok-outputs.ensures) (inputs_apart _ _ _ _)
