use Rattle.std.proofs.Common.{sym, arith}
use Rattle.cpl_top.proofs.Texts.{not_four_or_six}
use Rattle.cpl_top.proofs.solo.solo_words.Goals as goal
use Rattle.cpl_top.proofs.solo.solo_words.Goals.{in_default-via-then-arguments-lt4, in_default-via-else-arguments-lt4+else-arguments-lt5+then-arguments-lt6, in_default-via-else-arguments-lt4+else-arguments-lt5+else-arguments-lt6+else-arguments-lt7}

-- neither four words nor six
pub returns-in_default-clause-reads : goal.returns-in_default-clause-reads
returns-in_default-clause-reads c =
    elim c.in_default.branch [
      | in_default-via-then-arguments-lt4 w ↦ sym (not_four_or_six _ _ c.args.arguments.now (grind arith) (grind arith))
      | in_default-via-else-arguments-lt4+else-arguments-lt5+then-arguments-lt6 w ↦ sym (not_four_or_six _ _ c.args.arguments.now (grind arith) (grind arith))
      | in_default-via-else-arguments-lt4+else-arguments-lt5+else-arguments-lt6+else-arguments-lt7 w ↦ sym (not_four_or_six _ _ c.args.arguments.now (grind arith) (grind arith))
    ]
