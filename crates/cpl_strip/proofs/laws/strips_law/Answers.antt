use Rattle.cpl_strip.proofs.Listed.{strips_agree}
use Rattle.cpl_strip.proofs.laws.strips_law.Goals as goal

pub returns : goal.returns
returns c = strips_agree
