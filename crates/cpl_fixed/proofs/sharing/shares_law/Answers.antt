use Rattle.cpl_fixed.proofs.ShareLaws.{shares_agree}
use Rattle.cpl_fixed.proofs.sharing.shares_law.Goals as goal

pub returns : goal.returns
returns c = shares_agree
