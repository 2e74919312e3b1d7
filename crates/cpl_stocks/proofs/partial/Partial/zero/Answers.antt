use Rattle.std.proofs.Common.{refl}
use Rattle.cpl_stocks.specs.Partials.{no_sums}
use Rattle.cpl_stocks.proofs.partial.Partial.zero.Goals as goal

pub returns : goal.returns
unfolding no_sums
returns c = refl
