use Rattle.std.proofs.Common.{sym, subst, ◌^◌}
use Rattle.cpl_fast.specs.Sums.{IsSmall}
use Rattle.cpl_fast.proofs.Small.{net_passed, net_small}
use Rattle.cpl_fast.proofs.sums.net_heat.Goals as goal

pub returns-clause-value : goal.returns-clause-value
returns-clause-value c = net_passed c.args.sums.now.heat c.args.sums.now.water c.from.result c.requires.heat c.requires.water c.from.ensures

pub returns-clause-small : goal.returns-clause-small
returns-clause-small c = subst (IsSmall (2 ^ 43)) (sym (returns-clause-value c)) (net_small c.args.sums.now.heat c.args.sums.now.water c.requires.heat c.requires.water)
