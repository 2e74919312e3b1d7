use Rattle.std.proofs.Common.{ap, arith}
use Rattle.std.proofs.lemmas.Int.{ints}
use Rattle.cpl_fast.specs.declared.flows.Link.{Link}
use Rattle.cpl_fast.proofs.Places.{before_first}
use Rattle.cpl_fast.proofs.flows.Tables.portions.Goals as goal

pub new-requires-clause-from : goal.new-requires-clause-from
new-requires-clause-from c = (before_first c.args.area c.link.result.before c.args.self.now c.args.row c.requires.cell (ap (λ (l : Link). l.before) c.link.ensures)).0

pub new-requires-clause-within : goal.new-requires-clause-within
new-requires-clause-within c = (before_first c.args.area c.link.result.before c.args.self.now c.args.row c.requires.cell (ap (λ (l : Link). l.before) c.link.ensures)).1

pub new-requires-clause-some : goal.new-requires-clause-some
new-requires-clause-some c = let least = c.requires.cell.range.0 in let most = c.requires.cell.range.1 in omega (arith, ints, least, most)
