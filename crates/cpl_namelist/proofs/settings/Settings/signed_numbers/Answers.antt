use Rattle.std.proofs.Common.{pos, rules}
use Rattle.std.proofs.lemmas.List.FromFn.{fill_by_all}
use Rattle.cpl_namelist.specs.Settings.{choices, number}
use Rattle.cpl_namelist.specs.Names.{signed_numbers}
use Rattle.cpl_namelist.proofs.settings.Settings.signed_numbers.Goals as goal

pub returns : goal.returns
unfolding signed_numbers
returns g c = fill_by_all (λ k. pos (number (choices c.args.self.now) c.args.place k)) c.loop-k.numbers g.row.N (pos 0) c.loop-k.invariant.0 (search rules)
