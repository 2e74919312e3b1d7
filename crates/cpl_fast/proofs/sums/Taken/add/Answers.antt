use Rattle.cpl_fast.proofs.Small.{wide_sum}
use Rattle.cpl_fast.proofs.sums.Taken.add.Goals as goal

pub returns-clause-value : goal.returns-clause-value
returns-clause-value c =
    let a = c.args.self.now in
    let b = c.args.other.now in
    let heat = wide_sum a.heat b.heat c.requires.small.heat c.requires.other.heat in
    let water = wide_sum a.water b.water c.requires.small.water c.requires.other.water in
    λ i. record { heat = heat i; water = water i }
