use Rattle.std.proofs.Common.{◌≡◌, ◌∙◌, sym, ap, arith}
use Rattle.std.proofs.lemmas.Int.{ints}
use Rattle.cpl_fixed.specs.Amounts.{amount}
use Rattle.cpl_transport.specs.Moves.{carried, correction}
use Rattle.cpl_transport.proofs.Bounds.{own_amount, own_eighth, read}
use Rattle.cpl_transport.proofs.moves.carried.Goals as goal

pub returns-then-m-eq0-clause-value : goal.returns-then-m-eq0-clause-value
returns-then-m-eq0-clause-value c =
    let none : amount c.args.m ≡ 0 = omega (arith, ints) in
    sym (ap (λ n. carried c.args.here c.args.water n (correction c.args.behind c.args.here c.args.ahead)) none)

pub returns-else-m-eq0-clause-value : goal.returns-else-m-eq0-clause-value
returns-else-m-eq0-clause-value c =
    let water = own_amount c.args.water c.requires.water in
    let here = own_amount c.args.here c.requires.here in
    let behind = own_amount c.args.behind c.requires.behind in
    let ahead = own_amount c.args.ahead c.requires.ahead in
    let m = own_eighth c.args.water c.args.m c.requires.water c.requires.moved in
    let j : read c.correction.result ≡ c.correction.result = omega (arith, ints, c.correction.ensures.small.0, c.correction.ensures.small.1) in
    let r : read c.corrected.result ≡ c.corrected.result = omega (arith, ints) in
    r ∙ c.corrected.ensures.value
    ∙ (λ i. carried (here i) (water i) (amount (m i)) ((j ∙ c.correction.ensures.value) i))
    ∙ (λ i. carried c.args.here c.args.water (amount c.args.m) (correction (behind i) (here i) (ahead i)))
