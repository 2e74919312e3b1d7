use Rattle.std.proofs.Common.{◌∙◌, arith}
use Rattle.std.proofs.lemmas.Int.{ints}
use Rattle.cpl_fast.proofs.Parts.{amount_passed}
use Rattle.cpl_fast.proofs.air.warmed.Goals as goal

pub returns-clause-value : goal.returns-clause-value
returns-clause-value c =
    let range = c.gained.ensures.range in
    let value = c.gained.ensures.value in
    let net = c.requires.net in
    let n = net.0 in let m = net.1 in
    let from = c.from.ensures in
    amount_passed c.gained.result range ∙ omega (arith, ints, value, from)
