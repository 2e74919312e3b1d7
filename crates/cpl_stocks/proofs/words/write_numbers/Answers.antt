use Rattle.std.proofs.Common.{◌≡◌, ◌∙◌, ◌*◌, ap, sym, arith, rules, get_or, to_z, of_z, w64}
use Rattle.std.specs.Prelude.{pos}
use Rattle.std.specs.Int.{w128}
use Rattle.std.proofs.lemmas.List.{take_all}
use Rattle.cpl_stocks.specs.Partials.{high_word, low_word, words_of_numbers}
use Rattle.cpl_stocks.proofs.PartialWords.{words-nil, wrote_more}
use Rattle.cpl_stocks.proofs.words.write_numbers.Goals as goal

pub loop-i-init : goal.loop-i-init
loop-i-init c = sym words-nil

pub loop-i-preserved : goal.loop-i-preserved
loop-i-preserved c =
    let high : to_z w64 (of_z w64 c.high_word.result) ≡ c.high_word.result = search rules in
    let low : to_z w64 (of_z w64 c.low_word.result) ≡ c.low_word.result = search rules in
    let own : to_z w128 (of_z w128 (get_or c.args.numbers.now c.loop-i.i (pos 0))) ≡ get_or c.args.numbers.now c.loop-i.i (pos 0) = search rules in
    rw (high, low)
    (wrote_more c.args.numbers.now c.loop-i.words c.loop-i.i c.high_word.result c.low_word.result (omega arith) (omega arith) c.loop-i.invariant
    (c.high_word.ensures ∙ ap high_word own) (c.low_word.ensures ∙ ap low_word own))

pub returns : goal.returns
returns c =
    sym (take_all (2 * c.loop-i.i) c.loop-i.words (omega arith)) ∙ c.loop-i.invariant ∙ ap words_of_numbers (take_all c.loop-i.i c.args.numbers.now (omega arith))
