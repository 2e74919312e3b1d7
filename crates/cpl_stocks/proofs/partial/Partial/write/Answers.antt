use Rattle.std.proofs.Common.{◌∙◌, ◌++◌, ap, sym}
use Rattle.cpl_stocks.specs.Partials.{in_rows, words_of_numbers}
use Rattle.cpl_stocks.proofs.PartialWords.{words-append}
use Rattle.cpl_stocks.proofs.partial.Partial.write.Goals as goal

pub returns : goal.returns
returns c =
    let stocks = c.write_numbers.ensures ∙ ap words_of_numbers c.as_flattened.ensures.value in
    let exchanges = c.write_numbers-2.ensures ∙ ap words_of_numbers c.as_flattened-2.ensures.value in
    (λ i. stocks i ++ exchanges i) ∙ sym (words-append (in_rows c.args.self.now.stocks) (in_rows c.args.self.now.exchanges))
