use Rattle.std.proofs.Common.{◌≡◌, ◌∙◌, ◌++◌, ap, sym, arith, length}
use Rattle.std.proofs.lemmas.List.{take-append-drop}
use Rattle.cpl_stocks.specs.Partials.{numbers_of_words}
use Rattle.cpl_stocks.proofs.PartialWords.{numbers-append}
use Rattle.cpl_stocks.proofs.partial.Partial.read.Goals as goal

pub returns-clause-numbers : goal.returns-clause-numbers
returns-clause-numbers c =
    let stocks = c.split_at.result.0.now in
    let exchanges = c.split_at.result.1.now in
    let front = c.split_at.ensures.front in
    let back = c.split_at.ensures.back in
    (λ i. c.read_rows.ensures.numbers i ++ c.read_rows-2.ensures.numbers i)
    ∙ sym (numbers-append 24 stocks exchanges (omega arith))
    ∙ ap numbers_of_words ((λ i. front i ++ back i) ∙ take-append-drop 48 c.args.words.now)

pub returns-clause-shape : goal.returns-clause-shape
returns-clause-shape c =
    let stocks : length c.zero-partial.result.stocks ≡ 3 = omega arith in
    let exchanges : length c.zero-partial.result.exchanges ≡ 15 = omega arith in
    record {
      stocks = record { rows = c.read_rows.ensures.rows.rows ∙ stocks; numbers = c.read_rows.ensures.rows.numbers };
      exchanges = record { rows = c.read_rows-2.ensures.rows.rows ∙ exchanges; numbers = c.read_rows-2.ensures.rows.numbers };
    }
