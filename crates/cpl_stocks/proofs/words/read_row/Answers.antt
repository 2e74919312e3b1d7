use Rattle.std.proofs.Common.{◌≡◌, ◌+◌, ◌*◌, ◌∙◌, sym, arith, rules, get_or, to_z, of_z}
use Rattle.std.specs.Prelude.{pos}
use Rattle.std.specs.Int.{w128, w64}
use Rattle.std.proofs.lemmas.List.{length-replicate}
use Rattle.cpl_stocks.specs.Partials.{number_of_words}
use Rattle.cpl_stocks.proofs.PartialWords.{numbers-nil, read_more}
use Rattle.cpl_stocks.proofs.words.read_row.Goals as goal

pub loop-i-init : goal.loop-i-init
loop-i-init g c = record { count = length-replicate g.row.N (pos 0); done = sym numbers-nil }

pub loop-i-preserved : goal.loop-i-preserved
loop-i-preserved g c =
    let fits : to_z w128 (of_z w128 c.number_of_words.result) ≡ c.number_of_words.result = search rules in
    let high : to_z w64 (of_z w64 (get_or c.args.words.now (2 * c.loop-i.i) (pos 0))) ≡ get_or c.args.words.now (2 * c.loop-i.i) (pos 0) = search rules in
    let low : to_z w64 (of_z w64 (get_or c.args.words.now (2 * c.loop-i.i + 1) (pos 0))) ≡ get_or c.args.words.now (2 * c.loop-i.i + 1) (pos 0) = search rules in
    rw fits (record { count = search rules; done = read_more c.args.words.now c.loop-i.row c.loop-i.i c.number_of_words.result (omega arith) (omega arith) c.loop-i.invariant.done (c.number_of_words.ensures ∙ (λ j. number_of_words (high j) (low j))) })
