use Rattle.std.proofs.Common.{◌≡◌, ◌∙◌, ◌+◌, ◌*◌, ◌≤◌, ap, sym, arith, take, length}
use Rattle.std.proofs.Math.Nat.{mul-le-mul_left}
use Rattle.std.proofs.lemmas.List.Elements.{AllWithin-none, AllWithin-more_set}
use Rattle.cpl_stocks.specs.Partials.{numbers_of_words}
use Rattle.cpl_stocks.proofs.PartialWords.{numbers-nil, read_row_more}
use Rattle.cpl_stocks.proofs.words.read_rows.Goals as goal

pub loop-i-init : goal.loop-i-init
loop-i-init g c =
    let none : 0 ≡ 2 * g.row.N * 0 = omega arith in
    record {
      read = sym numbers-nil ∙ ap (λ n. numbers_of_words (take n c.args.words.now)) none;
      numbers = AllWithin-none (λ row. length row ≡ g.row.N) c.args.rows.now 0;
    }

pub loop-i-preserved : goal.loop-i-preserved
loop-i-preserved g c =
    let all : 2 * g.row.N * (c.loop-i.i + 1) ≤ 2 * g.row.N * length c.args.rows.now = mul-le-mul_left (2 * g.row.N) (omega arith) in
    record {
      read = read_row_more c.args.words.now c.loop-i.rows g.row.N c.loop-i.i c.read_row.result (omega arith) (omega arith) c.loop-i.invariant.read c.read_row.ensures.numbers;
      numbers = AllWithin-more_set c.loop-i.rows c.loop-i.i c.read_row.result (omega arith) (λ row. length row ≡ g.row.N) c.loop-i.invariant.numbers c.read_row.ensures.count;
    }
