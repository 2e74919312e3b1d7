use Rattle.std.proofs.Common.{◌∙◌, arith, List, []}
use Rattle.std.specs.Prelude.{ℤ, FitsSigned}
use Rattle.std.specs.Int.{w128}
use Rattle.std.proofs.lemmas.List.{get_or-set_other, get_or_read}
use Rattle.cpl_stocks.specs.Partials.{each_sum}
use Rattle.cpl_stocks.proofs.PartialSums.{row_fits, written_more, written_all}
use Rattle.cpl_stocks.proofs.sums.add_rows.Goals as goal

pub add_each-requires-clause-fits : goal.add_each-requires-clause-fits
add_each-requires-clause-fits g c =
    let row = get_or_read c.args.rows.now c.loop-i.i c.index-rows-i.result (omega arith) c.index-rows-i.is [] in
    let old = c.loop-i.invariant.left c.loop-i.i (omega arith) in
    rw (old, row) (row_fits (FitsSigned w128) c.args.sums.now c.args.rows.now c.loop-i.i c.requires.count (omega arith) c.requires.fits)

pub loop-i-preserved : goal.loop-i-preserved
loop-i-preserved g c =
    let row = get_or_read c.args.rows.now c.loop-i.i c.index-rows-i.result (omega arith) c.index-rows-i.is [] in
    let old = c.loop-i.invariant.left c.loop-i.i (omega arith) in
    record {
      done = written_more (λ (p : List ℤ × List ℤ). each_sum p.0 p.1) c.args.sums.now c.args.rows.now c.loop-i.sums c.loop-i.i [] [] _
          (omega arith) (omega arith) (omega arith) c.loop-i.invariant.done (c.add_each.ensures ∙ (λ i. each_sum (old i) (row i)));
      left = λ k h. get_or-set_other c.loop-i.sums c.loop-i.i k _ [] (λ e. omega arith) ∙ c.loop-i.invariant.left k (omega arith);
    }

pub returns : goal.returns
returns g c =
    written_all (λ (p : List ℤ × List ℤ). each_sum p.0 p.1) c.args.sums.now c.args.rows.now c.loop-i.sums c.loop-i.i (omega arith) (omega arith) (omega arith) c.loop-i.invariant.done
