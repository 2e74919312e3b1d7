use Rattle.std.proofs.Common.{◌≡◌, ◌∙◌, ap, arith, rules, get_or, to_z, of_z}
use Rattle.std.specs.Prelude.{ℤ, pos, ◌+ℤ◌, FitsSigned}
use Rattle.std.specs.Int.{w128}
use Rattle.std.proofs.lemmas.Int.{to_z-of_z}
use Rattle.std.proofs.lemmas.List.{get_or-set_other}
use Rattle.cpl_stocks.proofs.PartialSums.{each_fits, written_more, written_all}
use Rattle.cpl_stocks.proofs.sums.add_each.Goals as goal

-- the sum at this place fits
fits : (c : goal.After-sums-in-loop-i-1) → FitsSigned w128 (get_or c.loop-i.sums c.loop-i.i (pos 0) +ℤ get_or c.args.numbers.now c.loop-i.i (pos 0))
fits c =
    rw (c.loop-i.invariant.left c.loop-i.i (omega arith))
    (each_fits (FitsSigned w128) c.args.sums.now c.args.numbers.now c.loop-i.i c.requires.count (omega arith) c.requires.fits)

pub overflow_add-sums : goal.overflow_add-sums
overflow_add-sums c =
    let own : to_z w128 (of_z w128 (get_or c.loop-i.sums c.loop-i.i (pos 0))) ≡ get_or c.loop-i.sums c.loop-i.i (pos 0) = search rules in
    let other : to_z w128 (of_z w128 (get_or c.args.numbers.now c.loop-i.i (pos 0))) ≡ get_or c.args.numbers.now c.loop-i.i (pos 0) = search rules in
    rw (own, other) (fits c)

pub loop-i-preserved : goal.loop-i-preserved
loop-i-preserved c =
    let own : to_z w128 (of_z w128 (get_or c.loop-i.sums c.loop-i.i (pos 0))) ≡ get_or c.loop-i.sums c.loop-i.i (pos 0) = search rules in
    let other : to_z w128 (of_z w128 (get_or c.args.numbers.now c.loop-i.i (pos 0))) ≡ get_or c.args.numbers.now c.loop-i.i (pos 0) = search rules in
    let old = c.loop-i.invariant.left c.loop-i.i (omega arith) in
    let sum = to_z-of_z w128 _ (fits c) in
    rw (own, other, sum) (record {
      done = written_more (λ (p : ℤ × ℤ). p.0 +ℤ p.1) c.args.sums.now c.args.numbers.now c.loop-i.sums c.loop-i.i (pos 0) (pos 0) _
          (omega arith) (omega arith) (omega arith) c.loop-i.invariant.done (ap (λ (x : ℤ). x +ℤ get_or c.args.numbers.now c.loop-i.i (pos 0)) old);
      left = λ k h. get_or-set_other c.loop-i.sums c.loop-i.i k _ (pos 0) (λ e. omega arith) ∙ c.loop-i.invariant.left k (omega arith);
    })

pub returns : goal.returns
returns c =
    written_all (λ (p : ℤ × ℤ). p.0 +ℤ p.1) c.args.sums.now c.args.numbers.now c.loop-i.sums c.loop-i.i (omega arith) (omega arith) (omega arith) c.loop-i.invariant.done
