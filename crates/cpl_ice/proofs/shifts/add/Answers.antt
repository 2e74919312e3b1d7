use Rattle.std.proofs.Common.{◌≡◌, ◌∙◌, ap, sym, subst, arith, ℤ, List, ◌+ℤ◌, w64, to_z, of_z}
use Rattle.std.specs.Prelude.{slice_set, All}
use Rattle.std.proofs.Math.ListN.{length-set}
use Rattle.std.proofs.lemmas.Int.{ints}
use Rattle.std.proofs.lemmas.List.Elements.{All-set}
use Rattle.cpl_fixed.specs.Totals.{total_of}
use Rattle.cpl_ice.specs.Cells.{IsAmount}
use Rattle.cpl_ice.specs.Slow.{at}
use Rattle.cpl_ice.proofs.Amounts.{amount_at}
use Rattle.cpl_ice.proofs.Totals.{total_added, at_most_total}
use Rattle.cpl_ice.proofs.shifts.add.Goals as goal

pub overflow_add-xs : goal.overflow_add-xs
overflow_add-xs c =
    let old = amount_at c.args.xs.now c.args.n c.requires.amounts in
    let most = at_most_total c.args.xs.now c.args.n c.requires.amounts in
    omega (arith, ints, old.0, old.1, most, c.requires.least, c.requires.most)

pub returns : goal.returns
returns c =
    let old = amount_at c.args.xs.now c.args.n c.requires.amounts in
    let most = at_most_total c.args.xs.now c.args.n c.requires.amounts in
    let own : to_z w64 (of_z w64 (to_z w64 (of_z w64 (at c.args.xs.now c.args.n)) +ℤ to_z w64 (of_z w64 c.args.x))) ≡ at c.args.xs.now c.args.n +ℤ c.args.x =
    omega (arith, ints, old.0, old.1, most, c.requires.least, c.requires.most) in
    let value = ap (λ (y : ℤ). slice_set c.args.xs.now c.args.n y) own in
    let amount : IsAmount (at c.args.xs.now c.args.n +ℤ c.args.x) = (c.requires.least, omega (arith, ints, most, c.requires.most)) in
    let amounts = All-set IsAmount c.args.xs.now c.args.n (at c.args.xs.now c.args.n +ℤ c.args.x) amount c.requires.amounts in
    let total = total_added c.args.xs.now c.args.n c.args.x c.requires.place in
    record {
      value = value;
      amounts = subst (λ (ys : List ℤ). All IsAmount ys) (sym value) amounts;
      total = ap total_of value ∙ total;
      len = length-set c.args.xs.now c.args.n _;
    }
