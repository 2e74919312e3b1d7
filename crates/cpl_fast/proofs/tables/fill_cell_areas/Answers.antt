use Rattle.std.proofs.Common.{◌≡◌, ◌≢◌, ◌∙◌, rules, sym, ap, subst, arith, ℕ, ◌+◌, ◌<◌, List, length, slice_set, w64, to_z, of_z}
use Rattle.std.specs.Int.RustNames.{FitsSigned}
use Rattle.std.specs.Prelude.{ℤ, pos}
use Rattle.std.proofs.lemmas.Int.{ints}
use Rattle.std.proofs.lemmas.List.{length-set}
use Rattle.cpl_fixed.specs.Amounts.{at}
use Rattle.cpl_fast.specs.Places.{IsEnd, place_in}
use Rattle.cpl_fast.specs.Tables.{area_over}
use Rattle.cpl_fast.proofs.Filling.{all_used, end_passed}
use Rattle.cpl_fast.proofs.Placed.{entry_set_by, entry_within, others_stand}
use Rattle.cpl_fast.proofs.tables.fill_cell_areas.Goals as goal
use Rattle.cpl_fast.proofs.tables.fill_cell_areas.Goals.{then-area-ne0, else-area-ne0}

pub loop-k-preserved : goal.loop-k-preserved
loop-k-preserved c =
    let k = c.loop-k.k in
    let n = c.args.n in
    let cells = c.args.cells in
    let inv = c.loop-k.invariant in
    let sums = c.loop-k.sums in
    let area = to_z w64 (of_z w64 c.part_area-area.result) in
    let fits : FitsSigned w64 c.part_area-area.result = search rules in
    let read : area ≡ c.part_area-area.result = omega (arith, ints, fits) in
    let place = entry_within cells c.args.width n k c.requires.cell (omega arith) in
    let set = ap (λ (p : ℕ). slice_set sums p area) c.place_in.ensures in
    let within : place_in cells n k < length sums = omega (arith, place, inv.count, c.requires.sums) in
    record {
      count = length-set sums c.place_in.result area ∙ inv.count;
      own = subst (λ (xs : List ℤ). (j : ℕ) → j < k + 1 → at xs (place_in cells n j) ≡ area_over c.args.refs.now c.args.areas.now c.args.rows j) (sym set)
          (entry_set_by (λ j x. x ≡ area_over c.args.refs.now c.args.areas.now c.args.rows j) sums cells n k (pos 0) area c.requires.cell within inv.own (read ∙ c.part_area-area.ensures));
      others = subst (λ (xs : List ℤ). (m j : ℕ) → m < cells → m ≢ n → at xs (place_in cells m j) ≡ at c.args.sums.now (place_in cells m j)) (sym set)
          (others_stand sums c.args.sums.now cells n k (pos 0) area c.requires.cell inv.others);
      used = elim c.if-area-ne0.branch [
        | then-area-ne0 w ↦ subst (IsEnd (slice_set sums c.place_in.result area) cells (k + 1) n) (sym w.used-is) (all_used _ cells (k + 1) n)
        | else-area-ne0 w ↦ subst (IsEnd (slice_set sums c.place_in.result area) cells (k + 1) n) (sym w.used-is)
            (subst (λ (xs : List ℤ). IsEnd xs cells (k + 1) n c.loop-k.used) (sym set)
            (end_passed sums cells n k c.loop-k.used area c.requires.cell within (omega (arith, ints, w.if-area-ne0.false)) inv.used))
      ];
    }
