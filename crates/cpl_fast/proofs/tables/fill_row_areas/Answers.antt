use Rattle.std.proofs.Common.{◌≡◌, ◌≢◌, ◌∙◌, rules, sym, ap, subst, ℕ, ◌+◌, ◌<◌, arith, List, length, take, slice_set, w64, to_z, of_z}
use Rattle.std.specs.Int.RustNames.{FitsSigned}
use Rattle.std.specs.Prelude.{ℤ, pos, ◌+ℤ◌, slice_index_or}
use Rattle.std.proofs.lemmas.Int.{ints}
use Rattle.std.proofs.lemmas.List.{length-set, take_all}
use Rattle.cpl_fixed.specs.Amounts.{at}
use Rattle.cpl_fixed.specs.Shares.{share}
use Rattle.cpl_fixed.specs.Totals.{total_of}
use Rattle.cpl_fixed.specs.declared.limits.TheConstants.{PARTS}
use Rattle.cpl_fixed.proofs.ShareLaws.{total_more}
use Rattle.cpl_fast.specs.Places.{IsEnd, place_in}
use Rattle.cpl_fast.proofs.Filling.{all_used, end_passed}
use Rattle.cpl_fast.proofs.Machine.{front_most}
use Rattle.cpl_fast.proofs.Placed.{entry_set_by, entry_within, others_stand}
use Rattle.cpl_fast.proofs.tables.fill_row_areas.Goals as goal
use Rattle.cpl_fast.proofs.tables.fill_row_areas.Goals.{then-area-ne0, else-area-ne0}

pub next-area-requires-clause-within : goal.next-area-requires-clause-within
next-area-requires-clause-within c =
    let k = c.loop-k.k in
    let parts = c.args.parts.now in
    let fits : FitsSigned w64 (slice_index_or c.args.parts.now c.loop-k.k (pos 0)) = search rules in
    let least = c.requires.natural k (pos 0) (omega arith) in
    let more = total_more parts k (omega arith) in
    let most = front_most parts (k + 1) (length parts) c.requires.natural (omega arith) (omega arith) in
    let all = ap total_of (take_all (length parts) parts (omega arith)) in
    let whole = c.requires.whole in
    let from = c.loop-k.invariant.from in
    let weights = c.loop-k.invariant.whole in
    omega (arith, ints, fits, least, more, most, all, whole, from, weights)

pub loop-k-preserved : goal.loop-k-preserved
loop-k-preserved c =
    let k = c.loop-k.k in
    let parts = c.args.parts.now in
    let rows = c.args.rows in
    let row = c.args.row in
    let areas = c.loop-k.areas in
    let inv = c.loop-k.invariant in
    let area = to_z w64 (of_z w64 c.next-area.result) in
    let fits : FitsSigned w64 (slice_index_or c.args.parts.now c.loop-k.k (pos 0)) = search rules in
    let weight : to_z w64 (of_z w64 (at parts k)) ≡ at parts k = omega (arith, ints, fits) in
    let more = total_more parts k (omega arith) in
    let from = inv.from in
    let to : c.loop-k.portions.from +ℤ to_z w64 (of_z w64 (at parts k)) ≡ total_of (take (k + 1) parts) = omega (arith, ints, weight, more, from) in
    let own : c.next-area.result ≡ share (to_z w64 (of_z w64 c.args.row_area)) (total_of (take k parts)) (total_of (take (k + 1) parts)) PARTS =
    c.next-area.ensures.value ∙ (λ i. share (inv.amount i) (from i) (to i) (inv.whole i)) in
    let read : area ≡ c.next-area.result = (let r = c.next-area.ensures.range in omega (arith, ints, r.0, r.1)) in
    let place = entry_within rows (length parts) row k c.requires.row (omega arith) in
    let set = ap (λ (p : ℕ). slice_set areas p area) c.place_in.ensures in
    let within : place_in rows row k < length areas = omega (arith, place, inv.count, c.requires.areas) in
    let f = λ (j : ℕ). share (to_z w64 (of_z w64 c.args.row_area)) (total_of (take j parts)) (total_of (take (j + 1) parts)) PARTS in
    record {
      portions = c.next-area.ensures.portions;
      amount = c.next-area.ensures.amount ∙ inv.amount;
      whole = c.next-area.ensures.whole ∙ inv.whole;
      from = c.next-area.ensures.from ∙ to;
      count = length-set areas c.place_in.result area ∙ inv.count;
      own = subst (λ (xs : List ℤ). (j : ℕ) → j < k + 1 → at xs (place_in rows row j) ≡ f j) (sym set)
          (entry_set_by (λ j x. x ≡ f j) areas rows row k (pos 0) area c.requires.row within inv.own (read ∙ own));
      others = subst (λ (xs : List ℤ). (r j : ℕ) → r < rows → r ≢ row → at xs (place_in rows r j) ≡ at c.args.areas.now (place_in rows r j)) (sym set)
          (others_stand areas c.args.areas.now rows row k (pos 0) area c.requires.row inv.others);
      used = elim c.if-area-ne0.branch [
        | then-area-ne0 w ↦ subst (IsEnd (slice_set areas c.place_in.result area) rows (k + 1) row) (sym w.used-is) (all_used _ rows (k + 1) row)
        | else-area-ne0 w ↦ subst (IsEnd (slice_set areas c.place_in.result area) rows (k + 1) row) (sym w.used-is)
            (subst (λ (xs : List ℤ). IsEnd xs rows (k + 1) row c.loop-k.used) (sym set)
            (end_passed areas rows row k c.loop-k.used area c.requires.row within (omega (arith, ints, w.if-area-ne0.false)) inv.used))
      ];
    }
