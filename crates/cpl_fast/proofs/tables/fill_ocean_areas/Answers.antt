use Rattle.std.proofs.Common.{◌≡◌, ◌∙◌, ap, subst, ℕ, ◌+◌, ◌*◌, arith, length, take, w64, to_z, of_z}
use Rattle.std.specs.Prelude.{ℤ, pos}
use Rattle.std.proofs.lemmas.Int.{ints}
use Rattle.std.proofs.lemmas.List.{length-set}
use Rattle.cpl_fixed.specs.Shares.{share}
use Rattle.cpl_fixed.specs.Totals.{total_of}
use Rattle.cpl_fixed.specs.declared.limits.TheConstants.{PARTS}
use Rattle.cpl_xgrid.specs.Indexes.{no_row}
use Rattle.cpl_fast.specs.Flows.{link_at}
use Rattle.cpl_fast.specs.Places.{IsEnd}
use Rattle.cpl_fast.specs.Tables.{parts_of, row_in}
use Rattle.cpl_fast.proofs.Filling.{ends_more}
use Rattle.cpl_fast.proofs.Making.{block_long}
use Rattle.cpl_fast.proofs.Placed.{items_more_by}
use Rattle.cpl_fast.proofs.tables.fill_ocean_areas.Goals as goal

pub loop-m-preserved : goal.loop-m-preserved
loop-m-preserved c =
    let rows = c.args.rows.now in
    let links = c.args.links.now in
    let parts = c.args.parts.now in
    let width = c.args.width in
    let m = c.loop-m.m in
    let inv = c.loop-m.invariant in
    let next = c.fill_row_areas.new.areas in
    let own = parts_of links parts width m in
    let long : length own ≡ width = block_long ((link_at links m).surface * width) width parts (c.requires.places m c.loop-m-test.true) in
    let range = c.requires.ranges m no_row c.loop-m-test.true in
    let read : to_z w64 (of_z w64 (row_in rows m).area) ≡ (row_in rows m).area = omega (arith, ints, range.0, range.1) in
    record {
      count = c.fill_row_areas.ensures.count ∙ inv.count;
      used_count = length-set c.loop-m.used m c.fill_row_areas.result ∙ inv.used_count;
      done = items_more_by (λ n k x. x ≡ share (row_in rows n).area (total_of (take k (parts_of links parts width n))) (total_of (take (k + 1) (parts_of links parts width n))) PARTS)
          c.loop-m.areas next (length rows) width m (pos 0) c.loop-m-test.true inv.done
          (λ k l. c.fill_row_areas.ensures.value k (omega (arith, l, long)) ∙ ap (λ (a : ℤ). share a (total_of (take k own)) (total_of (take (k + 1) own)) PARTS) read)
          c.fill_row_areas.ensures.others;
      ends = ends_more c.loop-m.areas next c.loop-m.used (length rows) width m c.fill_row_areas.result c.loop-m-test.true (omega (arith, inv.used_count)) inv.ends
          (subst (λ (w : ℕ). IsEnd next (length rows) w m c.fill_row_areas.result) long c.fill_row_areas.ensures.used)
          c.fill_row_areas.ensures.others;
    }
