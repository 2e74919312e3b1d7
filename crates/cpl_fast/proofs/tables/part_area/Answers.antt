use Rattle.std.proofs.Common.{◌∙◌, ap, arith, w64, rules, ℕ, List, slice_index_or}
use Rattle.std.specs.Int.RustNames.{FitsSigned}
use Rattle.std.specs.Prelude.{pos}
use Rattle.std.proofs.lemmas.Int.{ints}
use Rattle.std.proofs.lemmas.List.{take_all}
use Rattle.cpl_xgrid.specs.declared.parts.XRef.{XRef}
use Rattle.cpl_xgrid.specs.declared.parts.Surface.TheVariants.{Land}
use Rattle.cpl_fast.specs.Tables.{area_over}
use Rattle.cpl_fast.proofs.Machine.{next_part}
use Rattle.cpl_fast.proofs.tables.part_area.Goals as goal

pub overflow_add-sum : goal.overflow_add-sum
unfolding area_over
overflow_add-sum c =
    let d : XRef = record { list = Land; row = 0 } in
    let next = next_part c.args.refs.now c.args.areas.now c.args.rows c.args.k c.loop-xref.xref-index d c.requires.part c.requires.reach c.requires.least c.loop-xref-test.true in
    let fits : FitsSigned w64 (slice_index_or c.args.areas.now c.place_in.result (pos 0)) = search rules in
    let read = ap (λ (p : ℕ). slice_index_or c.args.areas.now p (pos 0)) c.place_in.ensures in
    omega (arith, ints, fits, read, next.more, next.least, next.most, c.loop-xref.invariant, c.requires.most)

pub loop-xref-preserved : goal.loop-xref-preserved
unfolding area_over
loop-xref-preserved c =
    let d : XRef = record { list = Land; row = 0 } in
    let next = next_part c.args.refs.now c.args.areas.now c.args.rows c.args.k c.loop-xref.xref-index d c.requires.part c.requires.reach c.requires.least c.loop-xref-test.true in
    let fits : FitsSigned w64 (slice_index_or c.args.areas.now c.place_in.result (pos 0)) = search rules in
    let read = ap (λ (p : ℕ). slice_index_or c.args.areas.now p (pos 0)) c.place_in.ensures in
    omega (arith, ints, fits, read, next.more, next.least, next.most, c.loop-xref.invariant, c.requires.most)

pub returns : goal.returns
unfolding area_over
returns c =
    c.loop-xref.invariant
    ∙ ap (λ (refs : List XRef). area_over refs c.args.areas.now c.args.rows c.args.k) (take_all c.loop-xref.xref-index c.args.refs.now (omega (arith, c.loop-xref-test.false)))
