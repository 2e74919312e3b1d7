use Rattle.std.proofs.Common.{arith, w64, rules}
use Rattle.std.specs.Int.RustNames.{FitsSigned}
use Rattle.std.proofs.lemmas.Int.{ints}
use Rattle.cpl_xgrid.specs.declared.parts.Surface.TheVariants.{Land}
use Rattle.cpl_xgrid.proofs.Sums.{next_sum}
use Rattle.cpl_xgrid.proofs.rules.area_of.Goals as goal

pub overflow_add-sum : goal.overflow_add-sum
overflow_add-sum c =
    let next = next_sum c.args.land_rows.now c.args.ocean_rows.now c.args.refs.now c.loop-xref.xref-index (record { list = Land; row = 0 }) c.requires.rows c.requires.refs c.loop-xref-test.true in
    let fits : FitsSigned w64 c.area_at-sum.result = search rules in
    omega (arith, ints, fits, next.more, next.least, next.most, c.loop-xref.invariant, c.area_at-sum.ensures)

pub loop-xref-preserved : goal.loop-xref-preserved
loop-xref-preserved c =
    let next = next_sum c.args.land_rows.now c.args.ocean_rows.now c.args.refs.now c.loop-xref.xref-index (record { list = Land; row = 0 }) c.requires.rows c.requires.refs c.loop-xref-test.true in
    let fits : FitsSigned w64 c.area_at-sum.result = search rules in
    omega (arith, ints, fits, next.more, next.least, next.most, c.loop-xref.invariant, c.area_at-sum.ensures)
