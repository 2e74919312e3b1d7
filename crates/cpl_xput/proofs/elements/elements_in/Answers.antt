use Rattle.std.proofs.Common.{◌≡◌, arith, get_or}
use Rattle.cpl_xgrid.specs.declared.parts.XRef.{XRef}
use Rattle.cpl_xgrid.specs.declared.parts.Surface.TheVariants.{Land}
use Rattle.cpl_xput.specs.Exchanges.{elements_on}
use Rattle.cpl_xput.proofs.Counted.{few_elements}
use Rattle.cpl_xput.proofs.elements.elements_in.Goals as goal

pub overflow_add-count : goal.overflow_add-count
overflow_add-count c =
    let d : XRef = record { list = Land; row = 0 } in
    let few = few_elements c.args.categories c.args.refs.now c.loop-xref.xref-index d c.requires.categories c.requires.few c.loop-xref-test.true in
    let so_far = c.loop-xref.invariant in
    let next : c.elements_on-count.result ≡ elements_on c.args.categories (get_or c.args.refs.now c.loop-xref.xref-index d).list = c.elements_on-count.ensures in
    omega arith
