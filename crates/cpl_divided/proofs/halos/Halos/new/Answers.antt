use Rattle.std.proofs.Common.{◌≡◌, ◌∙◌, sym, subst, ap, List, length, arith}
use Rattle.cpl_strip.specs.declared.parts.Strip.{Strip}
use Rattle.cpl_divided.specs.Buffers.{AreEnds}
use Rattle.cpl_divided.proofs.Parts.{strips_are, strips_few}
use Rattle.cpl_divided.proofs.halos.Halos.new.Goals as goal

pub new-requires-clause-strips : goal.new-requires-clause-strips
new-requires-clause-strips c = strips_are c.args.mosaic.now c.args.layout.now c.in_ok-strips.strips.items c.in_ok-strips.ensures.links

pub buffers_of-requires-clause-few : goal.buffers_of-requires-clause-few
buffers_of-requires-clause-few c =
    let few = strips_few c.args.mosaic.now c.args.layout.now c.in_ok-strips.strips.items c.in_ok-strips.ensures.links c.pieces-pieces.ensures.rules in
    omega (arith, c.in_ok-ends.ensures.count, ap (λ (l : List Strip). length l) c.deref.ensures.value, c.len.ensures)

pub invariant_of-result : goal.invariant_of-result
invariant_of-result c =
    let few = strips_few c.args.mosaic.now c.args.layout.now c.in_ok-strips.strips.items c.in_ok-strips.ensures.links c.pieces-pieces.ensures.rules in
    let same : c.in_ok-group.group.strips ≡ c.in_ok-strips.strips.items = c.in_ok-group.ensures.strips in
    record {
      few = omega (arith, ap (λ (l : List Strip). length l) same);
      single = c.in_ok-group.ensures.fields;
      joined = subst (λ (l : List Strip). AreEnds l c.in_ok-ends.ends.items) (c.deref.ensures.value ∙ sym same) c.in_ok-ends.ensures;
      carried = c.in_ok-buffers.ensures;
    }
