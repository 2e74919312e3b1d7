use Rattle.std.proofs.Common.{◌≡◌, ◌∙◌, sym, ap, arith, get_or}
use Rattle.std.proofs.lemmas.List.{take_all}
use Rattle.cpl_wires.specs.declared.parts.Move.TheVariants.{Posts}
use Rattle.cpl_wires.specs.declared.parts.Purpose.TheVariants.{AirHalo}
use Rattle.cpl_wires.specs.Lengths.{move_length, moves_length}
use Rattle.cpl_wires.proofs.Parted.{moves_more, moves_none}
use Rattle.cpl_wires.proofs.script.moves_length.Goals as goal

pub loop-kind-init : goal.loop-kind-init
loop-kind-init c = record { count = sym (moves_none c.args.edges.now c.args.piece); few = omega arith }

pub loop-kind-preserved : goal.loop-kind-preserved
loop-kind-preserved c =
    let more = moves_more c.args.edges.now c.args.piece c.args.moves.now c.loop-kind.kind-index (Posts AirHalo) c.loop-kind-test.true in
    let next : c.move_length-count.result ≡ move_length c.args.edges.now c.args.piece (get_or c.args.moves.now c.loop-kind.kind-index (Posts AirHalo)) = c.move_length-count.ensures.length in
    let few = c.move_length-count.ensures.few in
    record { count = let so_far = c.loop-kind.invariant.count in omega arith; few = let so_far = c.loop-kind.invariant.few in omega arith }

pub returns-clause-length : goal.returns-clause-length
returns-clause-length c = c.loop-kind.invariant.count ∙ ap (moves_length c.args.edges.now c.args.piece) (take_all c.loop-kind.kind-index c.args.moves.now c.loop-kind-test.false)
