use Rattle.std.proofs.Common.{◌≡◌, ◌∙◌, sym, arith, get_or}
use Rattle.cpl_wires.specs.declared.parts.Move.TheVariants.{Posts}
use Rattle.cpl_wires.specs.declared.parts.Purpose.TheVariants.{AirHalo}
use Rattle.cpl_wires.specs.Lengths.{move_length}
use Rattle.cpl_wires.proofs.Parted.{moves_more, moves_none}
use Rattle.cpl_wires.proofs.Reached.{among_moves, none_among}
use Rattle.cpl_wires.proofs.script.stop_among.Goals as goal

pub loop-kind-init : goal.loop-kind-init
loop-kind-init c = let none = moves_none c.args.edges.now c.args.piece in omega arith

pub loop-kind-preserved : goal.loop-kind-preserved
loop-kind-preserved c =
    let more = moves_more c.args.edges.now c.args.piece c.args.moves.now c.loop-kind.kind-index (Posts AirHalo) c.loop-kind-test.true in
    let next : c.move_length-length.result ≡ move_length c.args.edges.now c.args.piece (get_or c.args.moves.now c.loop-kind.kind-index (Posts AirHalo)) = c.move_length-length.ensures.length in
    omega arith

pub returns-then-rest-length : goal.returns-then-rest-length
returns-then-rest-length c =
    let edges = c.args.edges.now in
    let moves = c.args.moves.now in
    let i = c.loop-kind.kind-index in
    let next : c.move_length-length.result ≡ move_length edges c.args.piece (get_or moves i (Posts AirHalo)) = c.move_length-length.ensures.length in
    c.stop_of.ensures
    ∙ sym (among_moves edges c.args.piece c.args.step c.args.sub c.args.m i c.loop-kind.rest moves (Posts AirHalo) c.loop-kind-test.true (omega arith) c.loop-kind.invariant)

pub returns : goal.returns
returns c =
    sym (none_among c.args.edges.now c.args.piece c.args.step c.args.sub c.args.m c.loop-kind.kind-index c.loop-kind.rest c.args.moves.now c.loop-kind-test.false c.loop-kind.invariant)
