use Rattle.std.proofs.Common.{◌∙◌, arith, ◌+◌, ◌*◌, ◌<◌, ◌≤◌, length}
use Rattle.std.proofs.Math.Nat.{mul-le-mul_left}
use Rattle.std.proofs.lemmas.List.{length-take-le}
use Rattle.cpl_sea.specs.declared.before.Block.{Block}
use Rattle.cpl_sea.specs.declared.blocks.TheConstants.{BLOCK}
use Rattle.cpl_sea.proofs.Left.{left_salty, more_mixed}
use Rattle.cpl_sea.proofs.Moved.{moved_more}
use Rattle.cpl_sea.proofs.Passed.{faces_moved, sides, within}
use Rattle.cpl_sea.proofs.blocks.pass_blocks.Goals as goal

pub leave_block-requires-clause-sides : goal.leave_block-requires-clause-sides
leave_block-requires-clause-sides c = sides c.requires.before c.loop-from.invariant c.loop-from-test.true c.min-width.result (omega arith) (omega arith)

pub leave_block-requires-clause-small : goal.leave_block-requires-clause-small
leave_block-requires-clause-small c = λ layer f l m.
    (faces_moved c.requires.before c.loop-from.invariant c.loop-from-test.true c.move_faces.ensures.moved layer l).small f (omega arith) m

pub mix_block-requires-clause-salty : goal.mix_block-requires-clause-salty
mix_block-requires-clause-salty c =
    let before = c.args.before.now in
    let from = c.loop-from.from in
    let width = c.min-width.result in
    let block : Block = record { from = from; width = width } in
    let few : before.layers * width ≤ before.layers * BLOCK = mul-le-mul_left before.layers (omega arith) in
    let long = c.leave_block.auto.rest ∙ length-take-le (before.layers * width) c.loop-from.rest (omega (arith, few)) in
    left_salty before block (faces_moved c.requires.before c.loop-from.invariant c.loop-from-test.true c.move_faces.ensures.moved)
    (sides c.requires.before c.loop-from.invariant c.loop-from-test.true width (omega arith) (omega arith)) c.leave_block.new.rest
    c.leave_block.ensures long (λ layer n l m. c.requires.left layer (from + n) l (omega arith))

pub loop-from-preserved : goal.loop-from-preserved
loop-from-preserved c =
    let before = c.args.before.now in
    let from = c.loop-from.from in
    let turn = c.loop-from.turn in
    let width = c.min-width.result in
    let block : Block = record { from = from; width = width } in
    let was = c.loop-from.invariant in
    let some : from < length before.heights.now = c.loop-from-test.true in
    let place = was.turns some in
    let is = faces_moved c.requires.before was some c.move_faces.ensures.moved in
    record {
      cells = omega arith;
      turns = λ l. omega (arith, place, l);
      next = λ b l m. c.requires.before.ready.order turn b (omega arith) m;
      links = within c.requires.before was some;
      moves = is;
      range = c.move_faces.ensures.range;
      mixed = more_mixed before block is (sides c.requires.before was some width (omega arith) (omega arith)) c.leave_block.new.rest c.leave_block.ensures
          c.loop-from.water c.loop-from.heat c.loop-from.salt c.mix_block.new.water c.mix_block.new.heat c.mix_block.new.salt
          was.mixed c.mix_block.ensures.mixed c.mix_block.ensures.earlier;
    }

pub returns-clause-faces : goal.returns-clause-faces
returns-clause-faces c = λ layer f l m.
    let links = length c.args.before.now.links.now in
    (moved_more c.args.before.now c.loop-from.done links c.loop-from.invariant.links (omega arith) c.loop-from.invariant.moves c.move_faces-2.ensures.moved layer l).numbers f (omega arith) m
