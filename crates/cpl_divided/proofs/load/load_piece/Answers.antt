use Rattle.std.proofs.Common.{◌∙◌, ap, ◌<◌, pos, get_or, arith}
use Rattle.cpl_field.specs.Spots.{HoleAt}
use Rattle.cpl_divided.proofs.Parts.{row_inside, row_small, loaded_more}
use Rattle.cpl_divided.proofs.load.load_piece.Goals as goal

pub loop-j-init : goal.loop-j-init
loop-j-init c = record {
  field_of = record { nx = c.in_ok-field.ensures.columns; ny = c.in_ok-field.ensures.rows; width = c.in_ok-field.ensures.width };
  cells = λ i k place l. absurd (omega arith);
  holes = λ side k depth on. c.in_ok-field.ensures.zeros (HoleAt side k depth);
}

pub overflow_add-piece : goal.overflow_add-piece
overflow_add-piece c =
    let few = c.requires.few in
    let j : c.loop-j.j < c.args.piece.now.ny = c.loop-j-test.true in
    omega (arith, row_small c.args.mosaic.now.tiles c.args.piece.now c.loop-j.j c.requires.piece c.requires.numbers j)

pub part-requires : goal.part-requires
part-requires c =
    let inside = row_inside c.args.mosaic.now.tiles c.args.piece.now c.loop-j.j c.requires.piece c.requires.numbers c.loop-j-test.true in
    omega (arith, c.number-first.ensures)

pub loop-j-preserved : goal.loop-j-preserved
loop-j-preserved c =
    loaded_more c.args.mosaic.now.tiles c.args.xs.now c.part.result.now c.args.piece.now c.loop-j.j c.loop-j.field c.set_row.new.self c.loop-j-test.true c.loop-j.invariant c.set_row.ensures
    (λ n l. c.part.ensures.each n l ∙ ap (λ m. get_or c.args.xs.now m (pos 0)) (omega (arith, c.number-first.ensures)))
