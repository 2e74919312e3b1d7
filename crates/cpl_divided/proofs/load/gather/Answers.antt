use Rattle.std.proofs.Common.{◌≡◌, ◌∙◌, ap, ℕ, pos, [], arith, to_z, of_z, w64}
use Rattle.std.proofs.lemmas.Int.{ints}
use Rattle.std.proofs.lemmas.List.{get_or_read}
use Rattle.cpl_mosaic.specs.declared.parts.CellId.{CellId}
use Rattle.cpl_layout.specs.declared.piece.Piece.{Piece}
use Rattle.cpl_layout.specs.Pieces.{piece_of}
use Rattle.cpl_layout.specs.Owners.{place_in}
use Rattle.cpl_field.specs.Spots.{FieldNumbers, CellAt, number_at}
use Rattle.cpl_divided.specs.Fields.{field_at}
use Rattle.cpl_divided.specs.Whole.{number_in}
use Rattle.cpl_divided.proofs.Built.{built_more}
use Rattle.cpl_divided.proofs.Parts.{IsNumber}
use Rattle.cpl_divided.proofs.load.gather.Goals as goal

pub loop-n-preserved : goal.loop-n-preserved
loop-n-preserved c =
    let count = c.requires.fields.count in
    let p = c.owner-p.result in
    let below = c.owner-p.ensures.within in
    let field : c.index-fields-p.result ≡ field_at c.args.fields.now p = get_or_read c.args.fields.now p c.index-fields-p.result (omega arith) c.index-fields-p.is (record { nx = 0; ny = 0; width = 0; numbers = [] }) in
    let place = place_in c.piece-piece.result c.cell-cell.result in
    let value : to_z w64 (of_z w64 c.get.result) ≡ number_at c.index-fields-p.result (CellAt place.0 place.1) = omega (arith, ints) in
    let read : number_at c.index-fields-p.result (CellAt place.0 place.1) ≡ number_in c.args.layout.now c.args.fields.now c.cell-cell.result =
    ap (λ (f : FieldNumbers). number_at f (CellAt place.0 place.1)) field
    ∙ ap (λ (a : Piece). number_at (field_at c.args.fields.now p) (CellAt (place_in a c.cell-cell.result).0 (place_in a c.cell-cell.result).1)) c.piece-piece.ensures.piece
    ∙ ap (λ (q : ℕ). number_at (field_at c.args.fields.now q) (CellAt (place_in (piece_of c.args.layout.now q) c.cell-cell.result).0 (place_in (piece_of c.args.layout.now q) c.cell-cell.result).1)) c.owner-p.ensures.owner in
    built_more (IsNumber c.args.mosaic.now.tiles c.args.layout.now c.args.fields.now) (pos 0) c.loop-n.n c.loop-n.xs.items c.push.new.self.items (to_z w64 (of_z w64 c.get.result)) c.loop-n.invariant c.in_ok-push.ensures.items
    (value ∙ read ∙ ap (λ (cell : CellId). number_in c.args.layout.now c.args.fields.now cell) c.cell-cell.ensures)
