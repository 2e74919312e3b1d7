use Rattle.std.proofs.Common.{◌≡◌, ◌∙◌, sym, subst, List, [], arith}
use Rattle.std.proofs.lemmas.List.{get_or_read}
use Rattle.cpl_mosaic.specs.declared.parts.Tile.{Tile}
use Rattle.cpl_layout.specs.Owners.{IsPieceOf}
use Rattle.cpl_layout.specs.Pieces.{piece_of}
use Rattle.cpl_field.specs.Spots.{FieldNumbers}
use Rattle.cpl_atmos.specs.Sweeps.{AreAirAreas}
use Rattle.cpl_divided.specs.Fields.{field_at}
use Rattle.cpl_divided.proofs.Next.{areas_are}
use Rattle.cpl_divided.proofs.Built.{built_more}
use Rattle.cpl_divided.proofs.Parts.{IsOver, over}
use Rattle.cpl_divided.proofs.airs.airs_over.Goals as goal

pub new-requires-clause-areas : goal.new-requires-clause-areas
new-requires-clause-areas c =
    let p = c.loop-p.p in
    let count = c.requires.areas.count in
    let field : c.index-areas-p.result ≡ field_at c.args.areas.now p = get_or_read c.args.areas.now p c.index-areas-p.result (omega arith) c.index-areas-p.is (record { nx = 0; ny = 0; width = 0; numbers = [] }) in
    let inside : IsPieceOf c.args.mesh.now.mosaic.tiles (piece_of c.args.layout.now p) = subst (λ (t : List Tile). IsPieceOf t (piece_of c.args.layout.now p)) c.requires.tiles (c.pieces-pieces.ensures.owners.inside p (omega arith)) in
    subst (λ (f : FieldNumbers). AreAirAreas f) (sym field)
    (areas_are c.args.mesh.now c.requires.mesh c.cells-cells.ensures.mates c.cells-cells.ensures.numbers (piece_of c.args.layout.now p) inside (field_at c.args.areas.now p) (c.requires.areas.each p (omega arith)) (c.requires.cells p (omega arith)) (c.requires.holes p (omega arith)))

pub loop-p-preserved : goal.loop-p-preserved
loop-p-preserved c =
    let p = c.loop-p.p in
    let count = c.requires.areas.count in
    let field : c.index-areas-p.result ≡ field_at c.args.areas.now p = get_or_read c.args.areas.now p c.index-areas-p.result (omega arith) c.index-areas-p.is (record { nx = 0; ny = 0; width = 0; numbers = [] }) in
    built_more (IsOver c.args.mesh.now c.args.layout.now) (record { area = record { nx = 0; ny = 0; width = 0; numbers = [] }; values = [] }) p c.loop-p.airs.items c.push.new.self.items c.in_ok-new.field-0 c.loop-p.invariant c.in_ok-push.ensures.items
    (over c.args.mesh.now c.args.layout.now p c.in_ok-new.field-0 (field_at c.args.areas.now p) (c.in_ok-new.ensures.area ∙ field) (c.requires.areas.each p (omega arith)) (c.requires.cells p (omega arith)) (c.requires.holes p (omega arith)))
