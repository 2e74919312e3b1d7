use Rattle.std.proofs.Common.{sym, subst, ℤ, List}
use Rattle.cpl_layout.specs.Pieces.{piece_of}
use Rattle.cpl_field.specs.Spots.{FieldNumbers}
use Rattle.cpl_divided.specs.Fields.{field_at}
use Rattle.cpl_divided.specs.Whole.{HoldWhole, HasHoles}
use Rattle.cpl_divided.proofs.Filled.{joined, still_whole, holes_filled}
use Rattle.cpl_divided.proofs.airs.air_pieces.Goals as goal

pub fill-requires : goal.fill-requires
fill-requires c = let whole = c.in_ok-areas.ensures in joined c.args.mesh.now.mosaic c.args.layout.now c.args.halos.now c.requires.halos c.in_ok-areas.areas.items whole.sized

pub airs_over-requires-clause-cells : goal.airs_over-requires-clause-cells
airs_over-requires-clause-cells c =
    let mosaic = c.args.mesh.now.mosaic in
    let layout = c.args.layout.now in
    let area = c.args.mesh.now.area in
    let loaded : HoldWhole mosaic layout area c.in_ok-areas.areas.items = subst (λ (xs : List ℤ). HoldWhole mosaic layout xs c.in_ok-areas.areas.items) c.as_slice.ensures c.in_ok-areas.ensures in
    let filled = still_whole mosaic layout c.args.halos.now c.requires.halos c.cells-cells.ensures.mates c.pieces-pieces.ensures.owners c.requires.tiles area c.in_ok-areas.areas.items c.fill.new.fields.items loaded c.fill.ensures.fields in
    let whole : HoldWhole mosaic layout area c.deref.result.now = subst (λ (f : List FieldNumbers). HoldWhole mosaic layout area f) (sym c.deref.ensures.value) filled in
    whole.cells

pub airs_over-requires-clause-holes : goal.airs_over-requires-clause-holes
airs_over-requires-clause-holes c =
    let mosaic = c.args.mesh.now.mosaic in
    let layout = c.args.layout.now in
    let area = c.args.mesh.now.area in
    let loaded : HoldWhole mosaic layout area c.in_ok-areas.areas.items = subst (λ (xs : List ℤ). HoldWhole mosaic layout xs c.in_ok-areas.areas.items) c.as_slice.ensures c.in_ok-areas.ensures in
    λ p l.
    subst (λ (f : List FieldNumbers). HasHoles mosaic area (piece_of layout p) (field_at f p)) (sym c.deref.ensures.value)
    (holes_filled mosaic layout c.args.halos.now c.requires.halos c.cells-cells.ensures.mates c.pieces-pieces.ensures.owners c.requires.tiles area c.in_ok-areas.areas.items c.fill.new.fields.items loaded c.fill.ensures.fields p l)
