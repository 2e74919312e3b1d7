use Rattle.std.proofs.Common.{◌≡◌, sym, ◌∙◌, ap, subst, List, Option}
use Rattle.std.specs.Prelude.{MatchOption, IfSome}
use Rattle.cpl_mosaic.specs.declared.parts.Tile.{Tile}
use Rattle.cpl_mosaic.specs.Lists.{MosaicLists}
use Rattle.cpl_mosaic.specs.Contacts.{IsMosaic}
use Rattle.cpl_mosaic.specs.Sides.{CellSide, IsCellOf, neighbour}
use Rattle.cpl_mosaic.specs.Table.{place_of}
use Rattle.cpl_mosaic.specs.Mates.{mate_of, Meets, IsWall}
use Rattle.std.proofs.lemmas.List.{get_or_default}
use Rattle.cpl_mosaic.proofs.Places.{tile_in}
use Rattle.cpl_mosaic.proofs.Mates.{mate_meets, mate_inside, mate_read}
use Rattle.cpl_mosaic.proofs.mosaic.Mosaic.mate.Goals as goal

pub returns-in-None : goal.returns-in-None
returns-in-None c =
    let rules = subst (λ (m : MosaicLists). IsMosaic m.tiles m.contacts) c.self.view_is c.self.invariant.mosaic in
    let cell = subst (λ (m : MosaicLists). IsCellOf m.tiles c.args.cell) (sym c.self.view_is) c.requires in
    let tile = c.index.ensures ∙ get_or_default c.self.inside.tiles.items c.args.cell.tile c.index.result.now (record { nx = 0; ny = 0 }) (tile_in c.self.inside.tiles.items c.args.cell cell) in
    let edge = sym (c.in-None.ensures ∙ ap (λ (t : Tile). neighbour t c.args.cell c.args.side) tile) in
    let place = c.place.ensures.place ∙ ap (λ (l : List Tile). place_of l (c.args.cell, c.args.side)) c.deref.ensures.value in
    let mate : c.index-in-None.result.now ≡ mate_of c.args.self.now (c.args.cell, c.args.side) =
    mate_read c.self.inside.tiles.items c.self.inside.contacts.items c.self.inside.table.items (c.args.cell, c.args.side) c.place.result c.index-in-None.result.now c.self.invariant.joined (record { cell = cell; edge = edge }) place c.index-in-None.ensures
    ∙ ap (λ (m : MosaicLists). mate_of m (c.args.cell, c.args.side)) c.self.view_is in
    record {
      mate = mate;
      meets = subst (λ (o : Option CellSide). MatchOption o (IsWall c.args.self.now (c.args.cell, c.args.side)) (Meets c.args.self.now (c.args.cell, c.args.side))) (sym mate) (mate_meets c.args.self.now (c.args.cell, c.args.side) rules c.requires);
      inside = subst (λ (o : Option CellSide). IfSome o (λ met. IsCellOf c.args.self.now.tiles met.0)) (sym mate) (mate_inside c.args.self.now (c.args.cell, c.args.side) rules c.requires);
    }
