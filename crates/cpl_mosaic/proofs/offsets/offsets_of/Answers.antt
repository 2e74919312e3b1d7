use Rattle.std.proofs.Common.{◌≡◌, sym, ◌∙◌, ap, ◌+◌, ◌*◌, arith, List, [], ◌∷◌, ◌++◌, map, take}
use Rattle.std.specs.List.{range_with_len}
use Rattle.std.proofs.lemmas.List.FromFn.{map-range_with_len_more}
use Rattle.cpl_mosaic.specs.declared.parts.Tile.{Tile}
use Rattle.cpl_mosaic.specs.declared.offsets.TileOffset.{TileOffset}
use Rattle.cpl_mosaic.specs.Sides.{tile_at}
use Rattle.cpl_mosaic.specs.Contacts.{cells_of}
use Rattle.cpl_mosaic.specs.Table.{offset_at, sides_of}
use Rattle.cpl_mosaic.proofs.Places.{cells_fit, sides_fit, offset_more}
use Rattle.cpl_mosaic.proofs.offsets.offsets_of.Goals as goal

pub overflow_add-next : goal.overflow_add-next
overflow_add-next c =
    let fit = cells_fit c.args.tiles.now c.loop-tile.tile-index c.requires in
    let cells : c.loop-tile.next.cells ≡ cells_of (take c.loop-tile.tile-index c.args.tiles.now) = ap (λ (s : TileOffset). s.cells) c.loop-tile.invariant.next in
    omega arith

pub overflow_add-next-in-loop-tile-2 : goal.overflow_add-next-in-loop-tile-2
overflow_add-next-in-loop-tile-2 c =
    let fit = sides_fit c.args.tiles.now c.loop-tile.tile-index c.requires c.loop-tile-test.true in
    let sides : c.loop-tile.next.sides ≡ sides_of (take c.loop-tile.tile-index c.args.tiles.now) = ap (λ (s : TileOffset). s.sides) c.loop-tile.invariant.next in
    omega arith

abbrev after : Tile → TileOffset → TileOffset
after tile start = record { cells = start.cells + tile.nx * tile.ny; sides = start.sides + 2 * (tile.nx + tile.ny) }

pub loop-tile-preserved : goal.loop-tile-preserved
loop-tile-preserved c =
    let next : after (tile_at c.args.tiles.now c.loop-tile.tile-index) c.loop-tile.next ≡ offset_at c.args.tiles.now (c.loop-tile.tile-index + 1) =
    ap (after (tile_at c.args.tiles.now c.loop-tile.tile-index)) c.loop-tile.invariant.next ∙ sym (offset_more c.args.tiles.now c.loop-tile.tile-index) in
    record {
      offsets =
          c.in_ok-push-2.ensures.items
          ∙ ap (λ (l : List TileOffset). l ++ after (tile_at c.args.tiles.now c.loop-tile.tile-index) c.loop-tile.next ∷ []) c.loop-tile.invariant.offsets
          ∙ ap (λ (s : TileOffset). map (offset_at c.args.tiles.now) (range_with_len 0 (c.loop-tile.tile-index + 1)) ++ s ∷ []) next
          ∙ sym (map-range_with_len_more (offset_at c.args.tiles.now) 0 (c.loop-tile.tile-index + 1) (c.loop-tile.tile-index + 1) (omega arith));
      next = next;
    }
