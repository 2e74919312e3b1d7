use Rattle.std.proofs.Common.{◌≡◌, ◌++◌, ◌∷◌, [], get_or, codes, rules}
use Rattle.cpl_mosaic.specs.declared.parts.Tile.{Tile}
use Rattle.cpl_lines.specs.Lines.{line_text, row}
use Rattle.cpl_gridfile.proofs.PrintedLines.{tiles_begin, one_tile, tile_room, tiles_end, tiles_text, rows_text}
use Rattle.cpl_gridfile.proofs.print.print_tiles.Goals as goal

pub loop-tile-init : goal.loop-tile-init
loop-tile-init c = tiles_begin c.args.tiles.now c.args.text.now.items c.args.areas.now c.requires

none : Tile
none = record { nx = 0; ny = 0 }

pub print_rows-requires : goal.print_rows-requires
unfolding none
print_rows-requires c =
    tile_room c.args.tiles.now c.loop-tile.tile-index none (c.args.text.now.items ++ tiles_text c.args.tiles.now c.args.areas.now) c.loop-tile.text.items c.loop-tile.rest.now
    c.loop-tile-test.true c.loop-tile.invariant

pub split_at-requires : goal.split_at-requires
unfolding none
split_at-requires c =
    tile_room c.args.tiles.now c.loop-tile.tile-index none (c.args.text.now.items ++ tiles_text c.args.tiles.now c.args.areas.now) c.loop-tile.text.items c.loop-tile.rest.now
    c.loop-tile-test.true c.loop-tile.invariant

pub loop-tile-preserved : goal.loop-tile-preserved
unfolding none
loop-tile-preserved c =
    let tile : Tile = get_or c.args.tiles.now c.loop-tile.tile-index none in
    let first : c.print_row.new.text.items ≡ c.loop-tile.text.items ++ line_text (row (codes "tile") (tile.nx ∷ tile.ny ∷ [])) = search rules in
    let rows : c.print_rows.new.text.items ≡ c.print_row.new.text.items ++ rows_text tile.nx tile.ny c.loop-tile.rest.now = search rules in
    rw c.split_at.ensures.back
    (one_tile c.args.tiles.now c.loop-tile.tile-index none (c.args.text.now.items ++ tiles_text c.args.tiles.now c.args.areas.now) c.loop-tile.text.items
    c.print_row.new.text.items c.print_rows.new.text.items c.loop-tile.rest.now c.loop-tile-test.true c.loop-tile.invariant first rows)

pub returns : goal.returns
returns c =
    tiles_end c.args.tiles.now c.loop-tile.tile-index (c.args.text.now.items ++ tiles_text c.args.tiles.now c.args.areas.now) c.loop-tile.text.items c.loop-tile.rest.now
    c.loop-tile-test.false c.loop-tile.invariant
