use Rattle.std.proofs.Common.{◌+◌, ◌-◌, arith}
use Rattle.cpl_mosaic.specs.Sides.{IsCellOf}
use Rattle.cpl_mosaic.proofs.Places.{tile_in}
use Rattle.cpl_combine.proofs.places.row_start.Goals as goal

pub overflow_add-window : goal.overflow_add-window
overflow_add-window c =
    let tiles = c.args.mosaic.now.tiles in
    let w = c.args.window in
    let north = c.requires.window.north in
    let first : IsCellOf tiles (record { tile = w.tile; i = w.i0; j = w.j0 + c.args.j }) = record { column = omega arith; row = omega arith } in
    let tile = c.cells-cells.ensures.rules.sizes.each w.tile (record { nx = 0; ny = 0 }) (tile_in tiles _ first) in
    let most = tile.ny_most in
    omega arith

pub returns-clause-within : goal.returns-clause-within
returns-clause-within c =
    let tiles = c.args.mosaic.now.tiles in
    let w = c.args.window in
    let last : IsCellOf tiles (record { tile = w.tile; i = w.i0 + w.nx - 1; j = w.j0 + c.args.j }) = record { column = omega arith; row = omega arith } in
    let below = c.cells-cells.ensures.numbers.below _ last in
    let few = c.cells-cells.ensures.rules.sizes.cells in
    omega (arith, c.number.ensures)
