use Rattle.std.proofs.Common.{arith, ◌≡◌, ap, get_or, take}
use Rattle.cpl_mosaic.specs.declared.offsets.TileOffset.{TileOffset}
use Rattle.cpl_mosaic.specs.Table.{sides_of}
use Rattle.cpl_mosaic.proofs.Places.{tile_in, count_offsets, offset_read, place_below, sides_small}
use Rattle.cpl_mosaic.proofs.offsets.place.Goals as goal

pub bounds-offsets-t : goal.bounds-offsets-t
bounds-offsets-t c =
    let count = count_offsets c.args.tiles.now c.args.offsets.now c.requires.offsets in
    let tile = tile_in c.args.tiles.now c.args.cell c.requires.cell in
    omega arith

pub overflow_add-result : goal.overflow_add-result
overflow_add-result c =
    let tile = tile_in c.args.tiles.now c.args.cell c.requires.cell in
    let before : (get_or c.args.offsets.now c.args.cell.tile (record { cells = 0; sides = 0 })).sides ≡ sides_of (take c.args.cell.tile c.args.tiles.now) =
    ap (λ (s : TileOffset). s.sides) (offset_read c.args.tiles.now c.args.offsets.now c.args.cell.tile (record { cells = 0; sides = 0 }) c.requires.offsets (omega arith)) in
    let below = place_below c.args.tiles.now (c.args.cell, c.args.side) c.requires.cell in
    let small = sides_small c.args.tiles.now c.requires.sizes.each in
    omega arith

pub returns-clause-place : goal.returns-clause-place
returns-clause-place c =
    let tile = tile_in c.args.tiles.now c.args.cell c.requires.cell in
    let before : (get_or c.args.offsets.now c.args.cell.tile (record { cells = 0; sides = 0 })).sides ≡ sides_of (take c.args.cell.tile c.args.tiles.now) =
    ap (λ (s : TileOffset). s.sides) (offset_read c.args.tiles.now c.args.offsets.now c.args.cell.tile (record { cells = 0; sides = 0 }) c.requires.offsets (omega arith)) in
    omega arith

pub returns-clause-within : goal.returns-clause-within
returns-clause-within c =
    let tile = tile_in c.args.tiles.now c.args.cell c.requires.cell in
    let before : (get_or c.args.offsets.now c.args.cell.tile (record { cells = 0; sides = 0 })).sides ≡ sides_of (take c.args.cell.tile c.args.tiles.now) =
    ap (λ (s : TileOffset). s.sides) (offset_read c.args.tiles.now c.args.offsets.now c.args.cell.tile (record { cells = 0; sides = 0 }) c.requires.offsets (omega arith)) in
    let below = place_below c.args.tiles.now (c.args.cell, c.args.side) c.requires.cell in
    omega arith
