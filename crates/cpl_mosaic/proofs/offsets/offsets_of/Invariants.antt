use Rattle.std.proofs.Common.{◌≡◌, ◌+◌, map}
use Rattle.std.specs.List.{range_with_len}
use Rattle.cpl_mosaic.specs.Table.{offset_at}
use Rattle.cpl_mosaic.proofs.offsets.offsets_of.Given as goal

abbrev pub invariant-loop-tile : goal.invariant-loop-tile
invariant-loop-tile l = record {
  offsets : l.offsets.items ≡ map (offset_at l.tiles) (range_with_len 0 (l.tile-index + 1));
  next : l.next ≡ offset_at l.tiles l.tile-index;
}
