use Rattle.std.proofs.Common.{◌≡◌, ◌+◌, ◌<◌, ◌^◌}
use Rattle.std.specs.Prelude.{All}
use Rattle.std.specs.List.{flat_map, range_with_len}
use Rattle.cpl_combine.specs.Places.{faces_between}
use Rattle.cpl_combine.specs.Windows.{row_start}
use Rattle.cpl_combine.proofs.places.faces_of.Given as goal

abbrev pub invariant-loop-j : goal.invariant-loop-j
invariant-loop-j l = record {
  faces : l.places.items ≡ flat_map (λ j. faces_between l.faces (row_start l.mosaic.tiles l.window j) (row_start l.mosaic.tiles l.window j + l.window.nx)) (range_with_len 0 l.j);
  small : All (λ n. n < 2 ^ 24) l.places.items;
}
