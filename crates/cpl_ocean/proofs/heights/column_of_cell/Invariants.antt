use Rattle.std.proofs.Common.{◌≡◌}
use Rattle.cpl_field.specs.Spots.{CellAt, number_at}
use Rattle.cpl_transport.specs.Mixing.{sum_of}
use Rattle.cpl_ocean.specs.Layers.{layer_at}
use Rattle.cpl_ocean.proofs.heights.column_of_cell.Given as goal

abbrev pub invariant-loop-l : goal.invariant-loop-l
invariant-loop-l l = l.sum ≡ sum_of l.l (λ k. number_at (layer_at l.layers k).fields.water (CellAt l.i l.j))
