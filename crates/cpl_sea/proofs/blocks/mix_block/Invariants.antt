use Rattle.std.proofs.Common.{◌≡◌, ℕ, ◌+◌, ◌<◌}
use Rattle.cpl_ice.specs.declared.parts.Salty.{Salty}
use Rattle.cpl_transport.specs.Cells.{mixed_cell}
use Rattle.cpl_sea.specs.Before.{cell_place}
use Rattle.cpl_sea.specs.Passes.{column_at, top_at}
use Rattle.cpl_sea.proofs.blocks.mix_block.Given as goal

abbrev pub invariant-loop-layer : goal.invariant-loop-layer
invariant-loop-layer l = record {
  mixed : (k n : ℕ) → k < l.layer → n < l.block.width
      → ◌≡◌ {A = Salty} (top_at l.water l.heat l.salt (cell_place l.before k (l.block.from + n))) (mixed_cell l.before.mix l.before.layers (column_at l.block.width l.rest n) k);
  earlier : (k n : ℕ) → k < l.before.layers → n < l.block.from
      → ◌≡◌ {A = Salty} (top_at l.water l.heat l.salt (cell_place l.before k n)) (top_at l.initial.water l.initial.heat l.initial.salt (cell_place l.before k n));
}
