use Rattle.std.proofs.Common.{◌≡◌, ◌∙◌, ap, arith, inl, inr, ℕ, ◌+◌, ◌*◌, length}
use Rattle.std.proofs.lemmas.Bool.{cases_lt}
use Rattle.cpl_ice.specs.declared.parts.Salty.{Salty}
use Rattle.cpl_transport.specs.Cells.{mixed_cell}
use Rattle.cpl_sea.specs.Before.{cell_place}
use Rattle.cpl_sea.specs.Passes.{column_at, top_at}
use Rattle.cpl_sea.proofs.Rows.{later_row, one_more, place_below}
use Rattle.cpl_sea.proofs.blocks.mix_block.Goals as goal

pub loop-layer-preserved : goal.loop-layer-preserved
loop-layer-preserved c =
    let before = c.args.before.now in
    let count = length before.heights.now in
    let from = c.args.block.from in
    let width = c.args.block.width in
    let layer = c.loop-layer.layer in
    let water = c.mix_layer.new.water in
    let heat = c.mix_layer.new.heat in
    let salt = c.mix_layer.new.salt in
    let mixes = c.mix_layer.ensures in
    let is = c.loop-layer.invariant in
    let within = c.requires.block in
    let place : ℕ → ℕ → ℕ = cell_place before in
    record {
      mixed = λ k n l m. one_more
          (λ k. ◌≡◌ {A = Salty} (top_at water heat salt (place k (from + n))) (mixed_cell before.mix before.layers (column_at width c.args.rest.now n) k)) layer
          (λ k less.
          let below = place_below layer count k (from + n) less (omega arith) in
          mixes.earlier (place k (from + n)) (omega (arith, below)) ∙ is.mixed k n less m)
          (mixes.mixed n m) k l;
      earlier = λ k n l m.
          let same : ◌≡◌ {A = Salty} (top_at water heat salt (place k n)) (top_at c.loop-layer.water c.loop-layer.heat c.loop-layer.salt (place k n)) =
          elim (cases_lt layer k) [
            | inl behind ↦ let far = later_row count layer k (from + width) n behind within in mixes.later (place k n) (omega (arith, far))
            | inr most ↦ elim (cases_lt k layer) [
              | inl less ↦ let below = place_below layer count k n less (omega arith) in mixes.earlier (place k n) (omega (arith, below))
              | inr ge ↦
                  let own : layer ≡ k = omega arith in
                  let row : layer * count ≡ k * count = ap (λ i. i * count) own in
                  mixes.earlier (place k n) (omega (arith, row))
            ]
          ] in
          same ∙ is.earlier k n l m;
    }
