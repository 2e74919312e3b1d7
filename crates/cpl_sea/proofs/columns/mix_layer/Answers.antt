use Rattle.std.proofs.Common.{◌∙◌, ap, arith, rules, ℕ, ◌+◌, ◌*◌, ◌<◌, FitsSigned, w64, pos, length}
use Rattle.std.proofs.lemmas.Int.{to_z-of_z}
use Rattle.cpl_ice.specs.declared.parts.Salty.{Salty}
use Rattle.cpl_transport.specs.Cells.{mixed_cell}
use Rattle.cpl_sea.specs.Passes.{column_at}
use Rattle.cpl_sea.proofs.Rows.{place_below}
use Rattle.cpl_sea.proofs.Writes.{written, written_before, written_behind}
use Rattle.cpl_sea.proofs.columns.mix_layer.Goals as goal

pub loop-n-preserved : goal.loop-n-preserved
loop-n-preserved c =
    let n = c.loop-n.n in
    let before = c.args.before.now in
    let layer = c.args.layer in
    let width = c.args.block.width in
    let begin = layer * length before.heights.now + c.args.block.from in
    let cell = c.mixed_cell-cell.result in
    let next : ℕ → Salty = λ k. mixed_cell before.mix before.layers (column_at width c.args.rest.now k) layer in
    let water_fits : FitsSigned w64 cell.water = search rules in
    let heat_fits : FitsSigned w64 cell.heat = search rules in
    let salt_fits : FitsSigned w64 cell.salt = search rules in
    let water = to_z-of_z w64 cell.water water_fits ∙ ap (λ (s : Salty). s.water) c.mixed_cell-cell.ensures in
    let heat = to_z-of_z w64 cell.heat heat_fits ∙ ap (λ (s : Salty). s.heat) c.mixed_cell-cell.ensures in
    let salt = to_z-of_z w64 cell.salt salt_fits ∙ ap (λ (s : Salty). s.salt) c.mixed_cell-cell.ensures in
    let below = place_below before.layers (length before.heights.now) layer (c.args.block.from + n) c.requires.layer (omega arith) in
    let in_water : begin + n < length c.loop-n.water = omega (arith, below) in
    let in_heat : begin + n < length c.loop-n.heat = omega (arith, below) in
    let in_salt : begin + n < length c.loop-n.salt = omega (arith, below) in
    record {
      water = written (pos 0) c.loop-n.water begin n _ in_water (λ k. (next k).water) water c.loop-n.invariant.water;
      heat = written (pos 0) c.loop-n.heat begin n _ in_heat (λ k. (next k).heat) heat c.loop-n.invariant.heat;
      salt = written (pos 0) c.loop-n.salt begin n _ in_salt (λ k. (next k).salt) salt c.loop-n.invariant.salt;
      water_before = written_before (pos 0) c.loop-n.water begin n _ in_water c.args.water.now c.loop-n.invariant.water_before;
      water_behind = written_behind (pos 0) c.loop-n.water begin n _ in_water c.args.water.now c.loop-n.invariant.water_behind;
      heat_before = written_before (pos 0) c.loop-n.heat begin n _ in_heat c.args.heat.now c.loop-n.invariant.heat_before;
      heat_behind = written_behind (pos 0) c.loop-n.heat begin n _ in_heat c.args.heat.now c.loop-n.invariant.heat_behind;
      salt_before = written_before (pos 0) c.loop-n.salt begin n _ in_salt c.args.salt.now c.loop-n.invariant.salt_before;
      salt_behind = written_behind (pos 0) c.loop-n.salt begin n _ in_salt c.args.salt.now c.loop-n.invariant.salt_behind;
    }
