use Rattle.std.proofs.Common.{◌≡◌, ◌∙◌, ap, ℕ, ◌<◌, arith, length, w64, to_z, of_z}
use Rattle.std.specs.Prelude.{ℤ, pos}
use Rattle.std.proofs.lemmas.Int.{ints}
use Rattle.cpl_fixed.specs.Amounts.{at}
use Rattle.cpl_land.specs.declared.cell.LandCell.{LandCell}
use Rattle.cpl_land.specs.Land.{dried, runoff}
use Rattle.cpl_slow.specs.Land.{cell_of_lists, no_gain}
use Rattle.cpl_slow.proofs.Writes.{written, untouched, word}
use Rattle.cpl_slow.proofs.land.run_off.Goals as goal

pub loop-n-preserved : goal.loop-n-preserved
loop-n-preserved c =
    let n = c.loop-n.n in
    let l : n < length c.args.area.now = omega arith in
    let rates = c.args.rates.now in
    let was = λ (k : ℕ). cell_of_lists c.args.heat.now c.args.water.now c.args.area.now k in
    let lawful = c.requires.cells n l in
    let is = c.loop-n.invariant in
    let read_heat : to_z w64 (of_z w64 (at c.loop-n.heat n)) ≡ at c.args.heat.now n = ap (λ (x : ℤ). to_z w64 (of_z w64 x)) (is.heat_left n (omega arith)) ∙ word _ lawful.heat.0 lawful.heat.1 in
    let read_water : to_z w64 (of_z w64 (at c.loop-n.water n)) ≡ at c.args.water.now n = ap (λ (x : ℤ). to_z w64 (of_z w64 x)) (is.water_left n (omega arith)) ∙ word _ lawful.water.0 lawful.water.1 in
    let read_area : to_z w64 (of_z w64 (at c.args.area.now n)) ≡ at c.args.area.now n = omega (arith, ints, lawful.area.0, lawful.area.1) in
    let same : ◌≡◌ {A = LandCell} (record { heat = to_z w64 (of_z w64 (at c.loop-n.heat n)); water = to_z w64 (of_z w64 (at c.loop-n.water n)); area = to_z w64 (of_z w64 (at c.args.area.now n)) }) (was n) =
    λ i. record { heat = read_heat i; water = read_water i; area = read_area i } in
    let dry : c.slow.new.self ≡ dried rates (was n) = c.slow.ensures.value ∙ ap (dried rates) same in
    let gone : c.slow.result ≡ runoff rates (was n) = c.slow.ensures.runoff ∙ ap (runoff rates) same in
    let heat : to_z w64 (of_z w64 c.slow.new.self.heat) ≡ c.slow.new.self.heat = word _ c.slow.ensures.cell.heat.0 c.slow.ensures.cell.heat.1 in
    let water : to_z w64 (of_z w64 c.slow.new.self.water) ≡ c.slow.new.self.water = word _ c.slow.ensures.cell.water.0 c.slow.ensures.cell.water.1 in
    record {
      heat = written (pos 0) (λ k. (dried rates (was k)).heat) c.loop-n.heat n _ (omega arith) is.heat (heat ∙ ap (λ (cell : LandCell). cell.heat) dry);
      water = written (pos 0) (λ k. (dried rates (was k)).water) c.loop-n.water n _ (omega arith) is.water (water ∙ ap (λ (cell : LandCell). cell.water) dry);
      runoffs = written no_gain (λ k. runoff rates (was k)) c.loop-n.runoffs n _ (omega arith) is.runoffs gone;
      heat_left = untouched (pos 0) (at c.args.heat.now) c.loop-n.heat n _ is.heat_left;
      water_left = untouched (pos 0) (at c.args.water.now) c.loop-n.water n _ is.water_left;
    }
