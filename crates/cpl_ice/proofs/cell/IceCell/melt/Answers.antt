use Rattle.std.proofs.Common.{◌∙◌, sym, ap, arith, add-one}
use Rattle.std.proofs.lemmas.Int.{ints}
use Rattle.cpl_ice.specs.declared.cell.IceCell.{IceCell}
use Rattle.cpl_ice.specs.Slow.{melted, melted_at}
use Rattle.cpl_ice.proofs.Totals.{total_least}
use Rattle.cpl_ice.proofs.cell.IceCell.melt.Goals as goal

pub overflow_add-gone : goal.overflow_add-gone
overflow_add-gone c =
    let rest = total_least c.melt_at-melt.new.self.heat c.melt_at-melt.ensures.cell.heat in
    let now = c.melt_at-melt.ensures in
    let past = c.loop-n.invariant in
    omega (arith, ints, rest, now.heat, now.least.1, past.heat, past.least.1, c.requires.bounded.heat)

pub overflow_add-gone-in-loop-n : goal.overflow_add-gone-in-loop-n
overflow_add-gone-in-loop-n c =
    let rest = total_least c.melt_at-melt.new.self.ice c.melt_at-melt.ensures.cell.ice in
    let now = c.melt_at-melt.ensures in
    let past = c.loop-n.invariant in
    omega (arith, ints, rest, now.water, now.least.0, past.water, past.least.0, c.requires.bounded.water)

pub loop-n-preserved : goal.loop-n-preserved
loop-n-preserved c =
    let warm = total_least c.melt_at-melt.new.self.heat c.melt_at-melt.ensures.cell.heat in
    let wet = total_least c.melt_at-melt.new.self.ice c.melt_at-melt.ensures.cell.ice in
    let now = c.melt_at-melt.ensures in
    let past = c.loop-n.invariant in
    let next = ap (λ n. melted c.args.self.now n) (add-one c.loop-n.n) in
    record {
      value = now.value ∙ ap (λ (cell : IceCell). melted_at cell c.loop-n.n) past.value ∙ sym next;
      cell = now.cell;
      water = omega (arith, ints, wet, now.water, now.least.0, past.water, past.least.0, c.requires.bounded.water);
      heat = omega (arith, ints, warm, now.heat, now.least.1, past.heat, past.least.1, c.requires.bounded.heat);
      least = (
        omega (arith, ints, wet, now.water, now.least.0, past.water, past.least.0, c.requires.bounded.water),
        omega (arith, ints, warm, now.heat, now.least.1, past.heat, past.least.1, c.requires.bounded.heat),
      );
    }
