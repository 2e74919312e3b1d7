use Rattle.std.proofs.Common.{◌∙◌, sym, ap, add-one}
use Rattle.cpl_ice.specs.declared.cell.IceCell.{IceCell}
use Rattle.cpl_ice.specs.Slow.{ridged, ridged_at}
use Rattle.cpl_ice.proofs.cell.IceCell.ridge.Goals as goal

pub loop-n-preserved : goal.loop-n-preserved
loop-n-preserved c =
    let now = c.ridge_at.ensures in
    let past = c.loop-n.invariant in
    let next = ap (λ n. ridged c.args.rates.now c.args.self.now n) (add-one c.loop-n.n) in
    record {
      value = now.value ∙ ap (λ (cell : IceCell). ridged_at c.args.rates.now cell c.loop-n.n) past.value ∙ sym next;
      cell = now.cell;
      water = now.water ∙ past.water;
      heat = now.heat ∙ past.heat;
    }
