use Rattle.std.proofs.Common.{ap, subst, arith, length}
use Rattle.cpl_xgrid.specs.Grids.{IsGrid}
use Rattle.cpl_wires.specs.Settings.{Setting, IsSetting}
use Rattle.cpl_wires.proofs.Carried.{carried_few}
use Rattle.cpl_wires.proofs.shared.Shared.count.Goals as goal

pub returns-clause-few : goal.returns-clause-few
returns-clause-few c =
    let few = carried_few c.args.self.now (subst IsSetting c.self.view_is c.self.invariant.lawful) (subst (λ (s : Setting). IsGrid s.grid) c.self.view_is c.self.invariant.grid) c.args.purpose c.args.from c.args.to in
    let long = ap length c.carried.ensures in omega (arith, few, long)
