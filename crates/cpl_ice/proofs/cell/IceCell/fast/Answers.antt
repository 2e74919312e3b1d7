use Rattle.std.proofs.Common.{◌≡◌, arith, ◌-◌, suc}
use Rattle.std.proofs.lemmas.Int.{ints}
use Rattle.cpl_ice.proofs.Amounts.{amount_at, with_skin, with_heat, can_skin, can_warm, skin_is, warm_is}
use Rattle.cpl_ice.proofs.cell.IceCell.fast.Goals as goal

pub overflow_add-self-else-k-eq0 : goal.overflow_add-self-else-k-eq0
overflow_add-self-else-k-eq0 c =
    let n = c.args.k - 1 in
    let k : c.args.k ≡ suc (c.args.k - 1) = omega arith in
    let can = can_warm c.args.self.now c.args.k (c.args.k - 1) c.args.gain k c.requires.gain in
    let old = amount_at c.args.self.now.heat (c.args.k - 1) c.requires.cell.heat in
    omega (arith, ints, can.1.0, can.1.1, old.0, old.1)

pub returns-then-k-eq0-clause-value : goal.returns-then-k-eq0-clause-value
returns-then-k-eq0-clause-value c =
    let can = can_skin c.args.self.now c.args.k c.args.gain (omega arith) c.requires.gain in
    skin_is c.args.self.now c.args.k c.args.gain _ _ (omega arith)
    (omega (arith, ints, can.0.0, can.0.1, c.requires.cell.skin.water.0, c.requires.cell.skin.water.1))
    (omega (arith, ints, can.1.0, can.1.1, c.requires.cell.skin.heat.0, c.requires.cell.skin.heat.1))

pub returns-then-k-eq0-clause-cell : goal.returns-then-k-eq0-clause-cell
returns-then-k-eq0-clause-cell c =
    let can = can_skin c.args.self.now c.args.k c.args.gain (omega arith) c.requires.gain in
    let skin = c.requires.cell.skin in
    with_skin c.args.self.now _ c.requires.cell (record {
      water = (omega (arith, ints, can.0.0, can.0.1, skin.water.0, skin.water.1), omega (arith, ints, can.0.0, can.0.1, skin.water.0, skin.water.1));
      heat = (omega (arith, ints, can.1.0, can.1.1, skin.heat.0, skin.heat.1), omega (arith, ints, can.1.0, can.1.1, skin.heat.0, skin.heat.1));
      salt = skin.salt;
    })

pub returns-else-k-eq0-clause-value : goal.returns-else-k-eq0-clause-value
returns-else-k-eq0-clause-value c =
    let k : c.args.k ≡ suc (c.args.k - 1) = omega arith in
    let can = can_warm c.args.self.now c.args.k (c.args.k - 1) c.args.gain k c.requires.gain in
    let old = amount_at c.args.self.now.heat (c.args.k - 1) c.requires.cell.heat in
    warm_is c.args.self.now c.args.k (c.args.k - 1) c.args.gain _ k (omega (arith, ints, can.1.0, can.1.1, old.0, old.1))

pub returns-else-k-eq0-clause-cell : goal.returns-else-k-eq0-clause-cell
returns-else-k-eq0-clause-cell c =
    let k : c.args.k ≡ suc (c.args.k - 1) = omega arith in
    let can = can_warm c.args.self.now c.args.k (c.args.k - 1) c.args.gain k c.requires.gain in
    let old = amount_at c.args.self.now.heat (c.args.k - 1) c.requires.cell.heat in
    with_heat c.args.self.now (c.args.k - 1) _ c.requires.cell
    (omega (arith, ints, can.1.0, can.1.1, old.0, old.1), omega (arith, ints, can.1.0, can.1.1, old.0, old.1))
