use Rattle.std.proofs.Common.{◌∙◌, ap, subst, sym, arith, length}
use Rattle.std.proofs.lemmas.List.{with_items_is}
use Rattle.cpl_laws.specs.Once.{IsNumbered}
use Rattle.cpl_state.specs.FastStep.{Before}
use Rattle.cpl_fast.specs.Filled.{AreSkies}
use Rattle.cpl_fast.specs.Rooms.{before_step}
use Rattle.cpl_fast.proofs.Looking.{side_in_range, skies_seen}
use Rattle.cpl_fast.proofs.room.FastRoom.look_up.Goals as goal

pub fill_skies-requires-clause-cells : goal.fill_skies-requires-clause-cells
fill_skies-requires-clause-cells c =
    let s : Before = before_step c.args.grid.now c.args.rates.now c.args.month c.args.mid.now in
    let is : IsNumbered c.args.grid.now = record { rules = c.requires.can.grid; air = c.cells-airs.ensures.numbers; land = c.cells-lands.ensures.numbers; ocean = c.cells-oceans.ensures.numbers } in
    let lent = ap length c.deref_mut.ensures.value ∙ c.requires.room.room.skies in
    λ n l. side_in_range s is c.cells-airs.ensures.mates c.requires.can c.as_slice.result.now c.as_slice-2.result.now c.as_slice-3.result.now
    c.as_slice.ensures c.as_slice-2.ensures c.as_slice-3.ensures n (omega (arith, l, lent))

pub returns-clause-skies : goal.returns-clause-skies
returns-clause-skies c =
    let s : Before = before_step c.args.grid.now c.args.rates.now c.args.month c.args.mid.now in
    let is : IsNumbered c.args.grid.now = record { rules = c.requires.can.grid; air = c.cells-airs.ensures.numbers; land = c.cells-lands.ensures.numbers; ocean = c.cells-oceans.ensures.numbers } in
    let lent = ap length c.deref_mut.ensures.value ∙ c.requires.room.room.skies in
    let gone = with_items_is c.args.self.now.skies c.fill_skies.new.skies (omega (arith, c.deref_mut.ensures.len, c.fill_skies.ensures.count)) in
    subst (AreSkies s) (sym gone)
    (skies_seen s is c.cells-airs.ensures.mates c.requires.can c.as_slice.result.now c.as_slice-2.result.now c.as_slice-3.result.now
    c.as_slice.ensures c.as_slice-2.ensures c.as_slice-3.ensures
    c.fill_skies.new.skies (c.fill_skies.ensures.count ∙ lent) (λ n l. c.fill_skies.ensures.value n (omega (arith, l, lent))))
