use Rattle.std.proofs.Common.{refl, sym, subst}
use Rattle.cpl_state.specs.declared.whole.Whole.{Whole}
use Rattle.cpl_whole.specs.Holdings.{Hold}
use Rattle.cpl_whole.proofs.Holds.{hold}
use Rattle.cpl_whole.proofs.journey.Journey.set_out.Goals as goal

pub holdings_of-requires-clause-grid : goal.holdings_of-requires-clause-grid
holdings_of-requires-clause-grid c = c.requires.ground.numbered.rules

pub holdings_of-requires-clause-whole : goal.holdings_of-requires-clause-whole
holdings_of-requires-clause-whole c = c.requires.start

pub returns : goal.returns
returns c = record {
  now = c.in_ok-state.ensures;
  holds = subst (λ (w : Whole). Hold c.args.grid.now w c.holdings_of.result) (sym c.in_ok-state.ensures) (hold c.args.grid.now c.args.start.now c.holdings_of.result c.holdings_of.ensures);
  entered = refl;
  left = refl;
  stocks = refl;
  exchanges = refl;
}
