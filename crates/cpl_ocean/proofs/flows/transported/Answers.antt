use Rattle.std.proofs.Common.{sym, subst}
use Rattle.cpl_field.specs.Spots.{CellAt}
use Rattle.cpl_transport.specs.Salts.{IsSalty}
use Rattle.cpl_ocean.proofs.flows.transported.Goals as goal

pub without-requires-clause-here : goal.without-requires-clause-here
without-requires-clause-here c = subst IsSalty (sym c.get.ensures) (c.requires.from.salty (CellAt c.args.i c.args.j) c.requires.cell)
