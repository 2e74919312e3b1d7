use Rattle.cpl_restart.proofs.Spots.{same_cell, next_cell, first_cell}
use Rattle.cpl_restart.proofs.lawful.Spot.next.Goals as goal

pub returns-then-self-width : goal.returns-then-self-width
returns-then-self-width c = λ place is. same_cell c.args.width c.args.cells place c.args.self is c.if-self-width.true

pub returns-then-self-cells : goal.returns-then-self-cells
returns-then-self-cells c = λ place is. next_cell c.args.width c.args.cells place c.args.self is c.requires.within c.if-self-width.false c.if-self-cells.true

pub returns-else-self-cells : goal.returns-else-self-cells
returns-else-self-cells c = λ place is. first_cell c.args.width c.args.cells place c.args.self is c.requires.within c.if-self-width.false c.requires.cell c.if-self-cells.false
