use Rattle.std.proofs.Common.{sym}
use Rattle.cpl_layout.proofs.Parts.{part_is, in_longer, in_shorter}
use Rattle.cpl_layout.proofs.extents.part_of.Goals as goal

pub returns-then-i-longer-clause-part : goal.returns-then-i-longer-clause-part
returns-then-i-longer-clause-part c =
    let has = in_longer c.args.n c.args.parts c.args.i c.requires.some c.if-i-longer.true in
    sym (part_is c.args.n c.args.parts c.args.i _ has.below has.low has.high)

pub returns-else-i-longer-clause-part : goal.returns-else-i-longer-clause-part
returns-else-i-longer-clause-part c =
    let has = in_shorter c.args.n c.args.parts c.args.i c.requires.some c.requires.enough c.requires.cell c.if-i-longer.false in
    sym (part_is c.args.n c.args.parts c.args.i _ has.below has.low has.high)

pub returns-else-i-longer-clause-within : goal.returns-else-i-longer-clause-within
returns-else-i-longer-clause-within c =
    (in_shorter c.args.n c.args.parts c.args.i c.requires.some c.requires.enough c.requires.cell c.if-i-longer.false).below
