use Rattle.std.proofs.Common.{arith}
use Rattle.cpl_layout.proofs.Parts.{start_is, extents_cover}
use Rattle.cpl_layout.proofs.extents.extent.Goals as goal

pub returns-then-p-more-clause-start : goal.returns-then-p-more-clause-start
returns-then-p-more-clause-start c = let start = start_is c.args.n c.args.parts c.args.p in omega arith

pub returns-then-p-more-clause-cover : goal.returns-then-p-more-clause-cover
returns-then-p-more-clause-cover c = extents_cover c.args.n c.args.parts c.requires.some c.requires.enough

pub returns-else-p-more-clause-start : goal.returns-else-p-more-clause-start
returns-else-p-more-clause-start c = let start = start_is c.args.n c.args.parts c.args.p in omega arith

pub returns-else-p-more-clause-cover : goal.returns-else-p-more-clause-cover
returns-else-p-more-clause-cover c = extents_cover c.args.n c.args.parts c.requires.some c.requires.enough
