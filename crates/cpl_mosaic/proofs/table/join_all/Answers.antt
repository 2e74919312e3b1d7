use Rattle.std.proofs.Common.{sym, ◌∙◌, ap}
use Rattle.cpl_mosaic.specs.declared.parts.MosaicError.TheVariants.{ContactTwice}
use Rattle.cpl_mosaic.specs.Contacts.{as_fault}
use Rattle.cpl_mosaic.proofs.Twice.{next_at, joined_taken, joined_clash, joined_more}
use Rattle.cpl_mosaic.proofs.table.join_all.Goals as goal

pub returns-then-is_taken-clause-broken : goal.returns-then-is_taken-clause-broken
returns-then-is_taken-clause-broken c =
    ap (as_fault ContactTwice) (sym (joined_taken c.args.tiles.now c.args.contacts.now c.loop-n.n _ c.loop-n.table (next_at c.args.tiles.now c.args.contacts.now c.loop-n.n _ c.requires.sizes.each c.requires.ranges c.loop-n-test.true) c.loop-n.invariant (sym c.is_taken.ensures ∙ c.if-is_taken.true)))

pub returns-then-not-join-clause-broken : goal.returns-then-not-join-clause-broken
returns-then-not-join-clause-broken c =
    ap (as_fault ContactTwice) (sym (joined_clash c.args.tiles.now c.args.contacts.now c.loop-n.n _ c.loop-n.table (next_at c.args.tiles.now c.args.contacts.now c.loop-n.n _ c.requires.sizes.each c.requires.ranges c.loop-n-test.true) c.loop-n.invariant (sym c.is_taken.ensures ∙ c.if-is_taken.false) c.if-not-join.ensures.refused))

pub loop-n-preserved : goal.loop-n-preserved
loop-n-preserved c =
    joined_more c.args.tiles.now c.args.contacts.now c.loop-n.n _ c.loop-n.table c.join.new.table (next_at c.args.tiles.now c.args.contacts.now c.loop-n.n _ c.requires.sizes.each c.requires.ranges c.loop-n-test.true) c.loop-n.invariant (sym c.is_taken.ensures ∙ c.if-is_taken.false) c.if-not-join.ensures.fits
