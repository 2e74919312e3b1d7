use Rattle.std.proofs.Common.{◌≡◌, take}
use Rattle.cpl_xput.specs.Exchanges.{elements_in}
use Rattle.cpl_xput.proofs.elements.elements_in.Given as goal

abbrev pub invariant-loop-xref : goal.invariant-loop-xref
invariant-loop-xref l = l.count ≡ elements_in l.categories (take l.xref-index l.refs)
