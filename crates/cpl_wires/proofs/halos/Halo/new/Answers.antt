use Rattle.std.proofs.Common.{◌∙◌, sym, ap, subst}
use Rattle.cpl_wires.specs.Tables.{HavePieces, strips_by_pieces}
use Rattle.cpl_wires.proofs.halos.Halo.new.Goals as goal

pub invariant_of-result : goal.invariant_of-result
invariant_of-result c = record {
  pieces = subst HavePieces (sym c.in_ok-group.ensures.strips) c.requires.pieces;
  numbers_are = c.in_ok-numbers.ensures ∙ ap strips_by_pieces (c.deref.ensures.value ∙ sym c.in_ok-group.ensures.strips);
}
