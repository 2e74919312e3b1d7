use Rattle.std.proofs.Common.{◌≡◌, sym, ◌∙◌, ap, arith, Bool, true, false}
use Rattle.std.specs.List.{list_any}
use Rattle.std.proofs.lemmas.Bool.{or_from}
use Rattle.std.proofs.lemmas.List.{take_all}
use Rattle.std.proofs.lemmas.List.Folds.{list_any_at, list_any_more}
use Rattle.cpl_mosaic.specs.Sides.{CellSide, is_same_side}
use Rattle.cpl_mosaic.specs.Contacts.{pairs_of}
use Rattle.cpl_mosaic.proofs.Spans.{pair_at, count_pairs}
use Rattle.cpl_mosaic.proofs.contacts.meets_itself.Goals as goal

abbrev same : CellSide × CellSide → Bool
same p = is_same_side p.0 p.1

pub returns-then-is_same_side : goal.returns-then-is_same_side
returns-then-is_same_side c =
    let count = count_pairs c.args.tiles.now c.args.contact in
    let at = pair_at c.args.tiles.now c.args.contact c.loop-k.k c.joined_pair.result (omega arith) ∙ sym c.joined_pair.ensures in
    let is : is_same_side c.joined_pair.result.0 c.joined_pair.result.1 ≡ true = sym c.is_same_side.ensures ∙ c.if-is_same_side.true in
    sym (list_any_at same (pairs_of c.args.tiles.now c.args.contact) c.loop-k.k c.joined_pair.result (omega arith) (ap same at ∙ is))

pub loop-k-preserved : goal.loop-k-preserved
loop-k-preserved c =
    let count = count_pairs c.args.tiles.now c.args.contact in
    let at = pair_at c.args.tiles.now c.args.contact c.loop-k.k c.joined_pair.result (omega arith) ∙ sym c.joined_pair.ensures in
    let is : is_same_side c.joined_pair.result.0 c.joined_pair.result.1 ≡ false = sym c.is_same_side.ensures ∙ c.if-is_same_side.false in
    list_any_more same (pairs_of c.args.tiles.now c.args.contact) c.loop-k.k c.joined_pair.result (omega arith) ∙ or_from _ _ c.loop-k.invariant (ap same at ∙ is)

pub returns : goal.returns
returns c =
    let count = count_pairs c.args.tiles.now c.args.contact in
    sym (ap (list_any same) (sym (take_all c.loop-k.k (pairs_of c.args.tiles.now c.args.contact) (omega arith))) ∙ c.loop-k.invariant)
