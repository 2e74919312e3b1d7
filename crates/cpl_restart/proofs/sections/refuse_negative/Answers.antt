use Rattle.std.proofs.Common.{rules, ap, sym, ◌∙◌, ◌≡◌}
use borrow.Author.Tests.{tests}
use Rattle.std.specs.List.{position}
use Rattle.std.proofs.lemmas.Iterator.{YieldsList-from_slice}
use Rattle.std.proofs.lemmas.Iterator.Search.{position_from_yields_List}
use Rattle.cpl_restart.specs.Numbers.{is_negative}
use Rattle.cpl_restart.specs.Sections.{no_negative_at}
use Rattle.cpl_restart.proofs.sections.refuse_negative.Goals as goal

pub returns-in-None : goal.returns-in-None
returns-in-None c =
    let found : c.position.result ≡ position is_negative c.args.numbers.now = position_from_yields_List is_negative _ _ c.position.result c.position.ensures.ran (YieldsList-from_slice _ c.iter.ensures.rest) (λ x b q k. search (rules, tests)) in
    ap (no_negative_at c.args.section) (sym found ∙ c.in-None.is)

pub returns-in-Some : goal.returns-in-Some
returns-in-Some c =
    let found : c.position.result ≡ position is_negative c.args.numbers.now = position_from_yields_List is_negative _ _ c.position.result c.position.ensures.ran (YieldsList-from_slice _ c.iter.ensures.rest) (λ x b q k. search (rules, tests)) in
    ap (no_negative_at c.args.section) (sym found ∙ c.in-Some.is)
