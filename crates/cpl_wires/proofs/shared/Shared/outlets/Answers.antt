use Rattle.std.proofs.Common.{◌∙◌, sym, ap, subst, ◌-◌, ℕ, List, [], map, arith, get_or, Some}
use Rattle.cpl_fixed.specs.declared.words.Component.TheVariants.{Land, Ice}
use Rattle.cpl_wires.specs.Settings.{Setting, base_of, layout_of}
use Rattle.cpl_wires.specs.Pairs.{outlets_between}
use Rattle.cpl_wires.specs.Laws.{IsOf}
use Rattle.cpl_wires.specs.Tables.{pairs_most, pair_key, outlet_pair, pair_number}
use Rattle.cpl_wires.proofs.Most.{pairs_most_is}
use Rattle.cpl_wires.proofs.Read.{groups_count}
use Rattle.cpl_wires.proofs.Celled.{outlets_are}
use Rattle.cpl_wires.proofs.shared.Shared.outlets.Goals as goal

pub at-requires : goal.at-requires
at-requires c =
    let setting = c.self.inside.pieces in
    let count = groups_count c.self.inside.rows.outlets pairs_most (map (pair_key (layout_of setting Land) (layout_of setting Ice)) (map outlet_pair setting.grid.xgrid.outlets)) c.self.invariant.rows.outlets in omega (arith, count, pairs_most_is, c.pair-pair.ensures.few)

pub returns : goal.returns
returns c =
    let setting = c.self.inside.pieces in
    c.at.ensures
    ∙ ap (λ (n : ℕ). get_or c.self.inside.rows.outlets n []) c.pair-pair.ensures.number
    ∙ ap (λ (s : Setting). get_or c.self.inside.rows.outlets (pair_number (c.args.land - base_of s Land) (c.args.ice - base_of s Ice)) []) (sym c.self.view_is)
    ∙ ap (λ (l : List (List ℕ)). get_or l (pair_number (c.args.land - base_of setting Land) (c.args.ice - base_of setting Ice)) []) c.self.invariant.rows.outlets
    ∙ outlets_are setting c.self.invariant.lawful c.self.invariant.grid c.args.land c.args.ice
    (subst (λ (s : Setting). IsOf s 0 (Some Land) c.args.land) (sym c.self.view_is) c.requires.land) (subst (λ (s : Setting). IsOf s 0 (Some Ice) c.args.ice) (sym c.self.view_is) c.requires.ice)
    ∙ ap (λ (s : Setting). outlets_between s c.args.land c.args.ice) c.self.view_is
