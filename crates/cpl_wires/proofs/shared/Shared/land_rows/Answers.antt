use Rattle.std.proofs.Common.{◌∙◌, sym, ap, subst, ◌-◌, ℕ, List, [], map, arith, get_or, Some}
use Rattle.cpl_fixed.specs.declared.words.Component.TheVariants.{Atmos, Land}
use Rattle.cpl_wires.specs.Settings.{Setting, base_of, layout_of}
use Rattle.cpl_wires.specs.Pairs.{land_rows_between}
use Rattle.cpl_wires.specs.Laws.{IsOf}
use Rattle.cpl_wires.specs.Tables.{pairs_most, pair_key, row_pair, pair_number}
use Rattle.cpl_wires.proofs.Most.{pairs_most_is}
use Rattle.cpl_wires.proofs.Read.{groups_count}
use Rattle.cpl_wires.proofs.Celled.{land_rows_are}
use Rattle.cpl_wires.proofs.shared.Shared.land_rows.Goals as goal

pub at-requires : goal.at-requires
at-requires c =
    let setting = c.self.inside.pieces in
    let count = groups_count c.self.inside.rows.land pairs_most (map (pair_key (layout_of setting Atmos) (layout_of setting Land)) (map row_pair setting.grid.xgrid.land_rows)) c.self.invariant.rows.land_rows in omega (arith, count, pairs_most_is, c.pair-pair.ensures.few)

pub returns : goal.returns
returns c =
    let setting = c.self.inside.pieces in
    c.at.ensures
    ∙ ap (λ (n : ℕ). get_or c.self.inside.rows.land n []) c.pair-pair.ensures.number
    ∙ ap (λ (s : Setting). get_or c.self.inside.rows.land (pair_number (c.args.air - base_of s Atmos) (c.args.land - base_of s Land)) []) (sym c.self.view_is)
    ∙ ap (λ (l : List (List ℕ)). get_or l (pair_number (c.args.air - base_of setting Atmos) (c.args.land - base_of setting Land)) []) c.self.invariant.rows.land_rows
    ∙ land_rows_are setting c.self.invariant.lawful c.self.invariant.grid c.args.air c.args.land
    (subst (λ (s : Setting). IsOf s 0 (Some Atmos) c.args.air) (sym c.self.view_is) c.requires.air) (subst (λ (s : Setting). IsOf s 0 (Some Land) c.args.land) (sym c.self.view_is) c.requires.land)
    ∙ ap (λ (s : Setting). land_rows_between s c.args.air c.args.land) c.self.view_is
