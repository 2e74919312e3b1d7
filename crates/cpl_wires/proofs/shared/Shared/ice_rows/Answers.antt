use Rattle.std.proofs.Common.{◌∙◌, sym, ap, subst, ◌-◌, ℕ, List, [], map, arith, get_or, Some}
use Rattle.cpl_fixed.specs.declared.words.Component.TheVariants.{Atmos, Ice}
use Rattle.cpl_wires.specs.Settings.{Setting, base_of, layout_of}
use Rattle.cpl_wires.specs.Pairs.{ice_rows_between}
use Rattle.cpl_wires.specs.Laws.{IsOf}
use Rattle.cpl_wires.specs.Tables.{pairs_most, pair_key, row_pair, pair_number}
use Rattle.cpl_wires.proofs.Most.{pairs_most_is}
use Rattle.cpl_wires.proofs.Read.{groups_count}
use Rattle.cpl_wires.proofs.Celled.{ice_rows_are}
use Rattle.cpl_wires.proofs.shared.Shared.ice_rows.Goals as goal

pub at-requires : goal.at-requires
at-requires c =
    let setting = c.self.inside.pieces in
    let count = groups_count c.self.inside.rows.ocean pairs_most (map (pair_key (layout_of setting Atmos) (layout_of setting Ice)) (map row_pair setting.grid.xgrid.ocean_rows)) c.self.invariant.rows.ocean_rows in omega (arith, count, pairs_most_is, c.pair-pair.ensures.few)

pub returns : goal.returns
returns c =
    let setting = c.self.inside.pieces in
    c.at.ensures
    ∙ ap (λ (n : ℕ). get_or c.self.inside.rows.ocean n []) c.pair-pair.ensures.number
    ∙ ap (λ (s : Setting). get_or c.self.inside.rows.ocean (pair_number (c.args.air - base_of s Atmos) (c.args.ice - base_of s Ice)) []) (sym c.self.view_is)
    ∙ ap (λ (l : List (List ℕ)). get_or l (pair_number (c.args.air - base_of setting Atmos) (c.args.ice - base_of setting Ice)) []) c.self.invariant.rows.ocean_rows
    ∙ ice_rows_are setting c.self.invariant.lawful c.self.invariant.grid c.args.air c.args.ice
    (subst (λ (s : Setting). IsOf s 0 (Some Atmos) c.args.air) (sym c.self.view_is) c.requires.air) (subst (λ (s : Setting). IsOf s 0 (Some Ice) c.args.ice) (sym c.self.view_is) c.requires.ice)
    ∙ ap (λ (s : Setting). ice_rows_between s c.args.air c.args.ice) c.self.view_is
