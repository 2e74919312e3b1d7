use Rattle.std.proofs.Common.{◌∙◌, sym, ap, subst, ◌-◌, ℕ, List, [], map, arith, get_or, Some}
use Rattle.cpl_fixed.specs.declared.words.Component.TheVariants.{Ice, Ocean}
use Rattle.cpl_wires.specs.Settings.{Setting, base_of, layout_of}
use Rattle.cpl_wires.specs.Pairs.{sea_cells, cells_between}
use Rattle.cpl_wires.specs.Laws.{IsOf}
use Rattle.cpl_wires.specs.Tables.{pairs_most, pair_key, same_pair, pair_number}
use Rattle.cpl_wires.proofs.Most.{pairs_most_is}
use Rattle.cpl_wires.proofs.Read.{groups_count}
use Rattle.cpl_wires.proofs.Celled.{cells_are}
use Rattle.cpl_wires.proofs.shared.Shared.cells.Goals as goal

pub at-requires : goal.at-requires
at-requires c =
    let setting = c.self.inside.pieces in
    let count = groups_count c.self.inside.rows.cells pairs_most (map (pair_key (layout_of setting Ice) (layout_of setting Ocean)) (map same_pair (sea_cells setting))) c.self.invariant.rows.cells in omega (arith, count, pairs_most_is, c.pair-pair.ensures.few)

pub returns : goal.returns
returns c =
    let setting = c.self.inside.pieces in
    c.at.ensures
    ∙ ap (λ (n : ℕ). get_or c.self.inside.rows.cells n []) c.pair-pair.ensures.number
    ∙ ap (λ (s : Setting). get_or c.self.inside.rows.cells (pair_number (c.args.ice - base_of s Ice) (c.args.ocean - base_of s Ocean)) []) (sym c.self.view_is)
    ∙ ap (λ (l : List (List ℕ)). get_or l (pair_number (c.args.ice - base_of setting Ice) (c.args.ocean - base_of setting Ocean)) []) c.self.invariant.rows.cells
    ∙ cells_are setting c.self.invariant.lawful c.self.invariant.grid c.args.ice c.args.ocean
    (subst (λ (s : Setting). IsOf s 0 (Some Ice) c.args.ice) (sym c.self.view_is) c.requires.ice) (subst (λ (s : Setting). IsOf s 0 (Some Ocean) c.args.ocean) (sym c.self.view_is) c.requires.ocean)
    ∙ ap (λ (s : Setting). cells_between s c.args.ice c.args.ocean) c.self.view_is
