use Rattle.std.proofs.Common.{◌∙◌, sym, ap, subst}
use Rattle.cpl_wires.specs.Settings.{Setting, IsSetting, component_of}
use Rattle.cpl_wires.specs.Lengths.{AreShort, moves_length}
use Rattle.cpl_wires.proofs.Shortened.{made_of, parts_short, lengths_are}
use Rattle.cpl_wires.proofs.script.lengths_of.Goals as goal

pub count_actions-requires-clause-short : goal.count_actions-requires-clause-short
count_actions-requires-clause-short c =
    let lawful = subst IsSetting (c.pieces-2.ensures ∙ c.shared-2.ensures) c.names.ensures.lawful in
    let made = made_of c.args.edges.now c.args.piece c.component-component.result c.moves_length.result c.moves_length-2.result c.moves_length-3.result c.moves_length-4.result
    c.moves_length-5.result c.moves_length-6.result c.moves_length-7.result 0
    (c.moves_length.ensures.length ∙ ap (moves_length c.args.edges.now c.args.piece) c.summing.ensures.moves)
    (c.moves_length-2.ensures.length ∙ ap (moves_length c.args.edges.now c.args.piece) c.opening.ensures.moves)
    (c.moves_length-3.ensures.length ∙ ap (moves_length c.args.edges.now c.args.piece) c.opening-2.ensures.moves)
    (c.moves_length-4.ensures.length ∙ ap (moves_length c.args.edges.now c.args.piece) c.fast_moves.ensures.moves)
    (c.moves_length-5.ensures.length ∙ ap (moves_length c.args.edges.now c.args.piece) c.ocean_moves.ensures.moves)
    (c.moves_length-6.ensures.length ∙ ap (moves_length c.args.edges.now c.args.piece) c.closing.ensures.moves)
    (c.moves_length-7.ensures.length ∙ ap (moves_length c.args.edges.now c.args.piece) c.closing-2.ensures.moves) in
    subst AreShort (sym made) (parts_short c.args.edges.now lawful c.args.piece c.component-component.result 0)

pub returns-clause-lengths : goal.returns-clause-lengths
returns-clause-lengths c =
    let component_is = c.component-component.ensures ∙ ap (λ (setting : Setting). component_of setting c.args.piece) (c.pieces.ensures ∙ c.shared.ensures) in
    let names_is = c.names.ensures.names ∙ ap (λ (setting : Setting). setting.names) (c.pieces-2.ensures ∙ c.shared-2.ensures) in
    let made = made_of c.args.edges.now c.args.piece c.component-component.result c.moves_length.result c.moves_length-2.result c.moves_length-3.result c.moves_length-4.result
    c.moves_length-5.result c.moves_length-6.result c.moves_length-7.result 0
    (c.moves_length.ensures.length ∙ ap (moves_length c.args.edges.now c.args.piece) c.summing.ensures.moves)
    (c.moves_length-2.ensures.length ∙ ap (moves_length c.args.edges.now c.args.piece) c.opening.ensures.moves)
    (c.moves_length-3.ensures.length ∙ ap (moves_length c.args.edges.now c.args.piece) c.opening-2.ensures.moves)
    (c.moves_length-4.ensures.length ∙ ap (moves_length c.args.edges.now c.args.piece) c.fast_moves.ensures.moves)
    (c.moves_length-5.ensures.length ∙ ap (moves_length c.args.edges.now c.args.piece) c.ocean_moves.ensures.moves)
    (c.moves_length-6.ensures.length ∙ ap (moves_length c.args.edges.now c.args.piece) c.closing.ensures.moves)
    (c.moves_length-7.ensures.length ∙ ap (moves_length c.args.edges.now c.args.piece) c.closing-2.ensures.moves) in
    lengths_are c.args.edges.now c.args.piece c.component-component.result c.names.result.now _ c.count_actions.result component_is names_is made c.count_actions.ensures

pub returns-clause-short : goal.returns-clause-short
returns-clause-short c =
    let lawful = subst IsSetting (c.pieces-2.ensures ∙ c.shared-2.ensures) c.names.ensures.lawful in
    let made = made_of c.args.edges.now c.args.piece c.component-component.result c.moves_length.result c.moves_length-2.result c.moves_length-3.result c.moves_length-4.result
    c.moves_length-5.result c.moves_length-6.result c.moves_length-7.result c.count_actions.result
    (c.moves_length.ensures.length ∙ ap (moves_length c.args.edges.now c.args.piece) c.summing.ensures.moves)
    (c.moves_length-2.ensures.length ∙ ap (moves_length c.args.edges.now c.args.piece) c.opening.ensures.moves)
    (c.moves_length-3.ensures.length ∙ ap (moves_length c.args.edges.now c.args.piece) c.opening-2.ensures.moves)
    (c.moves_length-4.ensures.length ∙ ap (moves_length c.args.edges.now c.args.piece) c.fast_moves.ensures.moves)
    (c.moves_length-5.ensures.length ∙ ap (moves_length c.args.edges.now c.args.piece) c.ocean_moves.ensures.moves)
    (c.moves_length-6.ensures.length ∙ ap (moves_length c.args.edges.now c.args.piece) c.closing.ensures.moves)
    (c.moves_length-7.ensures.length ∙ ap (moves_length c.args.edges.now c.args.piece) c.closing-2.ensures.moves) in
    subst AreShort (sym made) (parts_short c.args.edges.now lawful c.args.piece c.component-component.result c.count_actions.result)
