use Rattle.std.proofs.Common.{◌≡◌, ◌∙◌, sym, ap, subst, arith, ◌-◌, List, length}
use Rattle.std.specs.Prelude.{slice_index_or}
use Rattle.std.proofs.lemmas.List.{get_or_read}
use Rattle.cpl_transport.specs.Salts.{IsSalty, joined, nothing, without}
use Rattle.cpl_transport.proofs.Exchanges.{mixed_below}
use Rattle.cpl_ocean.specs.Layers.{LayerNumbers, no_layer}
use Rattle.cpl_ocean.specs.Columns.{column_left}
use Rattle.cpl_ocean.proofs.mixing.mixed_cell.Goals as goal

pub without-requires-clause-here : goal.without-requires-clause-here
without-requires-clause-here c =
    let layers : List LayerNumbers = c.args.layers.now in
    let same = get_or_read layers c.args.l c.index-layers-l.result c.requires.layer c.index-layers-l.is no_layer in
    subst IsSalty (sym (c.left_at-here.ensures ∙ ap (λ (layer : LayerNumbers). slice_index_or layer.left c.args.place nothing) same)) (c.requires.left c.args.l c.requires.layer)

pub after_exchange-requires-clause-here : goal.after_exchange-requires-clause-here
after_exchange-requires-clause-here c =
    let layers : List LayerNumbers = c.args.layers.now in
    let same = get_or_read layers c.args.l c.index-layers-l.result c.requires.layer c.index-layers-l.is no_layer in
    subst IsSalty (sym (c.left_at-here.ensures ∙ ap (λ (layer : LayerNumbers). slice_index_or layer.left c.args.place nothing) same)) (c.requires.left c.args.l c.requires.layer)

pub returns-else-l-eq0 : goal.returns-else-l-eq0
returns-else-l-eq0 c =
    let layers : List LayerNumbers = c.args.layers.now in
    let column = column_left layers c.args.place in
    let same = get_or_read layers c.args.l c.index-layers-l.result c.requires.layer c.index-layers-l.is no_layer in
    let here = c.left_at-here.ensures ∙ ap (λ (layer : LayerNumbers). slice_index_or layer.left c.args.place nothing) same in
    c.after_exchange.ensures
    ∙ (λ i. without (joined (here i) (c.passed.ensures.value i)) (c.passed-down.ensures.value i))
    ∙ mixed_below c.args.mix (length layers) column c.args.l (c.args.l - 1) (let some : c.args.l ≡ 0 → ⊥ = c.if-l-eq0.false in omega arith)
