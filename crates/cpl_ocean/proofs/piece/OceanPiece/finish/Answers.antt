use Rattle.std.proofs.Common.{◌≡◌, ◌∙◌, sym, subst, List, arith}
use Rattle.std.specs.Vec.{with_items}
use Rattle.std.proofs.lemmas.List.{with_items_is}
use Rattle.cpl_field.specs.Spots.{FieldNumbers, IsSpot, Spot, number_at}
use Rattle.cpl_ocean.specs.Columns.{HasColumn, IsClose, height_at}
use Rattle.cpl_ocean.specs.Layers.{EachLayer, LayerNumbers}
use Rattle.cpl_ocean.specs.Mixed.{IsAllLeft, IsAnyCell, Mixes}
use Rattle.cpl_ocean.specs.Numbers.{DrivesLayer}
use Rattle.cpl_ocean.specs.Pieces.{Finishes, OceanNumbers}
use Rattle.cpl_ocean.proofs.Ended.{driven_all_left, finishes}
use Rattle.cpl_ocean.proofs.piece.OceanPiece.finish.Goals as goal

pub raise-requires-clause-columns : goal.raise-requires-clause-columns
raise-requires-clause-columns c =
    let columns = subst (λ (ocean : OceanNumbers). (spot : Spot) → IsSpot ocean.area spot → IsClose spot → HasColumn ocean.layers spot) (sym c.self.view_is) c.requires.columns in
    subst (λ (layers : List LayerNumbers). (spot : Spot) → IsSpot c.self.inside.basin.area spot → IsClose spot → HasColumn layers spot) (sym c.deref.ensures.value) columns

pub store-requires-clause-left : goal.store-requires-clause-left
store-requires-clause-left c =
    let basin = c.self.inside.basin in
    let items = c.self.inside.layers.items in
    let raised = c.raise.new.basin in
    let left = subst (λ (ocean : OceanNumbers). IsAllLeft ocean.area ocean.layers) (sym c.self.view_is) c.requires.left in
    let drives = subst (λ (layers : List LayerNumbers). EachLayer (DrivesLayer raised.area (number_at raised.heights) c.args.rates.now.slope) layers c.drive_layers.new.layers) c.deref_mut.ensures.value c.drive_layers.ensures in
    let kept : (with_items c.self.inside.layers c.drive_layers.new.layers).items ≡ c.drive_layers.new.layers = with_items_is c.self.inside.layers c.drive_layers.new.layers (omega (arith, c.drive_layers.ensures.count, c.deref_mut.ensures.len)) in
    subst (λ (layers : List LayerNumbers). IsAllLeft raised.area layers) (sym (c.deref_mut-2.ensures.value ∙ kept))
    (driven_all_left raised.area (number_at raised.heights) c.args.rates.now.slope items c.drive_layers.new.layers drives c.args.rates.now.mix
    (subst (λ (area : FieldNumbers). IsAllLeft area items) (sym c.raise.ensures.area) left))

pub returns : goal.returns
returns c =
    let basin = c.self.inside.basin in
    let items = c.self.inside.layers.items in
    let raised = c.raise.new.basin in
    let slope = c.args.rates.now.slope in
    let mix = c.args.rates.now.mix in
    let after : OceanNumbers = record { area = raised.area; layers = c.store.new.layers } in
    let is = c.self.invariant.columns in
    let heights = subst (λ (layers : List LayerNumbers). (spot : Spot) → IsSpot basin.area spot → IsClose spot → number_at raised.heights spot ≡ height_at basin.area layers spot) c.deref.ensures.value c.raise.ensures.heights in
    let drives = subst (λ (layers : List LayerNumbers). EachLayer (DrivesLayer raised.area (number_at raised.heights) slope) layers c.drive_layers.new.layers) c.deref_mut.ensures.value c.drive_layers.ensures in
    let kept : (with_items c.self.inside.layers c.drive_layers.new.layers).items ≡ c.drive_layers.new.layers = with_items_is c.self.inside.layers c.drive_layers.new.layers (omega (arith, c.drive_layers.ensures.count, c.deref_mut.ensures.len)) in
    let stored = subst (λ (layers : List LayerNumbers). Mixes raised.area mix IsAnyCell layers c.store.new.layers) (c.deref_mut-2.ensures.value ∙ kept) c.store.ensures in
    let driven = with_items c.self.inside.layers c.drive_layers.new.layers in
    let last : (with_items driven c.store.new.layers).items ≡ c.store.new.layers = with_items_is driven c.store.new.layers (omega (arith, c.store.ensures.count, c.deref_mut-2.ensures.len)) in
    let finished =
    subst (λ (ocean : OceanNumbers). Finishes slope mix ocean after) c.self.view_is
    (finishes (record { area = basin.area; layers = items }) raised c.drive_layers.new.layers c.store.new.layers slope mix is.width c.raise.ensures.area c.self.invariant.shapes heights drives stored) in
    subst (λ (layers : List LayerNumbers). Finishes slope mix c.args.self.now (record { area = raised.area; layers = layers })) (sym last) finished
