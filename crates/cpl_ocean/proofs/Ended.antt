-- The end of a step of a piece.
use Rattle.std.proofs.Common.{◌≡◌, ◌∙◌, refl, sym, ap, subst, ℕ, ◌+◌, ◌*◌, ◌<◌, arith, inl, inr, List, length, slice_set}
use Rattle.std.specs.Prelude.{ℤ}
use Rattle.std.proofs.lemmas.Bool.{cases_lt}
use Rattle.std.proofs.lemmas.List.{get_or_past, length-set}
use Rattle.cpl_field.specs.Crossings.{FaceNumbers, outward}
use Rattle.cpl_field.specs.Spots.{FieldNumbers, Spot, CellAt, HoleAt, IsSpot, number_at, out_from}
use Rattle.cpl_ocean.specs.declared.basin.Basin.{Basin}
use Rattle.cpl_ocean.specs.Columns.{IsClose, height_at}
use Rattle.cpl_ocean.specs.Layers.{AreLayersOf, EachLayer, IsLayerOf, LayerNumbers, SetsCell, layer_at, no_layer}
use Rattle.cpl_ocean.specs.Mixed.{IsAllLeft, IsAnyCell, Mixes}
use Rattle.cpl_ocean.specs.Numbers.{DrivesLayer}
use Rattle.cpl_ocean.specs.Pieces.{Finishes, IsOcean, OceanNumbers}
use Rattle.cpl_ocean.proofs.Around.{out_on}
use Rattle.cpl_ocean.proofs.Steps.{close_out, same_number}
use Rattle.cpl_ice.specs.declared.parts.Salty.{Salty}
use Rattle.cpl_ocean.proofs.Stored.{each_layer, left_same, mixed_same, set_of}

module _ (area : FieldNumbers) (height : Spot → ℤ) (slope : ℕ) (old new : List LayerNumbers) (driven : EachLayer (DrivesLayer area height slope) old new) where
  -- what the transport left is not touched
  pub driven_left : (l : ℕ) → (layer_at new l).left ≡ (layer_at old l).left
  driven_left l = elim (cases_lt l (length old)) [
    | inl less ↦ let to = driven.each l less in to.left
    | inr le ↦
        let count = driven.count in
        ap (λ (a : LayerNumbers). a.left) (get_or_past new l no_layer (omega arith) ∙ sym (get_or_past old l no_layer le))
  ]

  pub driven_all_left : (mix : ℕ) → IsAllLeft area old → IsAllLeft area new
  driven_all_left mix left i j on = left_same area mix old new (j * area.nx + i) driven.count driven_left (left i j on)

finishes_at : (old : OceanNumbers) (heights : FieldNumbers) (driven new : List LayerNumbers) (slope mix : ℕ) (own : FieldNumbers) → own ≡ old.area → old.area.width ≡ 2 → AreLayersOf old.area old.layers
    → ((spot : Spot) → IsSpot old.area spot → IsClose spot → number_at heights spot ≡ height_at old.area old.layers spot)
    → EachLayer (DrivesLayer old.area (number_at heights) slope) old.layers driven → Mixes old.area mix IsAnyCell driven new → Finishes slope mix old (record { area = own; layers = new })
finishes_at old heights driven new slope mix own same width of raised drives stored = record {
  area = same;
  count = stored.count ∙ drives.count;
  cells = λ l i j less on. let count = drives.count in stored.meant l i j (omega arith) on tt ∙ mixed_same old.area mix old.layers driven (j * old.area.nx + i) l drives.count (driven_left old.area (number_at heights) slope old.layers driven drives);
  holes = λ l side k depth less on.
      let count = drives.count in
      let to = drives.each l less in
      stored.holes l side k depth (omega arith) on ∙ (λ t. record { water = number_at (to.water t) (HoleAt side k depth); heat = number_at (to.heat t) (HoleAt side k depth); salt = number_at (to.salt t) (HoleAt side k depth) });
  faces = λ l i j side less on.
      let count = drives.count in
      let to = drives.each l less in
      let is = of l less in
      let alike = is.fields.alike in
      let columns = alike.columns ∙ is.fields.shape.nx in
      let rows = alike.rows ∙ is.fields.shape.ny in
      ap (λ (f : FaceNumbers). outward f i j side) (stored.faces l (omega arith))
      ∙ to.faces.each i j side (omega arith) (omega arith)
      ∙ same_number old.area (number_at heights) (height_at old.area old.layers) slope (layer_at old.layers l).fields i j side (raised (CellAt i j) on (inl (i, j, refl))) (raised (out_from old.area i j side 1) (out_on old.area i j side 1 on (omega arith) (omega arith)) (close_out old.area i j side on));
}

pub finishes : (old : OceanNumbers) (basin : Basin) (driven new : List LayerNumbers) (slope mix : ℕ) → old.area.width ≡ 2 → basin.area ≡ old.area → AreLayersOf old.area old.layers
    → ((spot : Spot) → IsSpot old.area spot → IsClose spot → number_at basin.heights spot ≡ height_at old.area old.layers spot)
    → EachLayer (DrivesLayer basin.area (number_at basin.heights) slope) old.layers driven → Mixes basin.area mix IsAnyCell driven new → Finishes slope mix old (record { area = basin.area; layers = new })
finishes old basin driven new slope mix width same of heights first second =
    finishes_at old basin.heights driven new slope mix basin.area same width of heights
    (subst (λ (a : FieldNumbers). EachLayer (DrivesLayer a (number_at basin.heights) slope) old.layers driven) same first)
    (subst (λ (a : FieldNumbers). Mixes a mix IsAnyCell driven new) same second)

-- a piece with another cell
pub ocean_set : (basin : Basin) (layers : List LayerNumbers) (l : ℕ) (here layer : LayerNumbers) (i j : ℕ) (it : Salty) → IsOcean basin layers → l < length layers → here ≡ layer_at layers l → SetsCell here.fields layer.fields i j it → layer.left ≡ here.left → IsOcean basin (slice_set layers l layer)
ocean_set basin layers l here layer i j it is within same sets left = record {
  columns = is.columns;
  shapes = λ k less.
      let count = length-set layers l layer in
      let of : IsLayerOf basin.area here = subst (IsLayerOf basin.area) (sym same) (is.shapes l within) in
      each_layer (λ m a. IsLayerOf basin.area a) layers l layer within
      (record { fields = set_of basin.area here.fields layer.fields i j it of.fields sets; count = ap (λ xs. length xs) left ∙ of.count }) is.shapes k (omega arith);
}
