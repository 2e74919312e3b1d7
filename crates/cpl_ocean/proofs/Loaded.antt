-- Numbers of a field, taken over from another one.
use Rattle.std.proofs.Common.{◌≡◌, ◌∙◌, refl, sym, ap, subst, ℕ, ◌<◌, arith, inl, inr, List, length, slice_set}
use Rattle.std.proofs.lemmas.Bool.{cases_eq}
use Rattle.std.proofs.lemmas.List.{length-set}
use Rattle.cpl_mosaic.specs.declared.parts.Side.{Side}
use Rattle.cpl_field.specs.Crossings.{FaceNumbers}
use Rattle.cpl_field.specs.Spots.{FieldNumbers, CellAt, HoleAt, IsSpot, IsSameShape, number_at}
use Rattle.cpl_ocean.specs.declared.basin.Basin.{Basin}
use Rattle.cpl_ocean.specs.Columns.{Fills, IsAtDepth, IsCell}
use Rattle.cpl_ocean.specs.Layers.{IsLayerOf, LayerNumbers, layer_at}
use Rattle.cpl_ocean.specs.Pieces.{ChangesField, IsOcean, LoadsCells, LoadsHoles, field_in}
use Rattle.cpl_ocean.proofs.Around.{spot_same}
use Rattle.cpl_ocean.proofs.Stored.{back_shape, depth_of, each_layer, hole_not_cell, then_shape}

pub loads_cells : (from old new : FieldNumbers) → IsSameShape from old → Fills from (number_at from) IsCell old new → LoadsCells from old new
loads_cells from old new same fills = record {
  shape = fills.shape;
  cells = λ i j on. fills.meant (CellAt i j) (spot_same old from (back_shape from old same) (CellAt i j) on) (i, j, refl);
  holes = λ side k depth on. fills.others (HoleAt side k depth) (spot_same old from (back_shape from old same) (HoleAt side k depth) on) (λ w. hole_not_cell side k depth w.0 w.1 w.2);
}

pub loads_holes : (from old mid new : FieldNumbers) → from.width ≡ 2 → IsSameShape from old → Fills from (number_at from) (IsAtDepth 1) old mid → Fills from (number_at from) (IsAtDepth 2) mid new → LoadsHoles from old new
loads_holes from old mid new width same near far = record {
  shape = then_shape old mid new near.shape far.shape;
  cells = λ i j on.
      let there = spot_same old from (back_shape from old same) (CellAt i j) on in
      far.others (CellAt i j) there (λ w. absurd (omega (arith, ap depth_of w.2))) ∙ near.others (CellAt i j) there (λ w. absurd (omega (arith, ap depth_of w.2)));
  holes = λ side k depth on.
      let there = spot_same old from (back_shape from old same) (HoleAt side k depth) on in
      elim (cases_eq depth 2) [
        | inl e ↦ far.meant (HoleAt side k depth) there (side, k, ap (λ (d : ℕ). HoleAt side k d) e)
        | inr ne ↦
            let other : depth ≡ 2 → ⊥ = ne in
            let one : depth ≡ 1 = depth_one side k depth there other in
            far.others (HoleAt side k depth) there (λ w. ne (ap depth_of w.2)) ∙ near.meant (HoleAt side k depth) there (side, k, ap (λ (d : ℕ). HoleAt side k d) one)
      ];
}
  where
    depth_one : (side : Side) (k depth : ℕ) → IsSpot from (HoleAt side k depth) → (depth ≡ 2 → ⊥) → depth ≡ 1
    depth_one side k depth on other = let some = on.1 in let most = on.2 in omega arith

-- each field of a layer has the shape that it had
kept_shape : (Changes : FieldNumbers → FieldNumbers → Type 0) → ((f g : FieldNumbers) → Changes f g → IsSameShape f g) → (n : ℕ) (old new : LayerNumbers) → ChangesField n Changes old new → (m : ℕ) → m < 3 → IsSameShape (field_in old.fields m) (field_in new.fields m)
kept_shape Changes shape n old new changes m few = elim (cases_eq m n) [
  | inl e ↦ subst (λ (k : ℕ). IsSameShape (field_in old.fields k) (field_in new.fields k)) (sym e) (shape (field_in old.fields n) (field_in new.fields n) changes.there)
  | inr ne ↦ subst (λ (f : FieldNumbers). IsSameShape (field_in old.fields m) f) (sym (changes.others m few ne)) (record { nx = refl; ny = refl; width = refl })
]

pub ocean_loaded : (Changes : FieldNumbers → FieldNumbers → Type 0) → ((f g : FieldNumbers) → Changes f g → IsSameShape f g) → (basin : Basin) (layers : List LayerNumbers) (l n : ℕ) (here layer : LayerNumbers) → IsOcean basin layers → l < length layers → here ≡ layer_at layers l → ChangesField n Changes here layer → IsOcean basin (slice_set layers l layer)
ocean_loaded Changes shape basin layers l n here layer is within same changes = record {
  columns = is.columns;
  shapes = λ k less.
      let count = length-set layers l layer in
      let of : IsLayerOf basin.area here = subst (IsLayerOf basin.area) (sym same) (is.shapes l within) in
      let water = kept_shape Changes shape n here layer changes 0 (omega arith) in
      let heat = kept_shape Changes shape n here layer changes 1 (omega arith) in
      let salt = kept_shape Changes shape n here layer changes 2 (omega arith) in
      let alike = of.fields.alike in
      let back = back_shape here.fields.water layer.fields.water water in
      each_layer (λ m a. IsLayerOf basin.area a) layers l layer within
      (record {
        fields = record {
          shape = then_shape basin.area here.fields.water layer.fields.water of.fields.shape water;
          alike = record {
            heat = then_shape layer.fields.water here.fields.water layer.fields.heat back (then_shape here.fields.water here.fields.heat layer.fields.heat alike.heat heat);
            salt = then_shape layer.fields.water here.fields.water layer.fields.salt back (then_shape here.fields.water here.fields.salt layer.fields.salt alike.salt salt);
            columns = ap (λ (f : FaceNumbers). f.nx) changes.faces ∙ alike.columns ∙ sym water.nx;
            rows = ap (λ (f : FaceNumbers). f.ny) changes.faces ∙ alike.rows ∙ sym water.ny;
          };
        };
        count = ap (λ xs. length xs) changes.left ∙ of.count;
      }) is.shapes k (omega arith);
}
