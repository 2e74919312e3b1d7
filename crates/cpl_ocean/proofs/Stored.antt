-- Cells of all layers, stored one after the other.
use Rattle.std.proofs.Common.{◌≡◌, ◌≢◌, ◌∙◌, refl, sym, ap, subst, ℕ, ◌+◌, ◌*◌, ◌<◌, ◌⊎◌, arith, inl, inr, List, length, get_or, slice_set, get_or-set_same, get_or-set_other}
use Rattle.std.proofs.lemmas.Bool.{cases_eq}
use Rattle.std.proofs.lemmas.List.{length-set}
use Rattle.cpl_mosaic.specs.declared.parts.Side.{Side}
use Rattle.cpl_field.specs.Crossings.{FaceNumbers}
use Rattle.cpl_field.specs.Spots.{FieldNumbers, Spot, CellAt, HoleAt, IsSpot, IsSameShape}
use Rattle.cpl_ice.specs.declared.parts.Salty.{Salty}
use Rattle.cpl_ocean.specs.declared.fields.Fields.{Fields}
use Rattle.cpl_transport.specs.Salts.{IsSalty, nothing}
use Rattle.cpl_transport.specs.Cells.{mixed_cell}
use Rattle.cpl_ocean.specs.Columns.{AreLeft, column_left}
use Rattle.cpl_ocean.specs.Layers.{AreAlike, AreOf, IsLayerOf, LayerNumbers, SetsCell, layer_at, no_layer, salty_at}
use Rattle.cpl_ocean.specs.Mixed.{IsMixedAbove, IsMixedBefore, IsMixedBelow, Mixes}
use Rattle.cpl_ocean.proofs.Around.{spot_same}

pub then_shape : (f g h : FieldNumbers) → IsSameShape f g → IsSameShape g h → IsSameShape f h
then_shape f g h before after = record { nx = after.nx ∙ before.nx; ny = after.ny ∙ before.ny; width = after.width ∙ before.width }

pub back_shape : (f g : FieldNumbers) → IsSameShape f g → IsSameShape g f
back_shape f g same = record { nx = sym same.nx; ny = sym same.ny; width = sym same.width }

-- a layer with another cell has the same shape
pub set_alike : (old new : Fields) (i j : ℕ) (it : Salty) → AreAlike old → SetsCell old new i j it → AreAlike new
set_alike old new i j it alike sets = record {
  heat = then_shape new.water old.water new.heat (back_shape old.water new.water sets.water.shape) (then_shape old.water old.heat new.heat alike.heat sets.heat.shape);
  salt = then_shape new.water old.water new.salt (back_shape old.water new.water sets.water.shape) (then_shape old.water old.salt new.salt alike.salt sets.salt.shape);
  columns = ap (λ (f : FaceNumbers). f.nx) sets.faces ∙ alike.columns ∙ sym sets.water.shape.nx;
  rows = ap (λ (f : FaceNumbers). f.ny) sets.faces ∙ alike.rows ∙ sym sets.water.shape.ny;
}

pub set_of : (area : FieldNumbers) (old new : Fields) (i j : ℕ) (it : Salty) → AreOf area old → SetsCell old new i j it → AreOf area new
set_of area old new i j it of sets = record { shape = then_shape area old.water new.water of.shape sets.water.shape; alike = set_alike old new i j it of.alike sets }

-- all other cells and holes keep what they held
pub set_other : (area : FieldNumbers) (old new : Fields) (i j : ℕ) (it : Salty) → AreOf area old → SetsCell old new i j it → (spot : Spot) → IsSpot area spot → spot ≢ CellAt i j → salty_at new spot ≡ salty_at old spot
set_other area old new i j it of sets spot on other =
    let in_water = spot_same area old.water of.shape spot on in
    let in_heat = spot_same old.water old.heat of.alike.heat spot in_water in
    let in_salt = spot_same old.water old.salt of.alike.salt spot in_water in
    let water = sets.water.others spot in_water other in
    let heat = sets.heat.others spot in_heat other in
    let salt = sets.salt.others spot in_salt other in
    λ t. record { water = water t; heat = heat t; salt = salt t }

pub set_there : (old new : Fields) (i j : ℕ) (it : Salty) → SetsCell old new i j it → salty_at new (CellAt i j) ≡ it
set_there old new i j it sets =
    let water = sets.water.there in
    let heat = sets.heat.there in
    let salt = sets.salt.there in
    λ t. record { water = water t; heat = heat t; salt = salt t }

-- a list with another layer
pub layer_there : (layers : List LayerNumbers) (l : ℕ) (layer : LayerNumbers) → l < length layers → layer_at (slice_set layers l layer) l ≡ layer
layer_there layers l layer within = get_or-set_same layers l layer no_layer within

pub layer_other : (layers : List LayerNumbers) (l k : ℕ) (layer : LayerNumbers) → k ≢ l → layer_at (slice_set layers l layer) k ≡ layer_at layers k
layer_other layers l k layer ne = get_or-set_other layers l k layer no_layer ne

-- what holds of each layer holds with another layer of which it holds
pub each_layer : (P : ℕ → LayerNumbers → Type 0) (layers : List LayerNumbers) (l : ℕ) (layer : LayerNumbers) → l < length layers → P l layer → ((k : ℕ) → k < length layers → P k (layer_at layers k)) → (k : ℕ) → k < length layers → P k (layer_at (slice_set layers l layer) k)
each_layer P layers l layer within there each k less = elim (cases_eq k l) [
  | inl e ↦
      let here : P l (layer_at (slice_set layers l layer) l) = subst (P l) (sym (layer_there layers l layer within)) there in
      subst (λ (m : ℕ). P m (layer_at (slice_set layers l layer) m)) (sym e) here
  | inr ne ↦ subst (P k) (sym (layer_other layers l k layer ne)) (each k less)
]

pub any_layer : (P : ℕ → LayerNumbers → Type 0) (layers : List LayerNumbers) (l : ℕ) (layer : LayerNumbers) → l < length layers → P l layer → ((k : ℕ) → P k (layer_at layers k)) → (k : ℕ) → P k (layer_at (slice_set layers l layer) k)
any_layer P layers l layer within there each k = elim (cases_eq k l) [
  | inl e ↦
      let here : P l (layer_at (slice_set layers l layer) l) = subst (P l) (sym (layer_there layers l layer within)) there in
      subst (λ (m : ℕ). P m (layer_at (slice_set layers l layer) m)) (sym e) here
  | inr ne ↦ subst (P k) (sym (layer_other layers l k layer ne)) (each k)
]

-- the column or the place of a spot, its row, its depth beyond the piece, and which of both kinds it is
abbrev pub column : Spot → ℕ
column (CellAt i j) = i
column (HoleAt side k depth) = k

abbrev pub row : Spot → ℕ
row (CellAt i j) = j
row (HoleAt side k depth) = k

abbrev pub depth_of : Spot → ℕ
depth_of (CellAt i j) = 0
depth_of (HoleAt side k depth) = depth

abbrev pub kind : Spot → ℕ
kind (CellAt i j) = 0
kind (HoleAt side k depth) = 1

pub hole_not_cell : (side : Side) (k depth i j : ℕ) → HoleAt side k depth ≢ CellAt i j
hole_not_cell side k depth i j e = absurd (omega (arith, ap kind e))

-- the cell of the layer
abbrev IsThis : (m n o l i j : ℕ) → Type 0
IsThis m n o l i j = (l ≡ m) × (i ≡ n) × (j ≡ o)

module _ (area : FieldNumbers) (mix : ℕ) where
  -- one cell more
  module _ (P Q : (l i j : ℕ) → Type 0) (old layers : List LayerNumbers) (before : Mixes area mix P old layers) (m n o : ℕ) (within : m < length layers) (here : IsSpot area (CellAt n o)) (layer : LayerNumbers) (it : Salty) (sets : SetsCell (layer_at layers m).fields layer.fields n o it) (left : layer.left ≡ (layer_at layers m).left) (is : it ≡ mixed_cell mix (length old) (column_left old (o * area.nx + n)) m) where
    other_cell : (l i j : ℕ) → l < length old → IsSpot area (CellAt i j) → (IsThis m n o l i j → ⊥) → salty_at (layer_at (slice_set layers m layer) l).fields (CellAt i j) ≡ salty_at (layer_at layers l).fields (CellAt i j)
    other_cell l i j less on differs = elim (cases_eq l m) [
      | inl e ↦
          let R : ℕ → Type 0 = λ k. salty_at (layer_at (slice_set layers m layer) k).fields (CellAt i j) ≡ salty_at (layer_at layers k).fields (CellAt i j) in
          let of = before.shapes m within in
          subst R (sym e)
          (ap (λ (a : LayerNumbers). salty_at a.fields (CellAt i j)) (layer_there layers m layer within)
          ∙ set_other area (layer_at layers m).fields layer.fields n o it of.fields sets (CellAt i j) on (λ same. differs (e, ap column same, ap row same)))
      | inr ne ↦ ap (λ (a : LayerNumbers). salty_at a.fields (CellAt i j)) (layer_other layers m l layer ne)
    ]

    this_cell : (l i j : ℕ) → IsThis m n o l i j → salty_at (layer_at (slice_set layers m layer) l).fields (CellAt i j) ≡ mixed_cell mix (length old) (column_left old (j * area.nx + i)) l
    this_cell l i j same =
        ap (λ (k : ℕ). salty_at (layer_at (slice_set layers m layer) k).fields (CellAt i j)) same.0
        ∙ ap (λ (a : LayerNumbers). salty_at a.fields (CellAt i j)) (layer_there layers m layer within)
        ∙ (λ t. salty_at layer.fields (CellAt (same.1 t) (same.2 t)))
        ∙ set_there (layer_at layers m).fields layer.fields n o it sets
        ∙ is
        ∙ sym (λ t. mixed_cell mix (length old) (column_left old (same.2 t * area.nx + same.1 t)) (same.0 t))

    pub mixes_one : ((l i j : ℕ) → Q l i j → IsThis m n o l i j ⊎ (P l i j × (IsThis m n o l i j → ⊥))) → ((l i j : ℕ) → P l i j → Q l i j) → Q m n o → Mixes area mix Q old (slice_set layers m layer)
    mixes_one split keep there = record {
      count = length-set layers m layer ∙ before.count;
      shapes = λ l less. let count = length-set layers m layer in each_layer (λ k a. IsLayerOf area a) layers m layer within
          (let of = before.shapes m within in record { fields = set_of area (layer_at layers m).fields layer.fields n o it of.fields sets; count = ap length left ∙ of.count })
          before.shapes l (omega arith);
      left = any_layer (λ k a. a.left ≡ (layer_at old k).left) layers m layer within (left ∙ before.left m) before.left;
      faces = λ l less. let count = before.count in each_layer (λ k a. a.fields.faces ≡ (layer_at old k).fields.faces) layers m layer within (sets.faces ∙ before.faces m (omega arith)) (λ k k_less. before.faces k (omega arith)) l (omega arith);
      meant = λ l i j less on q. elim (split l i j q) [
        | inl same ↦ this_cell l i j same
        | inr w ↦ other_cell l i j less on w.1 ∙ before.meant l i j less on w.0
      ];
      others = λ l i j less on never.
          other_cell l i j less on (λ same. never (by_same l i j same there)) ∙ before.others l i j less on (λ p. never (keep l i j p));
      holes = λ l side k depth less on.
          let count = before.count in
          each_layer (λ a_l a. salty_at a.fields (HoleAt side k depth) ≡ salty_at (layer_at old a_l).fields (HoleAt side k depth)) layers m layer within
          (let of = before.shapes m within in set_other area (layer_at layers m).fields layer.fields n o it of.fields sets (HoleAt side k depth) on (hole_not_cell side k depth n o) ∙ before.holes m side k depth (omega arith) on)
          (λ a_l a_less. before.holes a_l side k depth (omega arith) on) l (omega arith);
    }
      where
        by_same : (l i j : ℕ) → IsThis m n o l i j → Q m n o → Q l i j
        by_same l i j same q =
            subst (λ (k : ℕ). Q k i j) (sym same.0) (subst (λ (k : ℕ). Q m k j) (sym same.1) (subst (λ (k : ℕ). Q m n k) (sym same.2) q))

  -- what the vertical exchange makes of a column, by another name of the layers
  pub mixed_same : (old layers : List LayerNumbers) (place l : ℕ) → length layers ≡ length old → ((k : ℕ) → (layer_at layers k).left ≡ (layer_at old k).left) → mixed_cell mix (length layers) (column_left layers place) l ≡ mixed_cell mix (length old) (column_left old place) l
  mixed_same old layers place l count left =
      let column : column_left layers place ≡ column_left old place = λ t k. get_or (left k t) place nothing in
      λ t. mixed_cell mix (count t) (column t) l

  pub left_same : (old layers : List LayerNumbers) (place : ℕ) → length layers ≡ length old → ((k : ℕ) → (layer_at layers k).left ≡ (layer_at old k).left) → AreLeft old place → AreLeft layers place
  left_same old layers place count left are l less = subst (λ (cells : List Salty). IsSalty (get_or cells place nothing)) (sym (left l)) (are l (omega arith))

  row_split : (m n o l i j : ℕ) → IsMixedBefore m (n + 1) o l i j → IsThis m n o l i j ⊎ (IsMixedBefore m n o l i j × (IsThis m n o l i j → ⊥))
  row_split m n o l i j p = elim (cases_eq i n) [
    | inl e ↦ inl (p.layer, e, p.row)
    | inr ne ↦ let other : i ≡ n → ⊥ = ne in let below = p.column in inr (record { layer = p.layer; row = p.row; column = omega arith }, λ same. ne same.1)
  ]

  pub row_more : (m n o : ℕ) (old layers : List LayerNumbers) → Mixes area mix (IsMixedBefore m n o) old layers → m < length layers → IsSpot area (CellAt n o) → (layer : LayerNumbers) (it : Salty) → SetsCell (layer_at layers m).fields layer.fields n o it → layer.left ≡ (layer_at layers m).left → it ≡ mixed_cell mix (length layers) (column_left layers (o * area.nx + n)) m → Mixes area mix (IsMixedBefore m (n + 1) o) old (slice_set layers m layer)
  row_more m n o old layers before within here layer it sets left is =
      mixes_one (IsMixedBefore m n o) (IsMixedBefore m (n + 1) o) old layers before m n o within here layer it sets left
      (is ∙ mixed_same old layers (o * area.nx + n) m before.count before.left)
      (row_split m n o) (λ l i j p. let below = p.column in record { layer = p.layer; row = p.row; column = omega arith })
      (record { layer = refl; row = refl; column = omega arith })

  pub rows_more : (m n : ℕ) (old layers new : List LayerNumbers) → Mixes area mix (IsMixedBelow m n) old layers → Mixes area mix (IsMixedBefore m area.nx n) layers new → Mixes area mix (IsMixedBelow m (n + 1)) old new
  rows_more m n old layers new before after = record {
    count = after.count ∙ before.count;
    shapes = after.shapes;
    left = λ l. after.left l ∙ before.left l;
    faces = λ l less. let count = before.count in after.faces l (omega arith) ∙ before.faces l less;
    meant = λ l i j less on r. let count = before.count in elim (cases_eq j n) [
      | inl e ↦ after.meant l i j (omega arith) on (record { layer = r.layer; row = e; column = on.0 }) ∙ mixed_same old layers (j * area.nx + i) l before.count before.left
      | inr ne ↦
          let other : j ≡ n → ⊥ = ne in
          let below = r.row in
          after.others l i j (omega arith) on (λ q. ne q.row) ∙ before.meant l i j less on (record { layer = r.layer; row = omega arith })
    ];
    others = λ l i j less on never.
        let count = before.count in
        after.others l i j (omega arith) on (λ q. let row = q.row in never (record { layer = q.layer; row = omega arith }))
        ∙ before.others l i j less on (λ p. let below = p.row in never (record { layer = p.layer; row = omega arith }));
    holes = λ l side k depth less on. let count = before.count in after.holes l side k depth (omega arith) on ∙ before.holes l side k depth less on;
  }

  pub layers_more : (m : ℕ) (old layers new : List LayerNumbers) → Mixes area mix (IsMixedAbove m) old layers → Mixes area mix (IsMixedBelow m area.ny) layers new → Mixes area mix (IsMixedAbove (m + 1)) old new
  layers_more m old layers new before after = record {
    count = after.count ∙ before.count;
    shapes = after.shapes;
    left = λ l. after.left l ∙ before.left l;
    faces = λ l less. let count = before.count in after.faces l (omega arith) ∙ before.faces l less;
    meant = λ l i j less on r. let count = before.count in elim (cases_eq l m) [
      | inl e ↦ after.meant l i j (omega arith) on (record { layer = e; row = on.1 }) ∙ mixed_same old layers (j * area.nx + i) l before.count before.left
      | inr ne ↦
          let other : l ≡ m → ⊥ = ne in
          let below : l < m + 1 = r in
          after.others l i j (omega arith) on (λ q. ne q.layer) ∙ before.meant l i j less on (omega arith)
    ];
    others = λ l i j less on never.
        let count = before.count in
        after.others l i j (omega arith) on (λ q. let layer = q.layer in never (omega arith))
        ∙ before.others l i j less on (λ p. let above : l < m = p in never (omega arith));
    holes = λ l side k depth less on. let count = before.count in after.holes l side k depth (omega arith) on ∙ before.holes l side k depth less on;
  }
