-- The layers of a piece of the ocean.
use Rattle.std.specs.Prelude.{◌≡◌, ℕ, ◌*◌, ◌<◌, List, [], length, pos, slice_index_or}
use Rattle.cpl_layout.specs.declared.piece.Piece.{Piece}
use Rattle.cpl_field.specs.Crossings.{SideAt, outward_at}
use Rattle.cpl_field.specs.Spots.{FieldNumbers, Spot, CellAt, IsSameShape, Sets, number_at}
use Rattle.cpl_ice.specs.declared.parts.Salty.{Salty}
use Rattle.cpl_transport.specs.Salts.{nothing}
use Rattle.cpl_ocean.specs.declared.fields.Fields.{Fields}

-- water, heat and salt of a cell or a hole
abbrev pub salty_at : Fields → Spot → Salty
salty_at fields spot = record { water = number_at fields.water spot; heat = number_at fields.heat spot; salt = number_at fields.salt spot }

-- the fields have one shape, and the faces are those of their cells
pub record AreAlike (fields : Fields) : Type 0 where
  pub heat : IsSameShape fields.water fields.heat
  pub salt : IsSameShape fields.water fields.salt
  pub columns : fields.faces.nx ≡ fields.water.nx
  pub rows : fields.faces.ny ≡ fields.water.ny

-- the fields of a piece with these areas
pub record AreOf (area : FieldNumbers) (fields : Fields) : Type 0 where
  pub shape : IsSameShape area fields.water
  pub alike : AreAlike fields

-- one cell has new numbers, and all else keeps its own
pub record SetsCell (old new : Fields) (i j : ℕ) (it : Salty) : Type 0 where
  pub water : Sets old.water new.water (CellAt i j) it.water
  pub heat : Sets old.heat new.heat (CellAt i j) it.heat
  pub salt : Sets old.salt new.salt (CellAt i j) it.salt
  pub faces : new.faces ≡ old.faces

-- a layer of a piece: its fields, and what the transport leaves in each of its cells, the rows one after another
pub record LayerNumbers : Type 0 where
  pub fields : Fields
  pub left : List Salty

-- what a read past the layers would give
abbrev pub no_field : FieldNumbers
no_field = record { nx = 0; ny = 0; width = 0; numbers = [] }

abbrev pub no_layer : LayerNumbers
no_layer = record {
  fields = record { water = no_field; heat = no_field; salt = no_field; faces = record { nx = 0; ny = 0; eastward = []; northward = [] } };
  left = [];
}

abbrev pub layer_at : List LayerNumbers → ℕ → LayerNumbers
layer_at layers l = slice_index_or layers l no_layer

-- a layer's fields have the shape of the piece, and hold zeros
pub record IsEmptyLayer (piece : Piece) (layer : LayerNumbers) : Type 0 where
  pub columns : layer.fields.water.nx ≡ piece.nx
  pub rows : layer.fields.water.ny ≡ piece.ny
  pub width : layer.fields.water.width ≡ 2
  pub alike : AreAlike layer.fields
  pub count : length layer.left ≡ piece.nx * piece.ny
  pub cells : (spot : Spot) → salty_at layer.fields spot ≡ nothing
  pub faces : (a : SideAt) → outward_at layer.fields.faces a ≡ pos 0

-- each layer has the shape of a piece with these areas
pub record IsLayerOf (area : FieldNumbers) (layer : LayerNumbers) : Type 0 where
  pub fields : AreOf area layer.fields
  pub count : length layer.left ≡ area.nx * area.ny

abbrev pub AreLayersOf : (area : FieldNumbers) → List LayerNumbers → Type 0
AreLayersOf area layers = (l : ℕ) → l < length layers → IsLayerOf area (layer_at layers l)

-- each layer changes as is said
pub record EachLayer (Changes : LayerNumbers → LayerNumbers → Type 0) (old new : List LayerNumbers) : Type 0 where
  pub count : length new ≡ length old
  pub each : (l : ℕ) → l < length old → Changes (layer_at old l) (layer_at new l)
