-- What a step of the ocean goes by, and what it makes of that.
use Rattle.std.specs.Prelude.{◌≡◌, ℕ, ◌+◌, ◌*◌, ◌<◌, ◌≤◌, List, length, ℤ, All}
use Rattle.cpl_fixed.specs.Amounts.{IsAmount, at}
use Rattle.cpl_ice.specs.declared.parts.Salty.{Salty}
use Rattle.cpl_transport.specs.Cells.{mixed_cell}
use Rattle.cpl_transport.specs.Heights.{IsHeight}
use Rattle.cpl_transport.specs.Salts.{AreSmall, without}
use Rattle.cpl_sea.specs.declared.before.Before.{Before}
use Rattle.cpl_sea.specs.Blocks.{AreReady}
use Rattle.cpl_sea.specs.Passes.{AreColumns, IsLinkWithin, cell_faces_at, flow_in, link_at, number_after, out_of, salty_at, top_at}

-- a step can go by it: its lists agree with one another, and all numbers are in range
pub record IsLawful (before : Before) : Type 0 where
  pub slope : before.slope ≤ 40
  pub mix : (2 ≤ before.mix) × (before.mix ≤ 40)
  pub heights : All IsHeight before.heights.now
  pub links : All (IsLinkWithin (length before.heights.now)) before.links.now
  pub few : length before.links.now ≤ 4 * length before.heights.now
  pub cell_count : length before.cell_faces.now ≡ length before.heights.now
  pub ready : AreReady (length before.links.now) before.cell_faces.now before.ready.now
  pub columns : AreColumns before.layers (length before.heights.now) (length before.water.now)
  pub heat_count : length before.heat.now ≡ length before.water.now
  pub salt_count : length before.salt.now ≡ length before.water.now
  pub water : All IsAmount before.water.now
  pub heat : All IsAmount before.heat.now
  pub salt : All IsAmount before.salt.now

-- the cell at a place of those of all layers, before the step
abbrev pub cell_at : Before → (place : ℕ) → Salty
cell_at before = top_at before.water.now before.heat.now before.salt.now

-- the place of a layer's cell among those of all layers, and of its face
abbrev pub cell_place : Before → (layer n : ℕ) → ℕ
cell_place before layer n = layer * length before.heights.now + n

abbrev pub face_place : Before → (layer f : ℕ) → ℕ
face_place before layer f = layer * length before.links.now + f

-- the numbers of a layer's faces after the step, and what moves through them, from the numbers before it
abbrev pub layer_numbers : Before → (faces : List ℤ) → (layer f : ℕ) → ℤ
layer_numbers before faces layer f = number_after before.slope before.heights.now (link_at before.links.now f) (at faces (face_place before layer f))

abbrev pub layer_flows : Before → (faces : List ℤ) → (layer f : ℕ) → Salty
layer_flows before faces layer f = flow_in (cell_at before) (layer * length before.heights.now) (link_at before.links.now f) (layer_numbers before faces layer f)

-- The faces of a layer from one number up to another have moved: they have the number after the step, and what moves through them is
-- known. The faces before them stand, and those behind them have the number they had.
pub record HasMoved (before : Before) (layer from to : ℕ) (faces moved : List ℤ) (flows moving : List Salty) : Type 0 where
  pub numbers : (f : ℕ) → from ≤ f → f < to → at moved (face_place before layer f) ≡ layer_numbers before faces layer f
  pub flown : (f : ℕ) → from ≤ f → f < to → salty_at moving (face_place before layer f) ≡ layer_flows before faces layer f
  pub small : (f : ℕ) → from ≤ f → f < to → AreSmall (salty_at moving (face_place before layer f))
  pub earlier : (f : ℕ) → f < from → at moved (face_place before layer f) ≡ at faces (face_place before layer f)
  pub flows_earlier : (f : ℕ) → f < from → salty_at moving (face_place before layer f) ≡ salty_at flows (face_place before layer f)
  pub later : (f : ℕ) → to ≤ f → f < length before.links.now → at moved (face_place before layer f) ≡ at faces (face_place before layer f)

-- those of the first layers have
abbrev pub HaveMoved : Before → (layers from to : ℕ) → (faces moved : List ℤ) → (flows moving : List Salty) → Type 0
HaveMoved before layers from to faces moved flows moving = (layer : ℕ) → layer < layers → HasMoved before layer from to faces moved flows moving

-- all faces of a layer stand
pub record Stands (before : Before) (layer : ℕ) (faces moved : List ℤ) (flows moving : List Salty) : Type 0 where
  pub numbers : (f : ℕ) → f < length before.links.now → at moved (face_place before layer f) ≡ at faces (face_place before layer f)
  pub flown : (f : ℕ) → f < length before.links.now → salty_at moving (face_place before layer f) ≡ salty_at flows (face_place before layer f)

-- what is left in a cell where this moves through the faces of its layer
abbrev pub left_by : Before → (flows : ℕ → Salty) → (layer n : ℕ) → Salty
left_by before flows layer n = without (cell_at before (cell_place before layer n)) (out_of flows (cell_faces_at before.cell_faces.now n))

-- what the transport leaves in it, from the faces' numbers before the step
abbrev pub left_in : Before → (faces : List ℤ) → (layer n : ℕ) → Salty
left_in before faces layer n = left_by before (layer_flows before faces layer) layer n

-- the first cells of each layer have in the three lists what the exchange makes of what is left in their columns
abbrev pub AreMixed : Before → (left : (layer n : ℕ) → Salty) → (first : ℕ) → (water heat salt : List ℤ) → Type 0
AreMixed before left first water heat salt = (layer n : ℕ) → layer < before.layers → n < first
    → ◌≡◌ {A = Salty} (top_at water heat salt (cell_place before layer n)) (mixed_cell before.mix before.layers (λ l. left l n) layer)
