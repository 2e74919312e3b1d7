-- What edges and scripts go by, and the pieces of all four components: numbered atmos, land, ice, ocean.
use Rattle.std.specs.Prelude.{ℕ, ◌+◌, ◌-◌, nat_lt, List, if◌then◌else◌, slice_index_or}
use Rattle.std.specs.List.{range_with_len}
use Rattle.cpl_fixed.specs.declared.words.Component.{Component}
use Rattle.cpl_fixed.specs.declared.words.Component.TheVariants.{Atmos, Land, Ice, Ocean}
use Rattle.cpl_mosaic.specs.declared.parts.CellId.{CellId}
use Rattle.cpl_mosaic.specs.declared.mosaic.Mesh.{Mesh}
use Rattle.cpl_layout.specs.declared.piece.Piece.{Piece}
use Rattle.cpl_layout.specs.Layouts.{Cuts, IsLayout}
use Rattle.cpl_layout.specs.Pieces.{pieces_of, piece_of, owner_of}
use Rattle.cpl_namelist.specs.declared.names.Names.{Names}
use Rattle.cpl_namelist.specs.Ranges.{AreNames}
use Rattle.cpl_xgrid.specs.declared.grid.Grid.{Grid}

pub record Setting : Type 0 where
  pub grid : Grid
  pub names : Names

-- the ice has the ocean's mesh
abbrev pub mesh_of : Grid → Component → Mesh
mesh_of grid Atmos = grid.air
mesh_of grid Land = grid.land
mesh_of grid Ice = grid.ocean
mesh_of grid Ocean = grid.ocean

-- the place of a component in the namelist's layouts
abbrev pub layout_place : Component → ℕ
layout_place Atmos = 0
layout_place Land = 1
layout_place Ice = 2
layout_place Ocean = 3

-- into how many columns and rows of pieces each tile of a component is cut
abbrev pub pieces_along : Names → Component → ℕ × ℕ
pieces_along names component = slice_index_or names.layouts (layout_place component) (0, 0)

abbrev pub layout_of : Setting → Component → Cuts
layout_of setting component = record {
  tiles = (mesh_of setting.grid component).mosaic.tiles;
  px = (pieces_along setting.names component).0;
  py = (pieces_along setting.names component).1;
}

-- how many pieces a component has
unfoldable pub pieces_in : Setting → Component → ℕ
pieces_in setting component = pieces_of (layout_of setting component)

-- the first piece of a component
abbrev pub base_of : Setting → Component → ℕ
base_of setting Atmos = 0
base_of setting Land = pieces_in setting Atmos
base_of setting Ice = pieces_in setting Atmos + pieces_in setting Land
base_of setting Ocean = pieces_in setting Atmos + pieces_in setting Land + pieces_in setting Ice

-- how many pieces all components have
abbrev pub piece_count : Setting → ℕ
piece_count setting = pieces_in setting Atmos + pieces_in setting Land + pieces_in setting Ice + pieces_in setting Ocean

-- the pieces of a component, and all pieces
abbrev pub pieces_for : Setting → Component → List ℕ
pieces_for setting component = range_with_len (base_of setting component) (pieces_in setting component)

abbrev pub all_pieces : Setting → List ℕ
all_pieces setting = range_with_len 0 (piece_count setting)

-- the component that a piece is of
abbrev pub component_of : Setting → ℕ → Component
component_of setting piece =
    if nat_lt piece (base_of setting Land) then Atmos else (if nat_lt piece (base_of setting Ice) then Land else (if nat_lt piece (base_of setting Ocean) then Ice else Ocean))

-- the cells of a piece
abbrev pub cells_of_piece : Setting → ℕ → Piece
cells_of_piece setting piece =
    let component = component_of setting piece in piece_of (layout_of setting component) (piece - base_of setting component)

-- the piece that a cell of a component lies in
abbrev pub piece_with : Setting → Component → CellId → ℕ
piece_with setting component cell = base_of setting component + owner_of (layout_of setting component) cell

-- the names are in their ranges, and each component's layout fits its mosaic
pub record IsSetting (setting : Setting) : Type 0 where
  pub names_are : AreNames setting.names
  pub layouts : (component : Component) → IsLayout (layout_of setting component)
