-- The lines of a mesh: a mosaic with the areas of its cells.
use Rattle.std.specs.Prelude.{ℕ, zero, suc, ◌+◌, ◌*◌, ◌==◌, ◌&&◌, nat_le, List, [], ◌∷◌, ◌++◌, length, map, take, drop, codes, Bool, true, false, Option, Some, None, if◌then◌else◌, ℤ, pos, negsuc}
use Rattle.std.specs.List.{list_all}
use Rattle.cpl_fixed.specs.declared.limits.TheConstants.{MOST_TILES, LONGEST_SIDE, MOST_CELLS, MOST_CONTACTS, MOST_AREA, MOST_IN_ROW}
use Rattle.cpl_mosaic.specs.declared.parts.Side.{Side}
use Rattle.cpl_mosaic.specs.declared.parts.Side.TheVariants.{W, E, S, N}
use Rattle.cpl_mosaic.specs.declared.parts.Tile.{Tile}
use Rattle.cpl_mosaic.specs.declared.parts.Span.{Span}
use Rattle.cpl_mosaic.specs.declared.parts.Contact.{Contact}
use Rattle.cpl_mosaic.specs.declared.mosaic.Mesh.{Mesh}
use Rattle.cpl_lines.specs.Fields.{Field, Number, Letter, Kind, AnyNumber, OneOf}
use Rattle.cpl_lines.specs.Lines.{Line, Form, row, row_form, at, values}
use Rattle.cpl_lines.specs.Formats.{Format}
use Rattle.cpl_gridfile.specs.declared.next_line.GridMesh.{GridMesh}
use Rattle.cpl_gridfile.specs.declared.next_line.GridMesh.TheVariants as mesh
use Rattle.cpl_gridfile.specs.declared.next_line.MeshLine.{MeshLine}
use Rattle.cpl_gridfile.specs.declared.next_line.MeshLine.TheVariants as line

-- ---- contacts

-- the letters of sides are W, E, S and N
abbrev pub side_letter : Side → ℕ
side_letter W = 87
side_letter E = 69
side_letter S = 83
side_letter N = 78

abbrev pub side_of : ℕ → Side
side_of letter =
    if letter == 87 then W else (if letter == 69 then E else (if letter == 83 then S else N))

-- whether a contact is flipped is told by 0 or 1
abbrev pub flip_letter : Bool → ℕ
flip_letter true = 49
flip_letter false = 48

-- a range: its tile, its side and its ends
abbrev pub span_fields : Span → List Field
span_fields span = Number span.tile ∷ Letter (side_letter span.side) ∷ Number span.lo ∷ Number span.hi ∷ []

abbrev pub contact_line : Contact → Line
contact_line contact = record {
  word = codes "contact";
  fields = span_fields contact.first ++ (span_fields contact.second ++ Letter (flip_letter contact.flip) ∷ []);
}

abbrev pub span_kinds : List Kind
span_kinds = AnyNumber ∷ OneOf (codes "WESN") ∷ AnyNumber ∷ AnyNumber ∷ []

abbrev pub contact_form : Form
contact_form = record { word = codes "contact"; kinds = span_kinds ++ (span_kinds ++ OneOf (codes "01") ∷ []) }

-- the range that a line tells from its k-th field on
abbrev pub span_of : Line → ℕ → Span
span_of line k = record { tile = at line k; side = side_of (at line (k + 1)); lo = at line (k + 2); hi = at line (k + 3) }

abbrev pub contact_of : Line → Contact
contact_of line = record { first = span_of line 0; second = span_of line 4; flip = at line 8 == 49 }

abbrev pub span_keeps_limits : Span → Bool
span_keeps_limits span = nat_le span.tile MOST_IN_ROW && nat_le span.lo MOST_IN_ROW && nat_le span.hi MOST_IN_ROW

abbrev pub contact_keeps_limits : Contact → Bool
contact_keeps_limits contact = span_keeps_limits contact.first && span_keeps_limits contact.second

-- ---- tiles

abbrev pub tile_of : ℕ → ℕ → Tile
tile_of nx ny = record { nx = nx; ny = ny }

abbrev pub tile_keeps_limits : ℕ → ℕ → ℕ → Bool
tile_keeps_limits cells nx ny =
    nat_le 1 nx && nat_le nx LONGEST_SIDE && nat_le 1 ny && nat_le ny LONGEST_SIDE && nat_le (cells + nx * ny) MOST_CELLS

-- ---- which line comes next

abbrev pub next_tile : ℕ → ℕ → Option MeshLine
next_tile zero cells = Some line.Contacts
next_tile (suc more) cells = Some (line.Tile more cells)

abbrev pub next_row : ℕ → ℕ → ℕ → ℕ → Option MeshLine
next_row nx zero more cells = next_tile more cells
next_row nx (suc rows) more cells = Some (line.Area nx rows more cells)

-- after the last contact the mesh ends
abbrev pub next_contact : ℕ → Option MeshLine
next_contact zero = None
next_contact (suc more) = Some (line.Contact more)

abbrev pub mesh_after : MeshLine → Line → Option MeshLine
mesh_after line.Mosaic said = next_tile (at said 0) 0
mesh_after (line.Tile more cells) said = next_row (at said 0) (at said 1) more (cells + at said 0 * at said 1)
mesh_after (line.Area nx rows more cells) said = next_row nx rows more cells
mesh_after line.Contacts said = next_contact (at said 0)
mesh_after (line.Contact more) said = next_contact more

abbrev pub mosaic_word : GridMesh → List ℕ
mosaic_word mesh.Atmos = codes "mosaic atmos"
mosaic_word mesh.Land = codes "mosaic land"
mosaic_word mesh.Ocean = codes "mosaic ocean"

abbrev pub mesh_form : GridMesh → MeshLine → Form
mesh_form mesh line.Mosaic = row_form (mosaic_word mesh) 1
mesh_form mesh (line.Tile more cells) = row_form (codes "tile") 2
mesh_form mesh (line.Area nx rows more cells) = row_form (codes "area") nx
mesh_form mesh line.Contacts = row_form (codes "contacts") 1
mesh_form mesh (line.Contact more) = contact_form

-- Whether the line's numbers keep the limits: 1 to 16 tiles of 1 to 1,024 by 1 to 1,024 cells, at most 2^18 cells so far,
-- areas of at most 2^40, at most 256 contacts, and numbers of at most 65,535 in them.
abbrev pub mesh_keeps : MeshLine → Line → Bool
mesh_keeps line.Mosaic said = nat_le 1 (at said 0) && nat_le (at said 0) MOST_TILES
mesh_keeps (line.Tile more cells) said = tile_keeps_limits cells (at said 0) (at said 1)
mesh_keeps (line.Area nx rows more cells) said = list_all (λ area. nat_le area MOST_AREA) (values said)
mesh_keeps line.Contacts said = nat_le (at said 0) MOST_CONTACTS
mesh_keeps (line.Contact more) said = contact_keeps_limits (contact_of said)

-- ---- what lines add

abbrev pub no_mesh : Mesh
no_mesh = record { mosaic = record { tiles = []; contacts = [] }; area = [] }

abbrev pub with_tiles : List Tile → Mesh → Mesh
with_tiles tiles mesh = record { mosaic = record { tiles = mesh.mosaic.tiles ++ tiles; contacts = mesh.mosaic.contacts }; area = mesh.area }

abbrev pub with_areas : List ℤ → Mesh → Mesh
with_areas areas mesh = record { mosaic = mesh.mosaic; area = mesh.area ++ areas }

abbrev pub with_contacts : List Contact → Mesh → Mesh
with_contacts contacts mesh =
    record { mosaic = record { tiles = mesh.mosaic.tiles; contacts = mesh.mosaic.contacts ++ contacts }; area = mesh.area }

abbrev pub mesh_add : MeshLine → Line → Mesh → Mesh
mesh_add line.Mosaic said mesh = mesh
mesh_add (line.Tile more cells) said mesh = with_tiles (tile_of (at said 0) (at said 1) ∷ []) mesh
mesh_add (line.Area nx rows more cells) said mesh = with_areas (map pos (values said)) mesh
mesh_add line.Contacts said mesh = mesh
mesh_add (line.Contact more) said mesh = with_contacts (contact_of said ∷ []) mesh

-- ---- the format

abbrev pub mesh_form_at : GridMesh → Option MeshLine → Option Form
mesh_form_at mesh None = None
mesh_form_at mesh (Some next) = Some (mesh_form mesh next)

abbrev pub mesh_keeps_at : Option MeshLine → Line → Bool
mesh_keeps_at None said = false
mesh_keeps_at (Some next) said = mesh_keeps next said

abbrev pub mesh_after_at : Option MeshLine → Line → Option MeshLine
mesh_after_at None said = None
mesh_after_at (Some next) said = mesh_after next said

abbrev pub mesh_add_at : Option MeshLine → Line → Mesh → Mesh
mesh_add_at None said mesh = mesh
mesh_add_at (Some next) said mesh = mesh_add next said mesh

-- the lines of a mesh, in order: the mosaic, each tile with its rows of areas, and the contacts
abbrev pub mesh_format : GridMesh → Format (Option MeshLine) Mesh
mesh_format mesh = record { form = mesh_form_at mesh; keeps = mesh_keeps_at; after = mesh_after_at; add = mesh_add_at }

-- ---- the lines of a mesh

-- an area as the number that the text has
abbrev pub magnitude : ℤ → ℕ
magnitude (pos n) = n
magnitude (negsuc n) = 0

-- this many rows of nx areas each
abbrev pub row_lines : ℕ → ℕ → List ℤ → List Line
row_lines zero nx areas = []
row_lines (suc rows) nx areas = row (codes "area") (map magnitude (take nx areas)) ∷ row_lines rows nx (drop nx areas)

-- each tile with its rows of areas
abbrev pub tile_lines : List Tile → List ℤ → List Line
tile_lines [] areas = []
tile_lines (tile ∷ tiles) areas =
    row (codes "tile") (tile.nx ∷ tile.ny ∷ []) ∷ row_lines tile.ny tile.nx areas ++ tile_lines tiles (drop (tile.nx * tile.ny) areas)

abbrev pub mesh_lines : GridMesh → Mesh → List Line
mesh_lines name mesh =
    row (mosaic_word name) (length mesh.mosaic.tiles ∷ [])
    ∷ (tile_lines mesh.mosaic.tiles mesh.area ++ row (codes "contacts") (length mesh.mosaic.contacts ∷ []) ∷ map contact_line mesh.mosaic.contacts)
