-- Lines in order of a mesh are those of a mesh within the limits.
use Rattle.std.proofs.Common.{◌≡◌, ◌∙◌, refl, sym, ap, ℕ, zero, suc, ◌+◌, ◌*◌, ◌≤◌, List, [], ◌∷◌, ◌++◌, length, map, codes, Option, Some, All, arith, leb, append_assoc, length-append, ℤ, pos}
use Rattle.std.proofs.lemmas.Bool.{leb-true, and_parts}
use Rattle.std.proofs.lemmas.List.{take_at, drop_at, length-map}
use Rattle.std.proofs.lemmas.List.Elements.{All-nil, All-cons, All-append}
use Rattle.cpl_fixed.specs.declared.limits.TheConstants.{MOST_TILES, MOST_CELLS, MOST_CONTACTS}
use Rattle.cpl_mosaic.specs.declared.parts.Tile.{Tile}
use Rattle.cpl_mosaic.specs.declared.parts.Contact.{Contact}
use Rattle.cpl_mosaic.specs.declared.mosaic.Mesh.{Mesh}
use Rattle.cpl_mosaic.specs.Contacts.{IsTile, cells_of}
use Rattle.cpl_lines.specs.Lines.{Line, row, row_form, values, at}
use Rattle.cpl_lines.proofs.Turns.{InOrder}
use Rattle.cpl_lines.proofs.RowForms.{line_is, row_is}
use Rattle.cpl_gridfile.specs.declared.next_line.GridMesh.{GridMesh}
use Rattle.cpl_gridfile.specs.declared.next_line.MeshLine.{MeshLine}
use Rattle.cpl_gridfile.specs.declared.next_line.MeshLine.TheVariants as line
use Rattle.cpl_gridfile.specs.MeshFormat.{mesh_format, row_lines, tile_lines, mesh_lines, contact_line, contact_of, next_tile, next_row, next_contact, mosaic_word, tile_of}
use Rattle.cpl_gridfile.specs.Within.{IsArea, ContactIsWithin, IsWithinLimits}
use Rattle.cpl_gridfile.proofs.Bounds.{magnitudes_pos, areas_within, tile_within, contact_within, contact_back}

module _ (name : GridMesh) where
  abbrev MeshOrder : Option MeshLine → List Line → Type 0
  MeshOrder = InOrder (mesh_format name)

  -- the contacts that lines list
  record Listed (more : ℕ) (lines : List Line) : Type 0 where
    contacts : List Contact
    number : length contacts ≡ more
    each : All ContactIsWithin contacts
    text : lines ≡ map contact_line contacts

  contacts_are : (more : ℕ) (lines : List Line) → MeshOrder (next_contact more) lines → Listed more lines
  contacts_are zero [] order = record { contacts = []; number = refl; each = All-nil ContactIsWithin; text = refl }
  contacts_are zero (line ∷ lines) order = absurd order.0
  contacts_are (suc more) [] order = absurd cc
  contacts_are (suc more) (line ∷ lines) order =
      let contact : Contact = contact_of line in
      let others = contacts_are more lines order.2 in
      let first = contact_back line order.0 in
      record {
        contacts = contact ∷ others.contacts;
        number = ap suc others.number;
        each = All-cons ContactIsWithin contact others.contacts (contact_within contact order.1) others.each;
        text = λ i. first i ∷ others.text i;
      }

  -- the contacts after the tiles
  record Closing (lines : List Line) : Type 0 where
    contacts : List Contact
    few : length contacts ≤ MOST_CONTACTS
    each : All ContactIsWithin contacts
    text : lines ≡ row (codes "contacts") (length contacts ∷ []) ∷ map contact_line contacts

  closing_is : (lines : List Line) → MeshOrder (Some line.Contacts) lines → Closing lines
  closing_is [] order = absurd cc
  closing_is (line ∷ lines) order =
      let listed = contacts_are (at line 0) lines order.2 in
      let first = line_is (row_form (codes "contacts") 1) line order.0 in
      let counted : line ≡ row (codes "contacts") (length listed.contacts ∷ []) = first ∙ λ i. row (codes "contacts") (sym listed.number i ∷ []) in
      record {
        contacts = listed.contacts;
        few = omega (arith, leb-true (at line 0) MOST_CONTACTS order.1, listed.number);
        each = listed.each;
        text = λ i. counted i ∷ listed.text i;
      }

  -- the areas of a tile's rows, which other areas may follow
  record Rows (rows nx more cells : ℕ) (lines : List Line) : Type 0 where
    areas : List ℤ
    rest : List Line
    count : length areas ≡ nx * rows
    each : All IsArea areas
    order : MeshOrder (next_tile more cells) rest
    text : (others : List ℤ) → lines ≡ row_lines rows nx (areas ++ others) ++ rest

  rows_are : (rows nx more cells : ℕ) (lines : List Line) → MeshOrder (next_row nx rows more cells) lines → Rows rows nx more cells lines
  rows_are zero nx more cells lines order = record { areas = []; rest = lines; count = omega arith; each = All-nil IsArea; order = order; text = λ others. refl }
  rows_are (suc rows) nx more cells [] order = absurd cc
  rows_are (suc rows) nx more cells (line ∷ lines) order =
      let later = rows_are rows nx more cells lines order.2 in
      let said = row_is (codes "area") nx line order.0 in
      let areas : List ℤ = map pos (values line) in
      let width : length areas ≡ nx = length-map (values line) pos ∙ said.1 in
      record {
        areas = areas ++ later.areas;
        rest = later.rest;
        count = omega (arith, length-append areas later.areas, later.count, width);
        each = All-append IsArea areas later.areas (areas_within (values line) order.1) later.each;
        order = later.order;
        text = λ others.
            let more_areas : List ℤ = later.areas ++ others in
            rw (append_assoc areas later.areas others, take_at areas more_areas nx width, drop_at areas more_areas nx width, magnitudes_pos (values line))
            (λ i. said.0 i ∷ later.text others i);
      }

  -- the tiles that lines list, with the areas of their cells
  record Tiles (more cells : ℕ) (lines : List Line) : Type 0 where
    tiles : List Tile
    areas : List ℤ
    rest : List Line
    number : length tiles ≡ more
    shapes : All IsTile tiles
    few : cells ≤ MOST_CELLS → cells + cells_of tiles ≤ MOST_CELLS
    count : length areas ≡ cells_of tiles
    each : All IsArea areas
    order : MeshOrder (Some line.Contacts) rest
    text : lines ≡ tile_lines tiles areas ++ rest

  tiles_are : (more cells : ℕ) (lines : List Line) → MeshOrder (next_tile more cells) lines → Tiles more cells lines
  tiles_are zero cells lines order = record {
    tiles = [];
    areas = [];
    rest = lines;
    number = refl;
    shapes = All-nil IsTile;
    few = λ few. omega arith;
    count = refl;
    each = All-nil IsArea;
    order = order;
    text = refl;
  }
  tiles_are (suc more) cells [] order = absurd cc
  tiles_are (suc more) cells (line ∷ lines) order =
      let nx : ℕ = at line 0 in
      let ny : ℕ = at line 1 in
      let tile : Tile = tile_of nx ny in
      let said = line_is (row_form (codes "tile") 2) line order.0 in
      let limits = tile_within cells nx ny order.1 in
      let rows = rows_are ny nx more (cells + nx * ny) lines order.2 in
      let others = tiles_are more (cells + nx * ny) rows.rest rows.order in
      let first : List Line = row_lines ny nx (rows.areas ++ others.areas) in
      let later : List Line = tile_lines others.tiles others.areas in
      let texts : lines ≡ first ++ later ++ others.rest =
      rows.text others.areas ∙ ap (λ (l : List Line). first ++ l) others.text ∙ sym (append_assoc first later others.rest) in
      record {
        tiles = tile ∷ others.tiles;
        areas = rows.areas ++ others.areas;
        rest = others.rest;
        number = ap suc others.number;
        shapes = All-cons IsTile tile others.tiles limits.0 others.shapes;
        few = λ few. omega (arith, others.few limits.1);
        count = omega (arith, length-append rows.areas others.areas, rows.count, others.count);
        each = All-append IsArea rows.areas others.areas rows.each others.each;
        order = others.order;
        text = rw (drop_at rows.areas others.areas (nx * ny) rows.count) (λ i. said i ∷ texts i);
      }

  -- the mesh of lines in order
  pub record IsOfMesh (lines : List Line) : Type 0 where
    pub mesh : Mesh
    pub limits : IsWithinLimits mesh
    pub text : lines ≡ mesh_lines name mesh

  pub mesh_of_lines : (lines : List Line) → InOrder (mesh_format name) (Some line.Mosaic) lines → IsOfMesh lines
  mesh_of_lines [] order = absurd cc
  mesh_of_lines (line ∷ lines) order =
      let number : ℕ = at line 0 in
      let said = line_is (row_form (mosaic_word name) 1) line order.0 in
      let listed = tiles_are number 0 lines order.2 in
      let closing = closing_is listed.rest listed.order in
      let keeps = and_parts (leb 1 number) (leb number MOST_TILES) order.1 in
      let counted : line ≡ row (mosaic_word name) (length listed.tiles ∷ []) = said ∙ λ i. row (mosaic_word name) (sym listed.number i ∷ []) in
      let texts = listed.text ∙ ap (λ (l : List Line). tile_lines listed.tiles listed.areas ++ l) closing.text in
      record {
        mesh = record { mosaic = record { tiles = listed.tiles; contacts = closing.contacts }; area = listed.areas };
        limits = record {
          tiles = record {
            least = omega (arith, leb-true 1 number keeps.0, listed.number);
            most = omega (arith, leb-true number MOST_TILES keeps.1, listed.number);
            each = listed.shapes;
            cells = omega (arith, listed.few (omega arith));
          };
          few = closing.few;
          contacts = closing.each;
          count = listed.count;
          areas = listed.each;
        };
        text = λ i. counted i ∷ texts i;
      }
