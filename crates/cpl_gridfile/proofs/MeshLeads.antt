-- The lines of a mesh lead from its beginning to its end, and make it.
use Rattle.std.proofs.Common.{◌≡◌, ◌∙◌, refl, sym, ap, subst, ℕ, zero, suc, ◌+◌, ◌*◌, ◌≤◌, List, [], ◌∷◌, ◌++◌, length, take, drop, map, codes, Option, Some, None, All, arith, length-drop, append_assoc, ℤ, pos}
use Rattle.std.proofs.Math.Seq.{take-add}
use Rattle.std.proofs.lemmas.Bool.{le-leb, and_from}
use Rattle.std.proofs.lemmas.List.{append-nil, length-take, take_all, length-map}
use Rattle.std.proofs.lemmas.List.Elements.{All-head, All-tail, All-take, All-drop}
use Rattle.cpl_fixed.specs.declared.limits.TheConstants.{MOST_TILES, MOST_CELLS, MOST_CONTACTS}
use Rattle.cpl_mosaic.specs.declared.parts.Tile.{Tile}
use Rattle.cpl_mosaic.specs.declared.parts.Contact.{Contact}
use Rattle.cpl_mosaic.specs.declared.mosaic.Mesh.{Mesh}
use Rattle.cpl_mosaic.specs.Contacts.{IsTile, cells_of}
use Rattle.cpl_lines.specs.Lines.{Line, row}
use Rattle.cpl_lines.proofs.Paths.{Leads, leads_on}
use Rattle.cpl_lines.proofs.RowForms.{row_has_form, values_of_row}
use Rattle.cpl_gridfile.specs.declared.next_line.GridMesh.{GridMesh}
use Rattle.cpl_gridfile.specs.declared.next_line.MeshLine.{MeshLine}
use Rattle.cpl_gridfile.specs.declared.next_line.MeshLine.TheVariants as line
use Rattle.cpl_gridfile.specs.MeshFormat.{mesh_format, magnitude, row_lines, tile_lines, mesh_lines, contact_line, next_tile, next_row, next_contact, no_mesh, with_tiles, with_areas, with_contacts}
use Rattle.cpl_gridfile.specs.Within.{IsArea, ContactIsWithin, IsWithinLimits}
use Rattle.cpl_gridfile.proofs.Bounds.{pos_magnitudes, areas_keep, areas_are_short, tile_keeps, contact_keeps, contact_again, contact_has_form}

module _ (name : GridMesh) where
  -- lines of the mesh lead from one of its lines to another
  abbrev MeshLeads : Option MeshLine → Mesh → List Line → Option MeshLine → Mesh → Type 0
  MeshLeads = Leads (mesh_format name)

  -- ---- contacts

  with_no_contacts : (mesh : Mesh) → mesh ≡ with_contacts [] mesh
  with_no_contacts mesh =
      let same : mesh.mosaic.contacts ≡ mesh.mosaic.contacts ++ [] = sym (append-nil mesh.mosaic.contacts) in
      λ i. record { mosaic = record { tiles = mesh.mosaic.tiles; contacts = same i }; area = mesh.area }

  with_more_contacts : (first others : List Contact) (mesh : Mesh) → with_contacts others (with_contacts first mesh) ≡ with_contacts (first ++ others) mesh
  with_more_contacts first others mesh =
      let same = append_assoc mesh.mosaic.contacts first others in
      λ i. record { mosaic = record { tiles = mesh.mosaic.tiles; contacts = same i }; area = mesh.area }

  contacts_lead : (contacts : List Contact) (mesh : Mesh) → All ContactIsWithin contacts
      → MeshLeads (next_contact (length contacts)) mesh (map contact_line contacts) None (with_contacts contacts mesh)
  contacts_lead [] mesh each = (refl, with_no_contacts mesh)
  contacts_lead (contact ∷ contacts) mesh each =
      let within = All-head ContactIsWithin contact contacts each in
      let again = contact_again contact in
      let others = contacts_lead contacts (with_contacts (contact ∷ []) mesh) (All-tail ContactIsWithin contact contacts each) in
      let joined = subst (MeshLeads (next_contact (length contacts)) (with_contacts (contact ∷ []) mesh) (map contact_line contacts) None)
      (with_more_contacts (contact ∷ []) contacts mesh) others in (
        contact_has_form contact within,
        contact_keeps contact within,
        subst (λ (told : Contact). MeshLeads (next_contact (length contacts)) (with_contacts (told ∷ []) mesh) (map contact_line contacts) None (with_contacts (contact ∷ contacts) mesh))
            (sym again) joined,
      )

  -- ---- areas

  with_no_areas : (mesh : Mesh) → mesh ≡ with_areas [] mesh
  with_no_areas mesh =
      let same : mesh.area ≡ mesh.area ++ [] = sym (append-nil mesh.area) in
      λ i. record { mosaic = mesh.mosaic; area = same i }

  with_more_areas : (first others : List ℤ) (mesh : Mesh) → with_areas others (with_areas first mesh) ≡ with_areas (first ++ others) mesh
  with_more_areas first others mesh =
      let same = append_assoc mesh.area first others in
      λ i. record { mosaic = mesh.mosaic; area = same i }

  -- a row of areas
  row_leads : (nx rows more cells : ℕ) (areas : List ℤ) (mesh : Mesh) → length areas ≡ nx → All IsArea areas
      → MeshLeads (Some (line.Area nx rows more cells)) mesh (row (codes "area") (map magnitude areas) ∷ []) (next_row nx rows more cells) (with_areas areas mesh)
  row_leads nx rows more cells areas mesh count each =
      let numbers : List ℕ = map magnitude areas in
      let length_is : length numbers ≡ nx = length-map areas magnitude ∙ count in
      let values = values_of_row numbers in
      let stored : with_areas (map pos numbers) mesh ≡ with_areas areas mesh = ap (λ (l : List ℤ). with_areas l mesh) (pos_magnitudes areas each) in (
        rw (← length_is) (row_has_form (codes "area") numbers (areas_are_short areas each)),
        rw values (areas_keep areas each),
        (refl, rw values stored),
      )

  rows_lead : (rows nx more cells : ℕ) (areas : List ℤ) (mesh : Mesh) → nx * rows ≤ length areas → All IsArea areas
      → MeshLeads (next_row nx rows more cells) mesh (row_lines rows nx areas) (next_tile more cells) (with_areas (take (nx * rows) areas) mesh)
  rows_lead zero nx more cells areas mesh enough each =
      let none : nx * 0 ≡ 0 = omega arith in
      (refl, with_no_areas mesh ∙ ap (λ (n : ℕ). with_areas (take n areas) mesh) (sym none))
  rows_lead (suc rows) nx more cells areas mesh enough each =
      let first : List ℤ = take nx areas in
      let later : List ℤ = drop nx areas in
      let room : nx + nx * rows ≤ length areas = omega arith in
      let width : length first ≡ nx = omega (arith, length-take nx areas) in
      let one = row_leads nx rows more cells first mesh width (All-take IsArea nx areas each) in
      let others = rows_lead rows nx more cells later (with_areas first mesh) (omega (arith, length-drop nx areas)) (All-drop IsArea nx areas each) in
      let count : nx + nx * rows ≡ nx * suc rows = omega arith in
      let split : first ++ take (nx * rows) later ≡ take (nx * suc rows) areas = sym (take-add nx (nx * rows) areas) ∙ ap (λ (n : ℕ). take n areas) count in
      let whole : with_areas (take (nx * rows) later) (with_areas first mesh) ≡ with_areas (take (nx * suc rows) areas) mesh =
      with_more_areas first (take (nx * rows) later) mesh ∙ ap (λ (l : List ℤ). with_areas l mesh) split in
      leads_on (mesh_format name) (Some (line.Area nx rows more cells)) mesh (row (codes "area") (map magnitude first) ∷ []) (next_row nx rows more cells) (with_areas first mesh)
      (row_lines rows nx later) (next_tile more cells) (with_areas (take (nx * suc rows) areas) mesh) one
      (subst (MeshLeads (next_row nx rows more cells) (with_areas first mesh) (row_lines rows nx later) (next_tile more cells)) whole others)

  -- ---- tiles

  -- tiles and areas, as far as they are read
  with_both : List Tile → List ℤ → Mesh → Mesh
  with_both tiles areas mesh = with_areas areas (with_tiles tiles mesh)

  with_more_both : (tile : Tile) (tiles : List Tile) (first others all : List ℤ) (mesh : Mesh) → first ++ others ≡ all
      → with_both tiles others (with_areas first (with_tiles (tile ∷ []) mesh)) ≡ with_both (tile ∷ tiles) all mesh
  unfolding with_both
  with_more_both tile tiles first others all mesh split =
      let shapes = append_assoc mesh.mosaic.tiles (tile ∷ []) tiles in
      let areas : (mesh.area ++ first) ++ others ≡ mesh.area ++ all = append_assoc mesh.area first others ∙ ap (λ (l : List ℤ). mesh.area ++ l) split in
      λ i. record { mosaic = record { tiles = shapes i; contacts = mesh.mosaic.contacts }; area = areas i }

  with_none : (mesh : Mesh) (areas : List ℤ) → mesh ≡ with_both [] (take 0 areas) mesh
  unfolding with_both
  with_none mesh areas =
      let shapes : mesh.mosaic.tiles ≡ mesh.mosaic.tiles ++ [] = sym (append-nil mesh.mosaic.tiles) in
      let same : mesh.area ≡ mesh.area ++ [] = sym (append-nil mesh.area) in
      λ i. record { mosaic = record { tiles = shapes i; contacts = mesh.mosaic.contacts }; area = same i }

  tiles_lead : (tiles : List Tile) (cells : ℕ) (areas : List ℤ) (mesh : Mesh) → All IsTile tiles → cells + cells_of tiles ≤ MOST_CELLS → cells_of tiles ≤ length areas
      → All IsArea areas
      → MeshLeads (next_tile (length tiles) cells) mesh (tile_lines tiles areas) (Some line.Contacts) (with_both tiles (take (cells_of tiles) areas) mesh)
  tiles_lead [] cells areas mesh shapes few enough each = (refl, with_none mesh areas)
  tiles_lead (tile ∷ tiles) cells areas mesh shapes few enough each =
      let shape = All-head IsTile tile tiles shapes in
      let size : ℕ = tile.nx * tile.ny in
      let later : List ℤ = drop size areas in
      let later_cells : cells_of tiles ≤ length later = omega (arith, length-drop size areas) in
      let with_tile : Mesh = with_tiles (tile ∷ []) mesh in
      let with_rows : Mesh = with_areas (take size areas) with_tile in
      let rows = rows_lead tile.ny tile.nx (length tiles) (cells + size) areas with_tile (omega arith) each in
      let others = tiles_lead tiles (cells + size) later with_rows (All-tail IsTile tile tiles shapes) (omega arith) later_cells (All-drop IsArea size areas each) in
      let whole : with_both tiles (take (cells_of tiles) later) with_rows ≡ with_both (tile ∷ tiles) (take (cells_of (tile ∷ tiles)) areas) mesh =
      with_more_both tile tiles (take size areas) (take (cells_of tiles) later) (take (size + cells_of tiles) areas) mesh (sym (take-add size (cells_of tiles) areas)) in (
        (refl, (omega (arith, shape.nx_most), (omega (arith, shape.ny_most), tt))),
        tile_keeps cells tile shape (omega arith),
        leads_on (mesh_format name) (next_row tile.nx tile.ny (length tiles) (cells + size)) with_tile (row_lines tile.ny tile.nx areas) (next_tile (length tiles) (cells + size)) with_rows
            (tile_lines tiles later) (Some line.Contacts) (with_both (tile ∷ tiles) (take (cells_of (tile ∷ tiles)) areas) mesh) rows
            (subst (MeshLeads (next_tile (length tiles) (cells + size)) with_rows (tile_lines tiles later) (Some line.Contacts)) whole others),
      )

  -- ---- the mesh

  whole_mesh : (mesh : Mesh) → IsWithinLimits mesh → with_contacts mesh.mosaic.contacts (with_both mesh.mosaic.tiles (take (cells_of mesh.mosaic.tiles) mesh.area) no_mesh) ≡ mesh
  unfolding with_both
  whole_mesh mesh within =
      let all : take (cells_of mesh.mosaic.tiles) mesh.area ≡ mesh.area = take_all (cells_of mesh.mosaic.tiles) mesh.area (omega (arith, within.count)) in
      λ i. record { mosaic = mesh.mosaic; area = all i }

  pub mesh_leads : (mesh : Mesh) → IsWithinLimits mesh → Leads (mesh_format name) (Some line.Mosaic) no_mesh (mesh_lines name mesh) None mesh
  mesh_leads mesh within =
      let tiles : List Tile = mesh.mosaic.tiles in
      let contacts : List Contact = mesh.mosaic.contacts in
      let read : Mesh = with_both tiles (take (cells_of tiles) mesh.area) no_mesh in
      let cells : 0 + cells_of tiles ≤ MOST_CELLS = omega (arith, within.tiles.cells) in
      let areas = tiles_lead tiles 0 mesh.area no_mesh within.tiles.each cells (omega (arith, within.count)) within.areas in
      let listed = subst (MeshLeads (next_contact (length contacts)) read (map contact_line contacts) None) (whole_mesh mesh within) (contacts_lead contacts read within.contacts) in (
        (refl, (omega (arith, within.tiles.most), tt)),
        and_from _ _ (le-leb 1 (length tiles) within.tiles.least) (le-leb (length tiles) MOST_TILES within.tiles.most),
        leads_on (mesh_format name) (next_tile (length tiles) 0) no_mesh (tile_lines tiles mesh.area) (Some line.Contacts) read
            (row (codes "contacts") (length contacts ∷ []) ∷ map contact_line contacts) None mesh areas
            ((refl, (omega (arith, within.few), tt)), le-leb (length contacts) MOST_CONTACTS within.few, listed),
      )
