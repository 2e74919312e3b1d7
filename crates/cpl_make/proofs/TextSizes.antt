-- How long the text of a grid is at most.
use Rattle.std.proofs.Common.{◌≡◌, ◌∙◌, ap, ℕ, zero, suc, ◌+◌, ◌*◌, ◌^◌, ◌<◌, ◌≤◌, arith, List, [], ◌∷◌, ◌++◌, map, length, take, drop, codes}
use Rattle.std.specs.Prelude.{ℤ, All}
use Rattle.std.specs.List.{flat_map}
use Rattle.std.proofs.lemmas.Fmt.{length-decimal-le}
use Rattle.std.proofs.Math.Nat.{mul-le-mul_left}
use Rattle.std.proofs.lemmas.List.{length-append, length-map, length-take}
use Rattle.std.proofs.lemmas.List.Concat.{flat_map-append}
use Rattle.std.proofs.lemmas.List.Elements.{All-tail, All-map, All-take, All-drop, All-append, All-from_recursion, All-nil, All-weaker}
use Rattle.cpl_fixed.specs.declared.limits.TheConstants.{MOST_AREA, MOST_GRID_BYTES}
use Rattle.cpl_mosaic.specs.declared.parts.Tile.{Tile}
use Rattle.cpl_mosaic.specs.declared.parts.Span.{Span}
use Rattle.cpl_mosaic.specs.declared.parts.Contact.{Contact}
use Rattle.cpl_mosaic.specs.declared.mosaic.Mesh.{Mesh}
use Rattle.cpl_mosaic.specs.Contacts.{IsTile, cells_of}
use Rattle.cpl_xgrid.specs.declared.parts.XRow.{XRow}
use Rattle.cpl_xgrid.specs.declared.parts.Outlet.{Outlet}
use Rattle.cpl_lines.specs.Fields.{Field, Number, Letter, field_text, IsShort}
use Rattle.cpl_lines.specs.Lines.{Line, row, line_text, line_feed}
use Rattle.cpl_gridfile.specs.MeshFormat.{magnitude, contact_line, flip_letter, span_fields, row_lines, tile_lines}
use Rattle.cpl_gridfile.specs.GridFormat.{Parts}
use Rattle.cpl_gridfile.specs.Within.{IsArea, SpanIsWithin, ContactIsWithin, RowIsWithin, OutletIsWithin, IsWithinLimits, AreWithinLimits}
use Rattle.cpl_gridfile.specs.CoupledGrid.{row_line, outlet_line, column_line, lists_lines, parts_text, parts_of_grid, grid_text}
use Rattle.cpl_gridfile.proofs.Bounds.{amount_is}
use Rattle.cpl_made_grid.specs.declared.recipe.Recipe.{Recipe}
use Rattle.cpl_made_grid.specs.Shares.{IsSized}
use Rattle.cpl_made_grid.specs.Grids.{made_grid}
use Rattle.cpl_made_grid.proofs.Mosaics.{counts, sphere_cells, ocean_cells}
use Rattle.cpl_made_grid.proofs.RowLaws.{rows_few}
use Rattle.cpl_made_grid.proofs.GridLaws.{outlets_few}
use Rattle.cpl_make.proofs.Spelled.{made_within}

-- LINES

-- a letter, or a number of at most 19 digits
abbrev IsShortField : Field → Type 0
IsShortField (Number n) = n < 10 ^ 19
IsShortField (Letter letter) = Unit {0}

field_most : (field : Field) → IsShortField field → length (field_text field) ≤ 20
field_most (Number n) short = let digits = length-decimal-le 19 n (omega arith) short (omega arith) in omega arith
field_most (Letter letter) short = omega arith

fields_most : (fields : List Field) → All IsShortField fields → length (flat_map field_text fields) ≤ 20 * length fields
fields_most [] are = omega arith
fields_most (field ∷ fields) are =
    let first = field_most field (are 0 field (omega arith)) in
    let rest = fields_most fields (All-tail IsShortField field fields are) in
    let both = length-append (field_text field) (flat_map field_text fields) in
    omega arith

line_most : (line : Line) → All IsShortField line.fields → length (line_text line) ≤ length line.word + 20 * length line.fields + 1
line_most line are =
    let fields = fields_most line.fields are in
    let front = length-append line.word (flat_map field_text line.fields) in
    let whole = length-append (line.word ++ flat_map field_text line.fields) line_feed in
    omega arith

row_most : (word numbers : List ℕ) → All IsShort numbers → length (line_text (row word numbers)) ≤ length word + 20 * length numbers + 1
row_most word numbers are =
    let whole = line_most (row word numbers) (All-map IsShortField Number numbers are) in
    let count = length-map numbers Number in
    omega arith

-- lines of at most so many bytes each
lines_most : (most : ℕ) (lines : List Line) → All (λ line. length (line_text line) ≤ most) lines → length (flat_map line_text lines) ≤ most * length lines
lines_most most [] are = omega arith
lines_most most (line ∷ lines) are =
    let first = are 0 line (omega arith) in
    let rest = lines_most most lines (All-tail (λ (l : Line). length (line_text l) ≤ most) line lines are) in
    let both = length-append (line_text line) (flat_map line_text lines) in
    omega arith

-- MESHES

short_area : (area : ℤ) → IsArea area → magnitude area < 10 ^ 19
short_area area is = let most = (amount_is MOST_AREA area is).0 in omega arith

areas_most : (nx : ℕ) (areas : List ℤ) → All IsArea areas → length (line_text (row (codes "area") (map magnitude (take nx areas)))) ≤ 5 + 20 * nx
areas_most nx areas are =
    let short = All-map IsShort magnitude (take nx areas) (All-weaker IsArea (λ area. magnitude area < 10 ^ 19) short_area (take nx areas) (All-take IsArea nx areas are)) in
    let line = row_most (codes "area") (map magnitude (take nx areas)) short in
    let count = length-map (take nx areas) magnitude in
    let few = length-take nx areas in
    omega arith

rows_most : (rows nx : ℕ) (areas : List ℤ) → All IsArea areas → length (flat_map line_text (row_lines rows nx areas)) ≤ rows * (5 + 20 * nx)
rows_most zero nx areas are = omega arith
rows_most (suc rows) nx areas are =
    let first = areas_most nx areas are in
    let rest = rows_most rows nx (drop nx areas) (All-drop IsArea nx areas are) in
    let both = length-append (line_text (row (codes "area") (map magnitude (take nx areas)))) (flat_map line_text (row_lines rows nx (drop nx areas))) in
    let more : suc rows * (5 + 20 * nx) ≡ rows * (5 + 20 * nx) + (5 + 20 * nx) = omega arith in
    omega arith

tiles_most : (tiles : List Tile) (areas : List ℤ) → All IsTile tiles → All IsArea areas → length (flat_map line_text (tile_lines tiles areas)) ≤ 64 * length tiles + 25 * cells_of tiles
tiles_most [] areas sizes are = omega arith
tiles_most (tile ∷ tiles) areas sizes are =
    let size = sizes 0 tile (omega arith) in
    let nx_least = size.nx_least in
    let nx_most = size.nx_most in
    let ny_most = size.ny_most in
    let wide : tile.ny * 1 ≤ tile.ny * tile.nx = mul-le-mul_left tile.ny nx_least in
    let head = row_most (codes "tile") (tile.nx ∷ tile.ny ∷ []) (All-from_recursion IsShort (tile.nx ∷ tile.ny ∷ []) (omega arith, (omega arith, tt))) in
    let own = rows_most tile.ny tile.nx areas are in
    let rest = tiles_most tiles (drop (tile.nx * tile.ny) areas) (All-tail IsTile tile tiles sizes) (All-drop IsArea (tile.nx * tile.ny) areas are) in
    let split = ap (λ (l : List ℕ). length l) (flat_map-append line_text (row_lines tile.ny tile.nx areas) (tile_lines tiles (drop (tile.nx * tile.ny) areas))) in
    let lines = length-append (flat_map line_text (row_lines tile.ny tile.nx areas)) (flat_map line_text (tile_lines tiles (drop (tile.nx * tile.ny) areas))) in
    let whole = length-append (line_text (row (codes "tile") (tile.nx ∷ tile.ny ∷ []))) (flat_map line_text (row_lines tile.ny tile.nx areas ++ tile_lines tiles (drop (tile.nx * tile.ny) areas))) in
    omega arith

span_short : (span : Span) → SpanIsWithin span → All IsShortField (span_fields span)
span_short span is =
    let tile = is.tile in
    let lo = is.lo in
    let hi = is.hi in
    All-from_recursion IsShortField (span_fields span) (omega arith, (tt, (omega arith, (omega arith, tt))))

contact_most : (contact : Contact) → ContactIsWithin contact → length (line_text (contact_line contact)) ≤ 188
contact_most contact is =
    let flip = Letter (flip_letter contact.flip) ∷ [] in
    line_most (contact_line contact)
    (All-append IsShortField (span_fields contact.first) (span_fields contact.second ++ flip) (span_short contact.first is.first)
    (All-append IsShortField (span_fields contact.second) flip (span_short contact.second is.second) (All-from_recursion IsShortField flip (tt, tt))))

one_number : (word : List ℕ) (n : ℕ) → n < 10 ^ 19 → length (line_text (row word (n ∷ []))) ≤ length word + 21
one_number word n short = omega (arith, row_most word (n ∷ []) (All-from_recursion IsShort (n ∷ []) (short, tt)))

-- the lines of a mesh that begins with this word
abbrev lines_of : (word : List ℕ) → Mesh → List Line
lines_of word mesh =
    row word (length mesh.mosaic.tiles ∷ [])
    ∷ (tile_lines mesh.mosaic.tiles mesh.area ++ row (codes "contacts") (length mesh.mosaic.contacts ∷ []) ∷ map contact_line mesh.mosaic.contacts)

mesh_most : (word : List ℕ) (mesh : Mesh) → length word ≤ 12 → IsWithinLimits mesh → length (flat_map line_text (lines_of word mesh)) ≤ 50000 + 25 * cells_of mesh.mosaic.tiles
mesh_most word mesh short is =
    let sizes = is.tiles in
    let tile_few = sizes.most in
    let few = is.few in
    let head = one_number word (length mesh.mosaic.tiles) (omega arith) in
    let tiles = tiles_most mesh.mosaic.tiles mesh.area sizes.each is.areas in
    let count = one_number (codes "contacts") (length mesh.mosaic.contacts) (omega arith) in
    let contacts = lines_most 188 (map contact_line mesh.mosaic.contacts) (All-map (λ line. length (line_text line) ≤ 188) contact_line mesh.mosaic.contacts (All-weaker ContactIsWithin (λ contact. length (line_text (contact_line contact)) ≤ 188) contact_most mesh.mosaic.contacts is.contacts)) in
    let number = length-map mesh.mosaic.contacts contact_line in
    let ends = row (codes "contacts") (length mesh.mosaic.contacts ∷ []) ∷ map contact_line mesh.mosaic.contacts in
    let a = length-append (line_text (row word (length mesh.mosaic.tiles ∷ []))) (flat_map line_text (tile_lines mesh.mosaic.tiles mesh.area ++ ends)) in
    let b = ap (λ (l : List ℕ). length l) (flat_map-append line_text (tile_lines mesh.mosaic.tiles mesh.area) ends) in
    let c = length-append (flat_map line_text (tile_lines mesh.mosaic.tiles mesh.area)) (flat_map line_text ends) in
    let d = length-append (line_text (row (codes "contacts") (length mesh.mosaic.contacts ∷ []))) (flat_map line_text (map contact_line mesh.mosaic.contacts)) in
    omega arith

-- LISTS

cell_short : (a b c d e f g : ℕ) → a < 10 ^ 19 → b < 10 ^ 19 → c < 10 ^ 19 → d < 10 ^ 19 → e < 10 ^ 19 → f < 10 ^ 19 → g < 10 ^ 19 → All IsShort (a ∷ b ∷ c ∷ d ∷ e ∷ f ∷ g ∷ [])
cell_short a b c d e f g pa pb pc pd pe pf pg =
    All-from_recursion IsShort (a ∷ b ∷ c ∷ d ∷ e ∷ f ∷ g ∷ []) (pa, (pb, (pc, (pd, (pe, (pf, (pg, tt)))))))

exchange_most : (x : XRow) → RowIsWithin x → length (line_text (row_line x)) ≤ 142
exchange_most x is =
    let air = is.air in
    let other = is.other in
    let area = short_area x.area is.area in
    row_most (codes "x") (x.air.tile ∷ x.air.i ∷ x.air.j ∷ x.other.tile ∷ x.other.i ∷ x.other.j ∷ magnitude x.area ∷ [])
    (cell_short x.air.tile x.air.i x.air.j x.other.tile x.other.i x.other.j (magnitude x.area) (omega arith) (omega arith) (omega arith) (omega arith) (omega arith) (omega arith) area)

outlet_most : (o : Outlet) → OutletIsWithin o → length (line_text (outlet_line o)) ≤ 142
outlet_most o is =
    let land = is.land in
    let ocean = is.ocean in
    let weight = (amount_is 1048576 o.weight is.weight).0 in
    row_most (codes "o") (o.land.tile ∷ o.land.i ∷ o.land.j ∷ o.ocean.tile ∷ o.ocean.i ∷ o.ocean.j ∷ magnitude o.weight ∷ [])
    (cell_short o.land.tile o.land.i o.land.j o.ocean.tile o.ocean.i o.ocean.j (magnitude o.weight) (omega arith) (omega arith) (omega arith) (omega arith) (omega arith) (omega arith) (omega arith))

-- a list with its count
abbrev listed : (word : List ℕ) → List Line → List Line
listed word lines = row word (length lines ∷ []) ∷ lines

counted_most : (word : List ℕ) (lines : List Line) → length word ≤ 11 → length lines ≤ 1048576 → All (λ line. length (line_text line) ≤ 142) lines → length (flat_map line_text (row word (length lines ∷ []) ∷ lines)) ≤ 32 + 142 * length lines
counted_most word lines short few are =
    let head = one_number word (length lines) (omega arith) in
    let items = lines_most 142 lines are in
    let both = length-append (line_text (row word (length lines ∷ []))) (flat_map line_text lines) in
    omega arith

-- lines after lines
lines_append : (xs ys : List Line) → length (flat_map line_text (xs ++ ys)) ≡ length (flat_map line_text xs) + length (flat_map line_text ys)
lines_append xs ys = ap (λ (l : List ℕ). length l) (flat_map-append line_text xs ys) ∙ length-append (flat_map line_text xs) (flat_map line_text ys)

line_cons : (x : Line) (ys : List Line) → length (flat_map line_text (x ∷ ys)) ≡ length (line_text x) + length (flat_map line_text ys)
line_cons x ys = length-append (line_text x) (flat_map line_text ys)

lists_most : (grid : Parts) → AreWithinLimits grid → length (flat_map line_text (lists_lines grid)) ≤ 200 + 142 * (length grid.land_rows + length grid.ocean_rows + length grid.outlets)
lists_most grid is =
    let few = is.few_rows in
    let few_ways = is.few_outlets in
    let land_count = length-map grid.land_rows row_line in
    let ocean_count = length-map grid.ocean_rows row_line in
    let way_count = length-map grid.outlets outlet_line in
    let land = counted_most (codes "xgrid land") (map row_line grid.land_rows) (omega arith) (omega arith) (All-map (λ line. length (line_text line) ≤ 142) row_line grid.land_rows (All-weaker RowIsWithin (λ x. length (line_text (row_line x)) ≤ 142) exchange_most grid.land_rows is.land_rows)) in
    let ocean = counted_most (codes "xgrid ocean") (map row_line grid.ocean_rows) (omega arith) (omega arith) (All-map (λ line. length (line_text line) ≤ 142) row_line grid.ocean_rows (All-weaker RowIsWithin (λ x. length (line_text (row_line x)) ≤ 142) exchange_most grid.ocean_rows is.ocean_rows)) in
    let ways = counted_most (codes "outlets") (map outlet_line grid.outlets) (omega arith) (omega arith) (All-map (λ line. length (line_text line) ≤ 142) outlet_line grid.outlets (All-weaker OutletIsWithin (λ o. length (line_text (outlet_line o)) ≤ 142) outlet_most grid.outlets is.outlets)) in
    let last = row_most (codes "end") [] (All-nil IsShort) in
    let lands = listed (codes "xgrid land") (map row_line grid.land_rows) in
    let oceans = listed (codes "xgrid ocean") (map row_line grid.ocean_rows) in
    let outs = listed (codes "outlets") (map outlet_line grid.outlets) in
    let ends = row (codes "end") [] ∷ [] in
    let a = lines_append lands (oceans ++ (outs ++ ends)) in
    let b = lines_append oceans (outs ++ ends) in
    let c = lines_append outs ends in
    let d = line_cons (row (codes "end") []) [] in
    omega arith

-- ALL

pub text_most : (grid : Parts) → AreWithinLimits grid
    → length (parts_text grid) ≤ 151000 + 25 * (cells_of grid.air.mosaic.tiles + cells_of grid.land.mosaic.tiles + cells_of grid.ocean.mosaic.tiles) + 142 * (length grid.land_rows + length grid.ocean_rows + length grid.outlets)
text_most grid is =
    let column = is.column in
    let layers = column.layers_most in
    let categories = column.categories_most in
    let head = row_most (codes "grid 1 coupled") [] (All-nil IsShort) in
    let air = mesh_most (codes "mosaic atmos") grid.air (omega arith) is.air in
    let land = mesh_most (codes "mosaic land") grid.land (omega arith) is.land in
    let ocean = mesh_most (codes "mosaic ocean") grid.ocean (omega arith) is.ocean in
    let col = row_most (codes "column") (grid.column.layers ∷ grid.column.categories ∷ []) (All-from_recursion IsShort (grid.column.layers ∷ grid.column.categories ∷ []) (omega arith, (omega arith, tt))) in
    let lists = lists_most grid is in
    let airs = lines_of (codes "mosaic atmos") grid.air in
    let lands = lines_of (codes "mosaic land") grid.land in
    let oceans = lines_of (codes "mosaic ocean") grid.ocean in
    let rest = column_line grid.column ∷ lists_lines grid in
    let a = line_cons (row (codes "grid 1 coupled") []) (airs ++ (lands ++ (oceans ++ rest))) in
    let b = lines_append airs (lands ++ (oceans ++ rest)) in
    let c = lines_append lands (oceans ++ rest) in
    let d = lines_append oceans rest in
    let e = line_cons (column_line grid.column) (lists_lines grid) in
    omega arith

-- the text of a made grid: some 28.5 million bytes at most
pub grid_most : (recipe : Recipe) → IsSized recipe.size → length (grid_text (made_grid recipe)) ≤ MOST_GRID_BYTES
unfolding made_grid
grid_most recipe sized =
    let most = text_most (parts_of_grid (made_grid recipe)) (made_within recipe sized) in
    let are = counts recipe.size sized in
    let airs = are.airs_few in
    let oceans = are.oceans_few in
    let air = sphere_cells recipe.size in
    let ocean = ocean_cells recipe.size in
    let rows = rows_few recipe sized in
    let ways = outlets_few recipe sized in
    omega arith
