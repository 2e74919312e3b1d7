-- Texts of grids that grow at their end.
use Rattle.std.proofs.Common.{◌≡◌, ◌∙◌, refl, sym, ap, ℕ, suc, ◌+◌, ◌-◌, ◌*◌, ◌<◌, ◌≤◌, subst, List, [], ◌∷◌, ◌++◌, length, get_or, take, drop, map, codes, append_assoc, length-drop, arith, ℤ, pos, false}
use Rattle.std.specs.List.{flat_map}
use Rattle.std.proofs.Math.Seq.{drop-cons}
use Rattle.std.proofs.lemmas.List.{append-nil, drop_all, length-map}
use Rattle.std.proofs.lemmas.List.Concat.{flat_map-append}
use Rattle.cpl_mosaic.specs.declared.parts.Tile.{Tile}
use Rattle.cpl_mosaic.specs.declared.parts.Contact.{Contact}
use Rattle.cpl_mosaic.specs.declared.parts.Side.TheVariants.{W}
use Rattle.cpl_mosaic.specs.Contacts.{cells_of}
use Rattle.cpl_lines.specs.Lines.{Line, line_text, line_feed, row}
use Rattle.cpl_lines.proofs.Printed.{number_text, row_printed}
use Rattle.cpl_xgrid.specs.declared.parts.XRow.{XRow}
use Rattle.cpl_xgrid.specs.declared.parts.Outlet.{Outlet}
use Rattle.cpl_gridfile.specs.declared.next_line.GridMesh.TheVariants as mesh
use Rattle.cpl_gridfile.specs.declared.next_line.GridList.{GridList}
use Rattle.cpl_gridfile.specs.declared.next_line.GridList.TheVariants as list
use Rattle.cpl_gridfile.specs.MeshFormat.{magnitude, contact_line, row_lines, tile_lines, mesh_lines}
use Rattle.cpl_gridfile.specs.GridFormat.{Parts, count_word}
use Rattle.cpl_gridfile.specs.CoupledGrid.{row_line, outlet_line, column_line, list_lines, lists_lines, parts_text}

pub mapped : {A B : Type 0} (f : A → B) (text_of : B → List ℕ) (xs : List A) → flat_map text_of (map f xs) ≡ flat_map (λ x. text_of (f x)) xs
mapped f text_of [] = refl
mapped f text_of (x ∷ xs) = ap (λ (l : List ℕ). text_of (f x) ++ l) (mapped f text_of xs)

-- ---- areas

abbrev pub area_text : ℤ → List ℕ
area_text area = number_text (magnitude area)

pub areas_printed : (before text : List ℕ) (areas : List ℤ) → text ≡ (before ++ codes "area") ++ flat_map area_text areas
    → text ++ line_feed ≡ before ++ line_text (row (codes "area") (map magnitude areas))
areas_printed before text areas is =
    row_printed before (codes "area") (map magnitude areas) text (is ∙ ap (λ (l : List ℕ). (before ++ codes "area") ++ l) (sym (mapped magnitude number_text areas)))

-- ---- contacts

abbrev pub contact_text : Contact → List ℕ
contact_text contact = line_text (contact_line contact)

pub contacts_printed : (before text : List ℕ) (contacts : List Contact) → text ≡ before ++ flat_map contact_text contacts
    → text ≡ before ++ flat_map line_text (map contact_line contacts)
contacts_printed before text contacts is = is ∙ ap (λ (l : List ℕ). before ++ l) (sym (mapped contact_line line_text contacts))

-- a contact that stands for one that isn't there
abbrev pub no_contact : Contact
no_contact = record {
  first = record { tile = 0; side = W; lo = 0; hi = 0 };
  second = record { tile = 0; side = W; lo = 0; hi = 0 };
  flip = false;
}

-- ---- rows and tiles, by what is left to print

-- what is printed, and what is left
pub record Left (whole text left : List ℕ) : Type 0 where
  pub is : text ++ left ≡ whole

pub passed : (whole text more piece left : List ℕ) → Left whole text (piece ++ left) → more ≡ text ++ piece → Left whole more left
passed whole text more piece left far grown = record { is = ap (λ (l : List ℕ). l ++ left) grown ∙ append_assoc text piece left ∙ far.is }

pub none_left : (whole text left : List ℕ) → Left whole text left → left ≡ [] → text ≡ whole
none_left whole text left far none = sym (append-nil text) ∙ ap (λ (l : List ℕ). text ++ l) (sym none) ∙ far.is

abbrev pub rows_text : ℕ → ℕ → List ℤ → List ℕ
rows_text nx rows areas = flat_map line_text (row_lines rows nx areas)

abbrev pub tiles_text : List Tile → List ℤ → List ℕ
tiles_text tiles areas = flat_map line_text (tile_lines tiles areas)

-- rows that are left after some are printed
pub record RowsLeft (nx rows printed : ℕ) (whole text : List ℕ) (rest : List ℤ) : Type 0 where
  pub room : nx * (rows - printed) ≤ length rest
  pub left : Left whole text (rows_text nx (rows - printed) rest)

pub rows_begin : (nx rows : ℕ) (text : List ℕ) (areas : List ℤ) → nx * rows ≤ length areas → RowsLeft nx rows 0 (text ++ rows_text nx rows areas) text areas
rows_begin nx rows text areas room =
    let all : rows ≡ rows - 0 = omega arith in
    record { room = rw (← all) room; left = record { is = ap (λ (n : ℕ). text ++ rows_text nx n areas) (sym all) } }

pub one_row : (nx rows printed : ℕ) (whole text more : List ℕ) (rest : List ℤ) → printed < rows → RowsLeft nx rows printed whole text rest
    → more ≡ text ++ line_text (row (codes "area") (map magnitude (take nx rest))) → RowsLeft nx rows (printed + 1) whole more (drop nx rest)
one_row nx rows printed whole text more rest lt far grown =
    let count : rows - printed ≡ suc (rows - (printed + 1)) = omega arith in
    let room : nx * suc (rows - (printed + 1)) ≤ length rest = subst (λ (n : ℕ). nx * n ≤ length rest) count far.room in
    let room_left : nx + nx * (rows - (printed + 1)) ≤ length rest = omega (arith, room) in
    let here = subst (λ (n : ℕ). Left whole text (rows_text nx n rest)) count far.left in
    record {
      room = omega (arith, length-drop nx rest, room_left);
      left = passed whole text more (line_text (row (codes "area") (map magnitude (take nx rest)))) (rows_text nx (rows - (printed + 1)) (drop nx rest)) here grown;
    }

pub row_room : (nx rows printed : ℕ) (whole text : List ℕ) (rest : List ℤ) → printed < rows → RowsLeft nx rows printed whole text rest → nx ≤ length rest
row_room nx rows printed whole text rest lt far =
    let count : rows - printed ≡ suc (rows - (printed + 1)) = omega arith in
    let room : nx * suc (rows - (printed + 1)) ≤ length rest = subst (λ (n : ℕ). nx * n ≤ length rest) count far.room in
    omega (arith, room)

pub rows_end : (nx rows printed : ℕ) (whole text : List ℕ) (rest : List ℤ) → rows ≤ printed → RowsLeft nx rows printed whole text rest → text ≡ whole
rows_end nx rows printed whole text rest le far =
    let none : rows - printed ≡ 0 = omega arith in
    none_left whole text (rows_text nx (rows - printed) rest) far.left (ap (λ (n : ℕ). rows_text nx n rest) none)

-- tiles that are left after some are printed
pub record TilesLeft (tiles : List Tile) (printed : ℕ) (whole text : List ℕ) (rest : List ℤ) : Type 0 where
  pub room : cells_of (drop printed tiles) ≤ length rest
  pub left : Left whole text (tiles_text (drop printed tiles) rest)

pub tiles_begin : (tiles : List Tile) (text : List ℕ) (areas : List ℤ) → cells_of tiles ≤ length areas → TilesLeft tiles 0 (text ++ tiles_text tiles areas) text areas
tiles_begin tiles text areas room = record { room = room; left = record { is = refl } }

pub tile_room : (tiles : List Tile) (printed : ℕ) (d : Tile) (whole text : List ℕ) (rest : List ℤ) → printed < length tiles → TilesLeft tiles printed whole text rest
    → (get_or tiles printed d).nx * (get_or tiles printed d).ny ≤ length rest
tile_room tiles printed d whole text rest lt far =
    let split = drop-cons tiles printed d lt in
    let room = subst (λ (l : List Tile). cells_of l ≤ length rest) split far.room in
    omega (arith, room)

pub one_tile : (tiles : List Tile) (printed : ℕ) (d : Tile) (whole text with_tile more : List ℕ) (rest : List ℤ) → printed < length tiles → TilesLeft tiles printed whole text rest
    → with_tile ≡ text ++ line_text (row (codes "tile") ((get_or tiles printed d).nx ∷ (get_or tiles printed d).ny ∷ []))
    → more ≡ with_tile ++ rows_text (get_or tiles printed d).nx (get_or tiles printed d).ny rest
    → TilesLeft tiles (printed + 1) whole more (drop ((get_or tiles printed d).nx * (get_or tiles printed d).ny) rest)
one_tile tiles printed d whole text with_tile more rest lt far first rows =
    let tile : Tile = get_or tiles printed d in
    let size : ℕ = tile.nx * tile.ny in
    let others : List Tile = drop (suc printed) tiles in
    let split : drop printed tiles ≡ tile ∷ others = drop-cons tiles printed d lt in
    let count : suc printed ≡ printed + 1 = omega arith in
    let room : size + cells_of others ≤ length rest = subst (λ (l : List Tile). cells_of l ≤ length rest) split far.room in
    let line : List ℕ = line_text (row (codes "tile") (tile.nx ∷ tile.ny ∷ [])) in
    let parts : tiles_text (tile ∷ others) rest ≡ line ++ (rows_text tile.nx tile.ny rest ++ tiles_text others (drop size rest)) =
    ap (λ (l : List ℕ). line ++ l) (flat_map-append line_text (row_lines tile.ny tile.nx rest) (tile_lines others (drop size rest))) in
    let here : Left whole text (line ++ (rows_text tile.nx tile.ny rest ++ tiles_text others (drop size rest))) =
    subst (Left whole text) (ap (λ (l : List Tile). tiles_text l rest) split ∙ parts) far.left in
    let after_line = passed whole text with_tile line (rows_text tile.nx tile.ny rest ++ tiles_text others (drop size rest)) here first in
    let after_rows = passed whole with_tile more (rows_text tile.nx tile.ny rest) (tiles_text others (drop size rest)) after_line rows in
    subst (λ (n : ℕ). TilesLeft tiles n whole more (drop size rest)) count
    (record { room = omega (arith, length-drop size rest, room); left = after_rows })

pub tiles_end : (tiles : List Tile) (printed : ℕ) (whole text : List ℕ) (rest : List ℤ) → length tiles ≤ printed → TilesLeft tiles printed whole text rest → text ≡ whole
tiles_end tiles printed whole text rest le far =
    none_left whole text (tiles_text (drop printed tiles) rest) far.left (ap (λ (l : List Tile). tiles_text l rest) (drop_all printed tiles le))

-- ---- lists

abbrev pub row_text : XRow → List ℕ
row_text x = line_text (row_line x)

abbrev pub outlet_text : Outlet → List ℕ
outlet_text o = line_text (outlet_line o)

-- an exchange cell and an outlet that stand for one that isn't there
abbrev pub no_row : XRow
no_row = record { air = record { tile = 0; i = 0; j = 0 }; other = record { tile = 0; i = 0; j = 0 }; area = pos 0 }

abbrev pub no_outlet : Outlet
no_outlet = record { land = record { tile = 0; i = 0; j = 0 }; ocean = record { tile = 0; i = 0; j = 0 }; weight = pos 0 }

list_printed : {A : Type 0} (list : GridList) (line_of : A → Line) (items : List A) (before counted text : List ℕ)
    → counted ≡ before ++ line_text (row (count_word list) (length items ∷ [])) → text ≡ counted ++ flat_map (λ item. line_text (line_of item)) items
    → text ≡ before ++ flat_map line_text (list_lines list (map line_of items))
list_printed list line_of items before counted text first others =
    let count : length items ≡ length (map line_of items) = sym (length-map items line_of) in
    others ∙ ap (λ (l : List ℕ). l ++ flat_map (λ item. line_text (line_of item)) items) (first ∙ ap (λ (n : ℕ). before ++ line_text (row (count_word list) (n ∷ []))) count)
    ∙ append_assoc before (line_text (row (count_word list) (length (map line_of items) ∷ []))) (flat_map (λ item. line_text (line_of item)) items)
    ∙ ap (λ (l : List ℕ). before ++ (line_text (row (count_word list) (length (map line_of items) ∷ [])) ++ l)) (sym (mapped line_of line_text items))

pub rows_are_printed : (list : GridList) (rows : List XRow) (before counted text : List ℕ)
    → counted ≡ before ++ line_text (row (count_word list) (length rows ∷ [])) → text ≡ counted ++ flat_map row_text rows
    → text ≡ before ++ flat_map line_text (list_lines list (map row_line rows))
rows_are_printed list rows before counted text first others = list_printed list row_line rows before counted text first others

pub outlets_are_printed : (outlets : List Outlet) (before counted text : List ℕ)
    → counted ≡ before ++ line_text (row (codes "outlets") (length outlets ∷ [])) → text ≡ counted ++ flat_map outlet_text outlets
    → text ≡ before ++ flat_map line_text (list_lines list.Outlets (map outlet_line outlets))
outlets_are_printed outlets before counted text first others = list_printed list.Outlets outlet_line outlets before counted text first others

-- ---- the whole

nested : (h m1 m2 m3 c l o u e : List ℕ) → ((((((((h ++ m1) ++ m2) ++ m3) ++ c) ++ l) ++ o) ++ u) ++ e) ≡ h ++ (m1 ++ (m2 ++ (m3 ++ (c ++ (l ++ (o ++ (u ++ e)))))))
nested h m1 m2 m3 c l o u e = simp append_assoc

-- the pieces of a coupled grid's text, one after the other
pub grid_printed : (grid : Parts)
    → ((((((((line_text (row (codes "grid 1 coupled") []) ++ flat_map line_text (mesh_lines mesh.Atmos grid.air)) ++ flat_map line_text (mesh_lines mesh.Land grid.land))
    ++ flat_map line_text (mesh_lines mesh.Ocean grid.ocean)) ++ line_text (column_line grid.column)) ++ flat_map line_text (list_lines list.Land (map row_line grid.land_rows)))
    ++ flat_map line_text (list_lines list.Ocean (map row_line grid.ocean_rows))) ++ flat_map line_text (list_lines list.Outlets (map outlet_line grid.outlets)))
    ++ line_text (row (codes "end") [])) ≡ parts_text grid
grid_printed grid =
    let head : List ℕ = line_text (row (codes "grid 1 coupled") []) in
    let air : List Line = mesh_lines mesh.Atmos grid.air in
    let land : List Line = mesh_lines mesh.Land grid.land in
    let ocean : List Line = mesh_lines mesh.Ocean grid.ocean in
    let column : List ℕ = line_text (column_line grid.column) in
    let land_list : List Line = list_lines list.Land (map row_line grid.land_rows) in
    let ocean_list : List Line = list_lines list.Ocean (map row_line grid.ocean_rows) in
    let outlets : List Line = list_lines list.Outlets (map outlet_line grid.outlets) in
    let ending : List Line = row (codes "end") [] ∷ [] in
    let last : flat_map line_text (outlets ++ ending) ≡ flat_map line_text outlets ++ line_text (row (codes "end") []) =
    flat_map-append line_text outlets ending ∙ ap (λ (l : List ℕ). flat_map line_text outlets ++ l) (append-nil (line_text (row (codes "end") []))) in
    let from_ocean_list = flat_map-append line_text ocean_list (outlets ++ ending) ∙ ap (λ (l : List ℕ). flat_map line_text ocean_list ++ l) last in
    let from_land_list = flat_map-append line_text land_list (ocean_list ++ (outlets ++ ending)) ∙ ap (λ (l : List ℕ). flat_map line_text land_list ++ l) from_ocean_list in
    let from_ocean = flat_map-append line_text ocean (column_line grid.column ∷ lists_lines grid)
    ∙ ap (λ (l : List ℕ). flat_map line_text ocean ++ (column ++ l)) from_land_list in
    let from_land = flat_map-append line_text land (ocean ++ column_line grid.column ∷ lists_lines grid) ∙ ap (λ (l : List ℕ). flat_map line_text land ++ l) from_ocean in
    let from_air = flat_map-append line_text air (land ++ (ocean ++ column_line grid.column ∷ lists_lines grid)) ∙ ap (λ (l : List ℕ). flat_map line_text air ++ l) from_land in
    nested head (flat_map line_text air) (flat_map line_text land) (flat_map line_text ocean) column (flat_map line_text land_list) (flat_map line_text ocean_list) (flat_map line_text outlets)
    (line_text (row (codes "end") [])) ∙ sym (ap (λ (l : List ℕ). head ++ l) from_air)

-- texts that grew by these pieces, one after the other
pub chain : (h m1 m2 m3 c l o u e t1 t2 t3 t4 t5 t6 t7 t8 t9 : List ℕ) → t1 ≡ h → t2 ≡ t1 ++ m1 → t3 ≡ t2 ++ m2 → t4 ≡ t3 ++ m3 → t5 ≡ t4 ++ c → t6 ≡ t5 ++ l → t7 ≡ t6 ++ o → t8 ≡ t7 ++ u → t9 ≡ t8 ++ e
    → t9 ≡ ((((((((h ++ m1) ++ m2) ++ m3) ++ c) ++ l) ++ o) ++ u) ++ e)
chain h m1 m2 m3 c l o u e t1 t2 t3 t4 t5 t6 t7 t8 t9 e1 e2 e3 e4 e5 e6 e7 e8 e9 = cc
