-- Which numbers of the sections of a state are a window's.
use Rattle.std.specs.Prelude.{ℕ, ◌+◌, ◌-◌, ◌*◌, nat_lt, List, [], ◌∷◌, map, take, drop, count_by}
use Rattle.std.specs.List.{flat_map, range_with_len}
use Rattle.cpl_fixed.specs.declared.words.Component.{Component}
use Rattle.cpl_fixed.specs.declared.words.Component.TheVariants.{Atmos, Land, Ice, Ocean}
use Rattle.cpl_mosaic.specs.declared.parts.Tile.{Tile}
use Rattle.cpl_xgrid.specs.declared.grid.Grid.{Grid}
use Rattle.cpl_faces.specs.declared.face.Face.{Face}
use Rattle.cpl_state.specs.States.{ocean_cells, ocean_faces, face_count, layers, categories, part_count}
use Rattle.cpl_combine.specs.declared.window.Window.{Window}
use Rattle.cpl_combine.specs.Windows.{tiles_of, row_start, window_cells}

-- the places of cells in a list that has this many numbers for each cell in turn
unfoldable pub by_cells : (width : ℕ) → List ℕ → List ℕ
by_cells width cells = flat_map (λ n. range_with_len (n * width) width) cells

-- the places of cells, or of faces, in a list of layers, of which each has this many in turn
unfoldable pub by_layers : (layers count : ℕ) → List ℕ → List ℕ
by_layers layers count items = flat_map (λ layer. map (λ n. layer * count + n) items) (range_with_len 0 layers)

-- how many faces have their first side at a cell before this one
abbrev pub faces_before : List Face → ℕ → ℕ
faces_before faces n = count_by (λ face. nat_lt face.first n) faces

-- the faces whose first sides are of the cells from one to another, which follow each other
abbrev pub faces_between : List Face → (from to : ℕ) → List ℕ
faces_between faces from to = range_with_len (faces_before faces from) (faces_before faces to - faces_before faces from)

-- the faces whose first sides are of a window's cells, in their order
unfoldable pub window_faces : List Tile → List Face → Window → List ℕ
window_faces tiles faces window =
    flat_map (λ j. faces_between faces (row_start tiles window j) (row_start tiles window j + window.nx)) (range_with_len 0 window.ny)

-- the places of these cells and faces in each section of a state
abbrev pub all_places : Grid → (cells faces : List ℕ) → List (List ℕ)
all_places grid cells faces =
    cells ∷ cells ∷ cells ∷ cells ∷ cells
    ∷ by_cells (part_count grid) cells ∷ by_cells (categories grid) cells ∷ by_cells (categories grid) cells
    ∷ by_layers (layers grid) (ocean_cells grid) cells ∷ by_layers (layers grid) (ocean_cells grid) cells ∷ by_layers (layers grid) (ocean_cells grid) cells
    ∷ by_layers (layers grid) (face_count grid) faces ∷ by_cells 5 cells ∷ by_cells 3 cells ∷ []

-- of a list with an item for each section: those of a component's sections
abbrev pub of_component : {A : Type 0} → Component → List A → List A
of_component Atmos items = take 3 items
of_component Land items = take 2 (drop 3 items)
of_component Ice items = drop 5 items
of_component Ocean items = drop 5 items

-- how many sections come before a component's
abbrev pub sections_before : Component → ℕ
sections_before Atmos = 0
sections_before Land = 3
sections_before Ice = 5
sections_before Ocean = 5

-- and how many it has
abbrev pub section_count : Component → ℕ
section_count Atmos = 3
section_count Land = 2
section_count Ice = 9
section_count Ocean = 9

-- the places of a window in each section of its component
unfoldable pub places_of : Grid → Window → List (List ℕ)
places_of grid window =
    let tiles = tiles_of grid window.component in
    of_component window.component (all_places grid (window_cells tiles window) (window_faces tiles (ocean_faces grid) window))
