-- The bytes of a piece of a restart: what a window has of a state.
use Rattle.std.specs.Prelude.{ℕ, List, [], ◌∷◌, ◌++◌, codes, map, ℤ, pos}
use Rattle.std.specs.List.{flat_map}
use Rattle.cpl_fixed.specs.Amounts.{at}
use Rattle.cpl_fixed.specs.declared.words.Component.{Component}
use Rattle.cpl_fixed.specs.declared.words.Component.TheVariants.{Atmos, Land, Ice, Ocean}
use Rattle.cpl_restart.specs.Numbers.{numbers_bytes, section_bytes}
use Rattle.cpl_restart.specs.RestartBytes.{sections_of}
use Rattle.cpl_state.specs.declared.whole.Whole.{Whole}
use Rattle.cpl_xgrid.specs.declared.grid.Grid.{Grid}
use Rattle.cpl_combine.specs.declared.window.Window.{Window}
use Rattle.cpl_combine.specs.Places.{of_component, places_of}

-- the first eight bytes of a piece
abbrev pub piece_mark : List ℕ
piece_mark = codes "CPLPCE01"

-- the number of a component in a piece
abbrev pub component_number : Component → ℕ
component_number Atmos = 0
component_number Land = 1
component_number Ice = 2
component_number Ocean = 2

-- the seven numbers at the head of a piece: its window, and the elapsed seconds
abbrev pub head_of : Window → ℤ → List ℤ
head_of window elapsed =
    pos (component_number window.component) ∷ pos window.tile ∷ pos window.i0 ∷ pos window.nx ∷ pos window.j0 ∷ pos window.ny ∷ elapsed ∷ []

-- the numbers of a list at these places
abbrev pub gathered : List ℤ → List ℕ → List ℤ
gathered numbers places = map (at numbers) places

-- the same of each of some sections
abbrev pub all_gathered : (sections : List (List ℤ)) → (places : List (List ℕ)) → List (List ℤ)
all_gathered [] places = []
all_gathered (numbers ∷ sections) [] = []
all_gathered (numbers ∷ sections) (at ∷ places) = gathered numbers at ∷ all_gathered sections places

-- a window's numbers of each section of its component
unfoldable pub parts_of : Grid → Whole → Window → List (List ℤ)
parts_of grid whole window = all_gathered (of_component window.component (sections_of whole)) (places_of grid window)

-- a piece of a state
unfoldable pub piece_bytes : Grid → Whole → Window → List ℕ
piece_bytes grid whole window = piece_mark ++ (numbers_bytes (head_of window whole.elapsed) ++ flat_map section_bytes (parts_of grid whole window))
