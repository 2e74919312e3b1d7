-- What the holder of a pass knows of the boxes, and how a step changes it.
use Rattle.std.specs.Prelude.{◌≡◌, ℕ, ◌+◌, List, [], ◌∷◌, map, length, max, true, false, None, Some, slice_index, slice_set}
use Rattle.cpl_core.specs.declared.wiring.Wires.{Wires}
use Rattle.cpl_core.specs.Tries.{raised}
use Rattle.cpl_box.specs.declared.view.View.{View}

abbrev pub zeros : {A : Type 0} → List A → List ℕ
zeros list = map (λ item. 0) list

-- the greater number at each place
abbrev pub greater : List ℕ → List ℕ → List ℕ
greater [] other = other
greater (x ∷ one) [] = x ∷ one
greater (x ∷ one) (y ∷ other) = max x y ∷ greater one other

-- nothing was posted, taken, tried or seen
abbrev pub newcomer : Wires → View
newcomer wires = record { live = true; wires = wires; held = None; posts = zeros wires.channels; takes = zeros wires.channels; seen = zeros wires.channels; tries = 0; last_edge = 0; last_word = 0 }

-- what is left of a pass that was joined into another
abbrev pub spent : View
spent = record { live = false; wires = record { channels = []; scripts = [] }; held = None; posts = []; takes = []; seen = []; tries = 0; last_edge = 0; last_word = 0 }

-- a try of the edge found this word
abbrev pub missed : View → ℕ → ℕ → View
missed view edge word = record view { seen = slice_set view.seen edge word; tries = raised view.tries; last_edge = edge; last_word = word }

-- the same, and the next word stands there, as long as the holder has the list
abbrev pub claimed : View → ℕ → ℕ → View
claimed view edge word = record view { held = Some (edge, word + 1); seen = slice_set view.seen edge (word + 1); tries = raised view.tries; last_edge = edge; last_word = word }

-- the poster gave the list to the box of the edge, and left this word
abbrev pub published : View → ℕ → ℕ → View
published view edge word = record view { held = None; posts = slice_set view.posts edge (slice_index view.posts edge + 1); seen = slice_set view.seen edge word }

-- the taker gave its spare list to the box of the edge, and left this word
abbrev pub released : View → ℕ → ℕ → View
released view edge word = record view { held = None; takes = slice_set view.takes edge (slice_index view.takes edge + 1); seen = slice_set view.seen edge word }

-- what a pass that is cut from another knows: the words that the other has seen
abbrev pub onlooker : View → View
onlooker view = record view { held = None; posts = zeros view.posts; takes = zeros view.takes; tries = 0; last_edge = 0; last_word = 0 }

-- what a pass knows that another was joined into: the greater of both numbers, edge by edge
abbrev pub together : View → View → View
together one other = record one { posts = greater one.posts other.posts; takes = greater one.takes other.takes; seen = greater one.seen other.seen; tries = max one.tries other.tries }

-- it has numbers for this many edges
abbrev pub IsSized : ℕ → View → Type 0
IsSized edges view = (length view.posts ≡ edges) × (length view.takes ≡ edges) × (length view.seen ≡ edges)
