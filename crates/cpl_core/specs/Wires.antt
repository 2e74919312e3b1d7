-- A wiring as data: who uses an edge, how often, and what each use carries.
use Rattle.std.specs.Prelude.{◌≡◌, ℕ, ℤ, ◌<◌, ◌≤◌, ◌^◌, ◌==◌, Bool, false, List, [], length, All, count_by, slice_index_or, if◌then◌else◌}
use Rattle.cpl_core.specs.declared.wiring.Act.{Act}
use Rattle.cpl_core.specs.declared.wiring.Act.TheVariants.{Post, Take, Compute}
use Rattle.cpl_core.specs.declared.wiring.Channel.{Channel}
use Rattle.cpl_core.specs.declared.wiring.Wires.{Wires}

-- the edge of a number, and one that is never used past the last
abbrev pub channel_of : Wires → ℕ → Channel
channel_of wires edge = slice_index_or wires.channels edge (record { from = 0; to = 0; len = 0; values = [] })

-- the piece that posts there
abbrev pub poster_of : Wires → ℕ → ℕ
poster_of wires edge = (channel_of wires edge).from

-- the piece that takes there
abbrev pub taker_of : Wires → ℕ → ℕ
taker_of wires edge = (channel_of wires edge).to

-- how many numbers each list has
abbrev pub len_of : Wires → ℕ → ℕ
len_of wires edge = (channel_of wires edge).len

-- how often the edge is used
abbrev pub uses_of : Wires → ℕ → ℕ
uses_of wires edge = length (channel_of wires edge).values

-- the list that the k-th use carries
abbrev pub value_of : Wires → ℕ → ℕ → List ℤ
value_of wires edge k = slice_index_or (channel_of wires edge).values k []

-- the script of a piece, and none past the last
abbrev pub script_of : Wires → ℕ → List Act
script_of wires piece = slice_index_or wires.scripts piece []

abbrev pub is_post : ℕ → Act → Bool
is_post edge (Post other) = other == edge
is_post edge (Take other) = false
is_post edge Compute = false

abbrev pub is_take : ℕ → Act → Bool
is_take edge (Post other) = false
is_take edge (Take other) = other == edge
is_take edge Compute = false

-- the action names an edge of the wiring
abbrev pub IsKnown : Wires → Act → Type 0
IsKnown wires (Post edge) = edge < length wires.channels
IsKnown wires (Take edge) = edge < length wires.channels
IsKnown wires Compute = Unit {0}

-- The edge's lists all have its length. One piece posts there and one takes, each once for each use.
pub record IsChannel (wires : Wires) (edge : ℕ) : Type 0 where
  pub lengths : All (λ (list : List ℤ). length list ≡ len_of wires edge) (channel_of wires edge).values
  pub most : uses_of wires edge ≤ 2 ^ 60
  pub poster : poster_of wires edge < length wires.scripts
  pub taker : taker_of wires edge < length wires.scripts
  pub posts : (piece : ℕ) → count_by (is_post edge) (script_of wires piece) ≡ (if piece == poster_of wires edge then uses_of wires edge else 0)
  pub takes : (piece : ℕ) → count_by (is_take edge) (script_of wires piece) ≡ (if piece == taker_of wires edge then uses_of wires edge else 0)

-- the rules of a wiring
pub record IsWired (wires : Wires) : Type 0 where
  pub channels : (edge : ℕ) → edge < length wires.channels → IsChannel wires edge
  pub known : (piece : ℕ) → All (IsKnown wires) (script_of wires piece)
  pub short : (piece : ℕ) → length (script_of wires piece) ≤ 2 ^ 62
