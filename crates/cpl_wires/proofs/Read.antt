-- What is read from the lists that a setting's edges keep.
use Rattle.std.proofs.Common.{◌≡◌, ◌∙◌, ap, ℕ, ◌<◌, arith, List, length, get_or}
use Rattle.std.specs.Prelude.{map}
use Rattle.std.specs.List.{range_with_len}
use Rattle.std.proofs.lemmas.List.{get_or_default, length-map}
use Rattle.std.proofs.lemmas.List.FromFn.{length-map-range_with_len}
use Rattle.cpl_xgrid.specs.Groups.{by_key, places_of}
use Rattle.cpl_wires.specs.declared.parts.Edge.{Edge}
use Rattle.cpl_wires.specs.declared.parts.Purpose.TheVariants.{Sums}
use Rattle.cpl_wires.specs.Settings.{Setting}
use Rattle.cpl_wires.specs.Edges.{edges_of, edge_at}

-- an edge
pub edge_read : (setting now : Setting) (list : List Edge) (e : ℕ) (x : Edge) → list ≡ edges_of setting → setting ≡ now → e < length (edges_of now) → x ≡ get_or list e x → x ≡ edge_at now e
edge_read setting now list e x is same l read =
    let all : list ≡ edges_of now = is ∙ ap edges_of same in
    let long = ap length all in
    read ∙ get_or_default list e x (record { purpose = Sums; from = 0; to = 0 }) (omega arith) ∙ ap (λ (edges : List Edge). get_or edges e (record { purpose = Sums; from = 0; to = 0 })) all

-- a list as long as the edges
pub as_long : (setting now : Setting) (list : List Edge) (e : ℕ) → list ≡ edges_of setting → setting ≡ now → e < length (edges_of now) → e < length list
as_long setting now list e is same l = let long = ap length (is ∙ ap edges_of same) in omega arith

-- a number
pub number_read : (list other : List ℕ) (e x : ℕ) → list ≡ other → e < length other → x ≡ get_or list e x → x ≡ get_or other e 0
number_read list other e x is l read =
    let long = ap length is in
    read ∙ get_or_default list e x 0 (omega arith) ∙ ap (λ (xs : List ℕ). get_or xs e 0) is

-- how many groups there are
pub groups_count : (groups : List (List ℕ)) (count : ℕ) (keys : List ℕ) → groups ≡ by_key count keys → length groups ≡ count
groups_count groups count keys is = ap length is ∙ length-map-range_with_len (λ key. places_of key keys) 0 count

-- how many numbers of edges there are
pub mapped_count : {X : Type 0} (f : Edge → X) (edges : List Edge) → length (map f edges) ≡ length edges
mapped_count f edges = length-map edges f

pub slots_count : (f : Edge → ℕ) (g : ℕ → ℕ) (edges : List Edge) → length (map g (range_with_len 0 (length (map f edges)))) ≡ length edges
slots_count f g edges = length-map-range_with_len g 0 (length (map f edges)) ∙ length-map edges f
