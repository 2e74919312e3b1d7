-- The limits of sizes and edges, as tests and as facts.
use Rattle.std.proofs.Common.{◌≡◌, refl, ap, subst, ℕ, ◌*◌, ◌≤◌, List, [], ◌∷◌, map, codes, Bool, true, false, All, arith, leb, ℤ, pos, negsuc, inl, inr}
use Rattle.std.specs.List.{list_all}
use Rattle.std.specs.Prelude.{◌==◌}
use Rattle.std.proofs.lemmas.Bool.{leb-true, le-leb, and_parts, and_from, or_cases, eqb-true}
use Rattle.std.proofs.lemmas.Int.{ints}
use Rattle.std.proofs.lemmas.List.Elements.{All-nil, All-cons, All-head, All-tail}
use Rattle.cpl_fixed.specs.declared.limits.TheConstants.{LONGEST_SIDE, MOST_CELLS, MOST_LAYERS, MOST_CATEGORIES}
use Rattle.cpl_xgrid.specs.declared.parts.Column.{Column}
use Rattle.cpl_xgrid.specs.Lists.{IsColumn}
use Rattle.cpl_lines.specs.Fields.{IsShort, is_one_of}
use Rattle.cpl_gridfile.specs.MeshFormat.{magnitude, flip_letter}
use Rattle.cpl_gridfile.specs.GridFormat.{column_keeps_limits}
use Rattle.cpl_mkx.specs.declared.boxes.TheConstants.{MOST_EDGE}
use Rattle.cpl_mkx.specs.BoxFormat.{size_keeps_limits, edges_keep_limits, is_one}
use Rattle.cpl_mkx.specs.Boxes.{IsEdge}

-- SIZES

pub record IsSize (nx ny : ℕ) : Type 0 where
  pub nx_least : 1 ≤ nx
  pub nx_most : nx ≤ LONGEST_SIDE
  pub ny_least : 1 ≤ ny
  pub ny_most : ny ≤ LONGEST_SIDE
  pub few : nx * ny ≤ MOST_CELLS

pub size_keeps : (nx ny : ℕ) → IsSize nx ny → size_keeps_limits nx ny ≡ true
size_keeps nx ny is =
    and_from _ _ (and_from _ _ (and_from _ _ (and_from _ _ (le-leb 1 nx is.nx_least) (le-leb nx LONGEST_SIDE is.nx_most)) (le-leb 1 ny is.ny_least)) (le-leb ny LONGEST_SIDE is.ny_most)) (le-leb (nx * ny) MOST_CELLS is.few)

pub size_within : (nx ny : ℕ) → size_keeps_limits nx ny ≡ true → IsSize nx ny
size_within nx ny keeps =
    let e = and_parts _ (leb (nx * ny) MOST_CELLS) keeps in
    let d = and_parts _ (leb ny LONGEST_SIDE) e.0 in
    let c = and_parts _ (leb 1 ny) d.0 in
    let b = and_parts (leb 1 nx) (leb nx LONGEST_SIDE) c.0 in
    record { nx_least = leb-true 1 nx b.0; nx_most = leb-true nx LONGEST_SIDE b.1; ny_least = leb-true 1 ny c.1; ny_most = leb-true ny LONGEST_SIDE d.1; few = leb-true (nx * ny) MOST_CELLS e.1 }

-- COLUMNS

pub column_keeps : (column : Column) → IsColumn column → column_keeps_limits column ≡ true
column_keeps column is =
    and_from _ _ (and_from _ _ (and_from _ _ (le-leb 1 column.layers is.layers.0) (le-leb column.layers MOST_LAYERS is.layers.1)) (le-leb 1 column.categories is.categories.0)) (le-leb column.categories MOST_CATEGORIES is.categories.1)

pub column_within : (column : Column) → column_keeps_limits column ≡ true → IsColumn column
column_within column keeps =
    let c = and_parts _ (leb column.categories MOST_CATEGORIES) keeps in
    let b = and_parts _ (leb 1 column.categories) c.0 in
    let a = and_parts (leb 1 column.layers) (leb column.layers MOST_LAYERS) b.0 in
    record { layers = (leb-true 1 column.layers a.0, leb-true column.layers MOST_LAYERS a.1); categories = (leb-true 1 column.categories b.1, leb-true column.categories MOST_CATEGORIES c.1) }

-- EDGES

edge_is : (edge : ℤ) → IsEdge edge → (magnitude edge ≤ MOST_EDGE) × (pos (magnitude edge) ≡ edge)
edge_is (pos n) within = let most = within.1 in (omega (arith, ints, most), refl)
edge_is (negsuc n) within = let least = within.0 in absurd (omega (arith, ints, least))

-- edges as the numbers that the text has, and back
pub pos_magnitudes : (edges : List ℤ) → All IsEdge edges → map pos (map magnitude edges) ≡ edges
pos_magnitudes [] each = refl
pos_magnitudes (edge ∷ edges) each = λ i. (edge_is edge (All-head IsEdge edge edges each)).1 i ∷ pos_magnitudes edges (All-tail IsEdge edge edges each) i

pub magnitudes_pos : (numbers : List ℕ) → map magnitude (map pos numbers) ≡ numbers
magnitudes_pos [] = refl
magnitudes_pos (n ∷ numbers) = ap (λ (l : List ℕ). n ∷ l) (magnitudes_pos numbers)

pub edges_keep : (edges : List ℤ) → All IsEdge edges → edges_keep_limits (map magnitude edges) ≡ true
edges_keep [] each = refl
edges_keep (edge ∷ edges) each =
    and_from _ _ (le-leb (magnitude edge) MOST_EDGE (edge_is edge (All-head IsEdge edge edges each)).0) (edges_keep edges (All-tail IsEdge edge edges each))

pub edges_are_short : (edges : List ℤ) → All IsEdge edges → All IsShort (map magnitude edges)
edges_are_short [] each = All-nil IsShort
edges_are_short (edge ∷ edges) each =
    let least = (edge_is edge (All-head IsEdge edge edges each)).0 in
    All-cons IsShort (magnitude edge) (map magnitude edges) (omega (arith, least)) (edges_are_short edges (All-tail IsEdge edge edges each))

pub edges_within : (numbers : List ℕ) → edges_keep_limits numbers ≡ true → All IsEdge (map pos numbers)
edges_within [] keep = All-nil IsEdge
edges_within (n ∷ numbers) keep =
    let p = and_parts (leb n MOST_EDGE) (list_all (λ m. leb m MOST_EDGE) numbers) keep in
    let most = leb-true n MOST_EDGE p.0 in
    All-cons IsEdge (pos n) (map pos numbers) (omega (arith, ints), omega (arith, ints, most)) (edges_within numbers p.1)

-- FLAGS

pub flag_is_letter : (flag : Bool) → is_one_of (codes "01") (flip_letter flag) ≡ true
flag_is_letter true = refl
flag_is_letter false = refl

pub flag_again : (flag : Bool) → is_one (flip_letter flag) ≡ flag
flag_again true = refl
flag_again false = refl

pub flag_back : (letter : ℕ) → is_one_of (codes "01") letter ≡ true → flip_letter (is_one letter) ≡ letter
flag_back letter among = elim (or_cases _ _ among) [
  | inl off ↦ let is : 48 ≡ letter = eqb-true 48 letter off in subst (λ (l : ℕ). flip_letter (l == 49) ≡ l) is refl
  | inr more ↦ elim (or_cases _ _ more) [
    | inl on ↦ let is : 49 ≡ letter = eqb-true 49 letter on in subst (λ (l : ℕ). flip_letter (l == 49) ≡ l) is refl
    | inr none ↦ absurd cc
  ]
]
