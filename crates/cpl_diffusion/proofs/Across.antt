-- The cells across a mesh's sides, and the faces between them.
use Rattle.std.proofs.Common.{◌≡◌, ◌∙◌, refl, sym, ap, ℕ, ◌<◌, ◌≤◌, ◌+◌, ◌-◌, ◌++◌, [], ◌∷◌, ◌⊎◌, nat_lt, if◌then◌else◌, inl, inr, arith, Option, Some, None, List, length}
use Rattle.std.specs.Prelude.{ℤ, pos, ◌-ℤ◌}
use Rattle.std.proofs.lemmas.Bool.{cases_eq, cases_lt}
use Rattle.std.proofs.lemmas.Bool.Decides.{nat_tests}
use Rattle.std.proofs.lemmas.Int.{ints}
use Rattle.std.proofs.lemmas.List.FromFn.{map-range_with_len_more, fill_by_all, length-map-range_with_len, get_or-map-range_with_len}
use Rattle.cpl_fixed.specs.Flows.{IsAirArea, face_divisor}
use Rattle.cpl_fixed.proofs.Flows.{flow_self}
use Rattle.cpl_mosaic.specs.declared.parts.Side.{Side}
use Rattle.cpl_mosaic.specs.declared.parts.Side.TheVariants.{W, E, S, N}
use Rattle.cpl_mosaic.specs.declared.mosaic.Mesh.{Mesh}
use Rattle.cpl_mosaic.specs.Lists.{MosaicLists}
use Rattle.cpl_mosaic.specs.Contacts.{cells_of}
use Rattle.cpl_mosaic.specs.Sides.{CellSide}
use Rattle.cpl_mosaic.specs.Mates.{mate_of, MatesAgree}
use Rattle.cpl_mosaic.specs.Cells.{number_of, cell_of, NumbersAgree}
use Rattle.cpl_state.specs.Diffusion.{flow_to, flow_through, loss, diffused, at, cell_count, AreAmounts, IsAirMesh}
use Rattle.cpl_diffusion.specs.declared.faces.Faces.{Faces}
use Rattle.cpl_diffusion.specs.Across.{number_or, across_of, face_along, faces_to, faces_at, next_at, no_faces, previous_by, AreFacesAlong}
use Rattle.cpl_diffusion.specs.Steps.{AreFaces, between, previous_at, flow_next, flow_previous, left_in}
use Rattle.cpl_diffusion.proofs.Conserved.{amount_at, area_at}

module _ (mosaic : MosaicLists) (mates : MatesAgree mosaic) (numbers : NumbersAgree mosaic.tiles) where
  number_or_below : (n : ℕ) → n < cells_of mosaic.tiles → (o : Option CellSide) → ((b : CellSide) → o ≡ Some b → number_of mosaic.tiles b.0 < cells_of mosaic.tiles) → number_or mosaic.tiles n o < cells_of mosaic.tiles
  number_or_below n l None within = l
  number_or_below n l (Some b) within = within b refl

  pub across_below : (n : ℕ) (side : Side) → n < cells_of mosaic.tiles → across_of mosaic n side < cells_of mosaic.tiles
  across_below n side l =
      number_or_below n l (mate_of mosaic (cell_of mosaic.tiles n, side))
      (λ b e. numbers.below b.0 (mates.within (cell_of mosaic.tiles n, side) b (numbers.is_cell n l) e))

-- a previous cell is kept as it is where it comes before and has this one as its next
is_kept : (cells n cell next : ℕ) → cell < n → next ≡ n → previous_by cells n cell next ≡ cell
is_kept cells n cell next l e = grind (arith, nat_tests)

is_later : (cells n cell next : ℕ) → n ≤ cell → previous_by cells n cell next ≡ cells + cell
is_later cells n cell next l = grind (arith, nat_tests)

is_another : (cells n cell next : ℕ) → (next ≡ n → ⊥) → previous_by cells n cell next ≡ cells + cell
is_another cells n cell next ne = grind (arith, nat_tests)

-- the two ways to have it
previous_cases : (cells n cell next : ℕ) → ((cell < n) × (next ≡ n) × (previous_by cells n cell next ≡ cell)) ⊎ (previous_by cells n cell next ≡ cells + cell)
previous_cases cells n cell next = elim (cases_lt cell n) [
  | inl l ↦ elim (cases_eq next n) [
    | inl e ↦ inl (l, e, is_kept cells n cell next l e)
    | inr ne ↦ inr (is_another cells n cell next ne)
  ]
  | inr later ↦ inr (is_later cells n cell next later)
]

pub same_previous : (cells n cell next other : ℕ) → (cell < n → next ≡ other) → previous_by cells n cell next ≡ previous_by cells n cell other
same_previous cells n cell next other same = elim (cases_lt cell n) [
  | inl l ↦ ap (previous_by cells n cell) (same l)
  | inr later ↦ is_later cells n cell next later ∙ sym (is_later cells n cell other later)
]

-- and what a reader finds
pub found_before : (cells n p : ℕ) → p < n → (if nat_lt p n then p else p - cells) ≡ p
found_before cells n p l = grind (arith, nat_tests)

found_after : (cells n p : ℕ) → n ≤ p → (if nat_lt p n then p else p - cells) ≡ p - cells
found_after cells n p l = grind (arith, nat_tests)

module _ (mesh : Mesh) (ahead back : Side) where
  pub length_to : (n : ℕ) → length (faces_to mesh ahead back n) ≡ n
  unfolding faces_to
  length_to n = length-map-range_with_len (face_along mesh ahead back) 0 n

  pub faces_to_at : (n k : ℕ) → k < n → faces_at (faces_to mesh ahead back n) k ≡ face_along mesh ahead back k
  unfolding faces_to
  faces_to_at n k l = get_or-map-range_with_len (face_along mesh ahead back) 0 n k k no_faces l (omega arith)

  pub faces_to_none : faces_to mesh ahead back 0 ≡ []
  unfolding faces_to
  faces_to_none = refl

  pub faces_to_more : (n : ℕ) → faces_to mesh ahead back (n + 1) ≡ faces_to mesh ahead back n ++ face_along mesh ahead back n ∷ []
  unfolding faces_to
  faces_to_more n = map-range_with_len_more (face_along mesh ahead back) 0 n n (omega arith)

-- what flows into the cell across a side flows through the side
between_by : (mesh : Mesh) → IsAirMesh mesh → (xs : List ℤ) → AreAmounts (cell_count mesh) xs → (n : ℕ) → n < cell_count mesh → (o : Option CellSide) → between mesh.area xs n (number_or mesh.mosaic.tiles n o) ≡ flow_to mesh xs n o
between_by mesh air xs amounts n l None =
    let x = amount_at (cell_count mesh) xs amounts n l in
    let a : IsAirArea (at mesh.area n) = area_at mesh air n l in
    flow_self (at xs n) (at mesh.area n) x.0 (omega (arith, ints))
between_by mesh air xs amounts n l (Some b) = refl

module _ (mesh : Mesh) (ahead back : Side) (faces : List Faces) (are : AreFacesAlong mesh ahead back faces) where
  faces_by : (n : ℕ) → n < cell_count mesh → faces_at faces n ≡ face_along mesh ahead back n
  faces_by n l = ap (λ (t : List Faces). faces_at t n) are.looked_up ∙ faces_to_at mesh ahead back (cell_count mesh) n l

  pub length_faces : length faces ≡ cell_count mesh
  length_faces = ap length are.looked_up ∙ length_to mesh ahead back (cell_count mesh)

  pub next_is : (n : ℕ) → n < cell_count mesh → next_at faces n ≡ across_of mesh.mosaic n ahead
  next_is n l = ap (λ (f : Faces). f.next) (faces_by n l)

  previous_is : (n : ℕ) → n < cell_count mesh → (faces_at faces n).previous ≡ previous_by (cell_count mesh) n (across_of mesh.mosaic n back) (across_of mesh.mosaic (across_of mesh.mosaic n back) ahead)
  previous_is n l = ap (λ (f : Faces). f.previous) (faces_by n l)

  kept : (n : ℕ) → n < cell_count mesh → (faces_at faces n).previous < n → next_at faces (faces_at faces n).previous ≡ n
  kept n l before =
      let e = previous_is n l in
      elim (previous_cases (cell_count mesh) n (across_of mesh.mosaic n back) (across_of mesh.mosaic (across_of mesh.mosaic n back) ahead)) [
        | inl is ↦ next_is (faces_at faces n).previous (omega arith) ∙ ap (λ k. across_of mesh.mosaic k ahead) (e ∙ is.2) ∙ is.1
        | inr is ↦ absurd (omega arith)
      ]

  lone : (n : ℕ) → n < cell_count mesh → n ≤ (faces_at faces n).previous → (cell_count mesh ≤ (faces_at faces n).previous) × ((faces_at faces n).previous - cell_count mesh < cell_count mesh)
  lone n l after =
      let e = previous_is n l in
      let below = across_below mesh.mosaic are.mates are.numbers n back l in
      elim (previous_cases (cell_count mesh) n (across_of mesh.mosaic n back) (across_of mesh.mosaic (across_of mesh.mosaic n back) ahead)) [
        | inl is ↦ absurd (omega arith)
        | inr is ↦ (omega arith, omega arith)
      ]

  pub previous_found : (n : ℕ) → n < cell_count mesh → previous_at (cell_count mesh) faces n ≡ across_of mesh.mosaic n back
  previous_found n l =
      let e = previous_is n l in
      elim (previous_cases (cell_count mesh) n (across_of mesh.mosaic n back) (across_of mesh.mosaic (across_of mesh.mosaic n back) ahead)) [
        | inl is ↦ found_before (cell_count mesh) n (faces_at faces n).previous (omega arith) ∙ e ∙ is.2
        | inr is ↦ found_after (cell_count mesh) n (faces_at faces n).previous (omega arith) ∙ omega arith
      ]

  -- they are faces between cells of the mesh's areas
  pub are_faces : AreFaces mesh.area faces
  are_faces =
      let count : length mesh.area ≡ cell_count mesh = are.air.areas in
      record {
        areas = are.air.each;
        count = length_faces ∙ sym count;
        next = λ n l.
            let m : n < cell_count mesh = omega arith in
            let e = next_is n m in
            let below = across_below mesh.mosaic are.mates are.numbers n ahead m in
            omega arith;
        divisor = λ n l.
            let m : n < cell_count mesh = omega arith in
            ap (λ (f : Faces). f.divisor) (faces_by n m) ∙ ap (λ k. face_divisor (at mesh.area n) (at mesh.area k)) (sym (next_is n m));
        kept = λ n l. kept n (omega arith);
        lone = λ n l after. let is = lone n (omega arith) after in (omega arith, omega arith);
      }

  module _ (xs : List ℤ) (amounts : AreAmounts (cell_count mesh) xs) (n : ℕ) (l : n < cell_count mesh) where
    pub flow_ahead : flow_next mesh.area xs faces n ≡ flow_through mesh xs n ahead
    flow_ahead = ap (between mesh.area xs n) (next_is n l) ∙ between_by mesh are.air xs amounts n l (mate_of mesh.mosaic (cell_of mesh.mosaic.tiles n, ahead))

    pub flow_back : flow_previous mesh.area xs faces n ≡ flow_through mesh xs n back
    flow_back =
        let count : length mesh.area ≡ cell_count mesh = are.air.areas in
        ap (λ cells. between mesh.area xs n (previous_at cells faces n)) count ∙ ap (between mesh.area xs n) (previous_found n l) ∙ between_by mesh are.air xs amounts n l (mate_of mesh.mosaic (cell_of mesh.mosaic.tiles n, back))

-- what is left in each cell is what stands there after a step
module _ (mesh : Mesh) (east north : List Faces) (eastward : AreFacesAlong mesh E W east) (northward : AreFacesAlong mesh N S north) (xs : List ℤ) (amounts : AreAmounts (cell_count mesh) xs) where
  left_is : (n : ℕ) → n < cell_count mesh → left_in mesh.area xs east north n ≡ at xs n -ℤ loss mesh xs n
  left_is n l =
      let e = flow_ahead mesh E W east eastward xs amounts n l in
      let w = flow_back mesh E W east eastward xs amounts n l in
      let no = flow_ahead mesh N S north northward xs amounts n l in
      let so = flow_back mesh N S north northward xs amounts n l in
      omega (arith, ints)

  pub stepped : (after : List ℤ) → length after ≡ cell_count mesh → ((n : ℕ) → n < length mesh.area → at after n ≡ left_in mesh.area xs east north n) → after ≡ diffused mesh xs
  unfolding diffused
  stepped after count left =
      fill_by_all (λ n. at xs n -ℤ loss mesh xs n) after (cell_count mesh) (pos 0) count
      (λ n l. left n (omega (arith, eastward.air.areas)) ∙ left_is n l)
