-- The rounds of the ocean.
use Rattle.std.proofs.Common.{◌≡◌, ◌∙◌, refl, sym, ap, ℕ, suc, ◌+◌, ◌-◌, ◌*◌, ◌/◌, ◌%◌, ◌<◌, ◌≤◌, ◌++◌, arith, List, length, drop, Some, None}
use Rattle.std.specs.Prelude.{ℤ, pos, neg_ℤ, map, Option}
use Rattle.std.specs.List.{position, range_with_len}
use Rattle.std.proofs.Math.Nat.{add-mul}
use Rattle.std.proofs.lemmas.Nat.{div-mul-add, mod-mul-add, mul-add-lt}
use Rattle.std.proofs.lemmas.List.Quantifiers.{position-Some}
use Rattle.std.proofs.lemmas.List.{get_or_append_left, get_or-append_right, get_or-drop}
use Rattle.std.proofs.lemmas.List.FromFn.{get_or-map-range_with_len, length-map-range_with_len}
use Rattle.cpl_fixed.specs.Amounts.{at}
use Rattle.cpl_fixed.specs.declared.rates.Rates.{Rates}
use Rattle.cpl_faces.specs.Faces.{faces_of}
use Rattle.cpl_mosaic.specs.declared.parts.Side.{Side}
use Rattle.cpl_mosaic.specs.Lists.{MosaicLists}
use Rattle.cpl_mosaic.specs.declared.mosaic.Mesh.{Mesh}
use Rattle.cpl_ice.specs.declared.parts.Salty.{Salty}
use Rattle.cpl_transport.specs.Cells.{mixed_cell}
use Rattle.cpl_transport.specs.Cuts.{uncut}
use Rattle.cpl_transport.specs.Mixing.{mixed}
use Rattle.cpl_transport.specs.Salts.{joined}
use Rattle.cpl_state.specs.declared.whole.Whole.{Whole}
use Rattle.cpl_state.specs.Diffusion.{cell_count}
use Rattle.cpl_state.specs.States.{ocean_cells, layers, flight_to_ice, flight_to_ocean}
use Rattle.cpl_state.specs.Transport.{Sea, cell_in, face_count, is_first, is_second, layered, next_number, no_face, outward, seen, stepped, transported}
use Rattle.cpl_state.specs.Cut.{after_cut, cut_at, cut_off, to_ice_numbers, with_flight, with_top, to_ocean_at as numbers_of_flight}
use Rattle.cpl_state.specs.CouplingStep.{sea_after, sea_of, step_after}
use Rattle.cpl_rounds.specs.Rounds.{PlanParts, state_at, ocean_at, outward_in, to_ice_at, to_ocean_at}
use Rattle.cpl_rounds.proofs.Blocks.{range_block_at}
use Rattle.cpl_rounds.proofs.States.{state_next}

-- AN OCEAN WITH ANOTHER TOP LAYER

number_top : (N : ℕ) (top : ℕ → ℤ) (xs : List ℤ) (c : ℕ) → c < N → at (map top (range_with_len 0 N) ++ drop N xs) (0 * N + c) ≡ top c
number_top N top xs c l =
    let first = map top (range_with_len 0 N) in
    let place : 0 * N + c ≡ c = omega arith in
    let long = length-map-range_with_len top 0 N in
    ap (at (first ++ drop N xs)) place
    ∙ get_or_append_left first (drop N xs) (pos 0) c (omega (arith, long))
    ∙ get_or-map-range_with_len top 0 N c c (pos 0) l (omega arith)

number_below : (N : ℕ) (top : ℕ → ℤ) (xs : List ℤ) (layer c : ℕ) → at (map top (range_with_len 0 N) ++ drop N xs) ((layer + 1) * N + c) ≡ at xs ((layer + 1) * N + c)
number_below N top xs layer c =
    let first = map top (range_with_len 0 N) in
    let k = (layer + 1) * N + c in
    let apart = add-mul layer 1 N in
    let past : N ≤ (layer + 1) * N + c = omega (arith, apart) in
    let whole : N + ((layer + 1) * N + c - N) ≡ (layer + 1) * N + c = omega (arith, past) in
    get_or-append_right first (drop N xs) N k (pos 0) (length-map-range_with_len top 0 N) past
    ∙ get_or-drop N xs (k - N) (pos 0)
    ∙ ap (at xs) whole

cell_top : (mesh : Mesh) (sea : Sea) (top : ℕ → Salty) (c : ℕ) → c < cell_count mesh → cell_in mesh (with_top mesh sea top) 0 c ≡ top c
cell_top mesh sea top c l = λ t. record {
  water = number_top (cell_count mesh) (λ n. (top n).water) sea.water c l t;
  heat = number_top (cell_count mesh) (λ n. (top n).heat) sea.heat c l t;
  salt = number_top (cell_count mesh) (λ n. (top n).salt) sea.salt c l t;
}

cell_below : (mesh : Mesh) (sea : Sea) (top : ℕ → Salty) (layer c : ℕ) → cell_in mesh (with_top mesh sea top) (layer + 1) c ≡ cell_in mesh sea (layer + 1) c
cell_below mesh sea top layer c = λ t. record {
  water = number_below (cell_count mesh) (λ n. (top n).water) sea.water layer c t;
  heat = number_below (cell_count mesh) (λ n. (top n).heat) sea.heat layer c t;
  salt = number_below (cell_count mesh) (λ n. (top n).salt) sea.salt layer c t;
}

-- THE FLIGHT AND THE STEPS

pub sea_flight : (plan : PlanParts) (n : ℕ) → ocean_at plan n 1 ≡ with_flight plan.grid.ocean (ocean_at plan n 0) (state_at plan n).to_ocean
unfolding ocean_at
sea_flight plan n = refl

-- a flight, in either order of its places
flight_same : (whole : Whole) (c : ℕ) → numbers_of_flight whole.to_ocean c ≡ flight_to_ocean whole c
flight_same whole c =
    let a : 3 * c ≡ c * 3 + 0 = omega arith in
    let b : 3 * c + 1 ≡ c * 3 + 1 = omega arith in
    let d : 3 * c + 2 ≡ c * 3 + 2 = omega arith in
    λ t. record { water = at whole.to_ocean (a t); heat = at whole.to_ocean (b t); salt = at whole.to_ocean (d t) }

flight_top : (mesh : Mesh) (sea : Sea) (whole : Whole) (c : ℕ) → c < cell_count mesh
    → cell_in mesh (with_flight mesh sea whole.to_ocean) 0 c ≡ joined (cell_in mesh sea 0 c) (flight_to_ocean whole c)
unfolding with_flight
flight_top mesh sea whole c l =
    cell_top mesh sea (λ n. joined (cell_in mesh sea 0 n) (numbers_of_flight whole.to_ocean n)) c l
    ∙ ap (joined (cell_in mesh sea 0 c)) (flight_same whole c)

flight_below : (mesh : Mesh) (sea : Sea) (to_ocean : List ℤ) (layer c : ℕ) → cell_in mesh (with_flight mesh sea to_ocean) (layer + 1) c ≡ cell_in mesh sea (layer + 1) c
unfolding with_flight
flight_below mesh sea to_ocean layer c = cell_below mesh sea (λ n. joined (cell_in mesh sea 0 n) (numbers_of_flight to_ocean n)) layer c

pub sea_top : (plan : PlanParts) (n c : ℕ) → c < ocean_cells plan.grid
    → cell_in plan.grid.ocean (ocean_at plan n 1) 0 c ≡ joined (cell_in plan.grid.ocean (ocean_at plan n 0) 0 c) (to_ocean_at plan n c)
sea_top plan n c l =
    ap (λ (sea : Sea). cell_in plan.grid.ocean sea 0 c) (sea_flight plan n)
    ∙ flight_top plan.grid.ocean (ocean_at plan n 0) (state_at plan n) c l

pub sea_below : (plan : PlanParts) (n layer c : ℕ) → cell_in plan.grid.ocean (ocean_at plan n 1) (layer + 1) c ≡ cell_in plan.grid.ocean (ocean_at plan n 0) (layer + 1) c
sea_below plan n layer c =
    ap (λ (sea : Sea). cell_in plan.grid.ocean sea (layer + 1) c) (sea_flight plan n)
    ∙ flight_below plan.grid.ocean (ocean_at plan n 0) (state_at plan n).to_ocean layer c

pub sea_next : (plan : PlanParts) (n i : ℕ) → ocean_at plan n (i + 2) ≡ stepped plan.grid.ocean (layers plan.grid) plan.names.rates (ocean_at plan n (i + 1))
unfolding ocean_at
sea_next plan n i =
    let later : i + 2 ≡ suc (suc i) = omega arith in
    let next : suc i ≡ i + 1 = omega arith in
    ap (λ (r : ℕ). ocean_at plan n r) later
    ∙ ap (λ (r : ℕ). stepped plan.grid.ocean (layers plan.grid) plan.names.rates (ocean_at plan n r)) next

pub sea_faces : (plan : PlanParts) (n : ℕ) → (ocean_at plan n 1).faces ≡ (ocean_at plan n 0).faces
unfolding with_flight
sea_faces plan n = ap (λ (sea : Sea). sea.faces) (sea_flight plan n)

-- a number of a layer
read_layered : (count layers : ℕ) (f : ℕ → ℕ → ℤ) (layer n : ℕ) → layer < layers → n < count → at (layered layers count f) (layer * count + n) ≡ f layer n
read_layered count layers f layer n l h =
    let e = mul-add-lt layer count n layers l h in
    get_or-map-range_with_len (λ place. f (place / count) (place % count)) 0 (layers * count) (layer * count + n) (layer * count + n) (pos 0) (omega (arith, e)) (omega arith)
    ∙ (λ t. f (div-mul-add layer count n h t) (mod-mul-add layer count n h t))

step_cell : (mesh : Mesh) (layers : ℕ) (rates : Rates) (sea : Sea) (layer c : ℕ) → layer < layers → c < cell_count mesh
    → cell_in mesh (stepped mesh layers rates sea) layer c ≡ mixed_cell rates.mix layers (λ l. transported mesh layers rates sea l c) layer
unfolding stepped
step_cell mesh layers rates sea layer c l h = λ t. record {
  water = read_layered (cell_count mesh) layers (λ m n. mixed rates.mix layers (λ k. (transported mesh layers rates sea k n).water) m) layer c l h t;
  heat = read_layered (cell_count mesh) layers (λ m n. mixed rates.mix layers (λ k. (transported mesh layers rates sea k n).heat) m) layer c l h t;
  salt = read_layered (cell_count mesh) layers (λ m n. mixed rates.mix layers (λ k. (transported mesh layers rates sea k n).salt) m) layer c l h t;
}

-- a side sees only numbers of faces
seen_same : (p q : ℕ → ℤ) (a b : Option ℕ) → ((f : ℕ) → a ≡ Some f → p f ≡ q f) → ((f : ℕ) → b ≡ Some f → p f ≡ q f) → seen p a b ≡ seen q a b
seen_same p q (Some f) b one other = one f refl
seen_same p q None (Some f) one other = ap neg_ℤ (other f refl)
seen_same p q None None one other = refl

outward_same : (mosaic : MosaicLists) (p q : ℕ → ℤ) (c : ℕ) (side : Side) → ((f : ℕ) → f < length (faces_of mosaic) → p f ≡ q f) → outward mosaic p c side ≡ outward mosaic q c side
unfolding outward
outward_same mosaic p q c side each =
    seen_same p q (position (is_first c side) (faces_of mosaic)) (position (is_second c side) (faces_of mosaic))
    (λ f e. each f (position-Some (is_first c side) (faces_of mosaic) f no_face e).0)
    (λ f e. each f (position-Some (is_second c side) (faces_of mosaic) f no_face e).0)

step_face : (mesh : Mesh) (layers : ℕ) (rates : Rates) (sea : Sea) (layer c : ℕ) (side : Side) → layer < layers
    → outward_in mesh (stepped mesh layers rates sea) layer c side ≡ outward mesh.mosaic (next_number mesh layers rates sea layer) c side
unfolding stepped
step_face mesh layers rates sea layer c side l =
    outward_same mesh.mosaic (λ f. at (stepped mesh layers rates sea).faces (layer * face_count mesh + f)) (next_number mesh layers rates sea layer) c side
    (λ f h. read_layered (face_count mesh) layers (next_number mesh layers rates sea) layer f l h)

pub sea_cell : (plan : PlanParts) (n i layer c : ℕ) → layer < layers plan.grid → c < ocean_cells plan.grid
    → cell_in plan.grid.ocean (ocean_at plan n (i + 2)) layer c
    ≡ mixed_cell plan.names.rates.mix (layers plan.grid) (λ l. transported plan.grid.ocean (layers plan.grid) plan.names.rates (ocean_at plan n (i + 1)) l c) layer
sea_cell plan n i layer c l h =
    ap (λ (sea : Sea). cell_in plan.grid.ocean sea layer c) (sea_next plan n i)
    ∙ step_cell plan.grid.ocean (layers plan.grid) plan.names.rates (ocean_at plan n (i + 1)) layer c l h

pub sea_face : (plan : PlanParts) (n i layer c : ℕ) (side : Side) → layer < layers plan.grid
    → outward_in plan.grid.ocean (ocean_at plan n (i + 2)) layer c side
    ≡ outward plan.grid.ocean.mosaic (next_number plan.grid.ocean (layers plan.grid) plan.names.rates (ocean_at plan n (i + 1)) layer) c side
sea_face plan n i layer c side l =
    ap (λ (sea : Sea). outward_in plan.grid.ocean sea layer c side) (sea_next plan n i)
    ∙ step_face plan.grid.ocean (layers plan.grid) plan.names.rates (ocean_at plan n (i + 1)) layer c side l

-- THE CUT

-- the ocean after its last step
all_steps : (plan : PlanParts) (n : ℕ) → ocean_at plan n (plan.names.ocean_steps + 1) ≡ sea_after plan.grid plan.names (state_at plan n)
unfolding ocean_at sea_after
all_steps plan n = let last : plan.names.ocean_steps + 1 ≡ suc plan.names.ocean_steps = omega arith in ap (λ (r : ℕ). ocean_at plan n r) last

step_sea : (plan : PlanParts) (n : ℕ) → after_cut plan.grid.ocean (sea_after plan.grid plan.names (state_at plan n)) ≡ sea_of (step_after plan.grid plan.names (state_at plan n))
unfolding step_after
step_sea plan n = refl

next_sea_of : (plan : PlanParts) (n : ℕ) → sea_of (step_after plan.grid plan.names (state_at plan n)) ≡ ocean_at plan (n + 1) 0
unfolding ocean_at
next_sea_of plan n = ap (λ (whole : Whole). sea_of whole) (sym (state_next plan n))

pub sea_last : (plan : PlanParts) (n : ℕ) → after_cut plan.grid.ocean (ocean_at plan n (plan.names.ocean_steps + 1)) ≡ ocean_at plan (n + 1) 0
sea_last plan n = ap (after_cut plan.grid.ocean) (all_steps plan n) ∙ step_sea plan n ∙ next_sea_of plan n

cut_faces : (mesh : Mesh) (sea : Sea) → sea.faces ≡ (after_cut mesh sea).faces
unfolding after_cut
cut_faces mesh sea = refl

pub last_faces : (plan : PlanParts) (n : ℕ) → (ocean_at plan n (plan.names.ocean_steps + 1)).faces ≡ (ocean_at plan (n + 1) 0).faces
last_faces plan n = cut_faces plan.grid.ocean (ocean_at plan n (plan.names.ocean_steps + 1)) ∙ ap (λ (sea : Sea). sea.faces) (sea_last plan n)

cut_top : (mesh : Mesh) (sea : Sea) (c : ℕ) → c < cell_count mesh → cell_in mesh (after_cut mesh sea) 0 c ≡ uncut (cell_in mesh sea 0 c)
unfolding after_cut
cut_top mesh sea c l = cell_top mesh sea (λ n. uncut (cell_in mesh sea 0 n)) c l

cut_below : (mesh : Mesh) (sea : Sea) (layer c : ℕ) → cell_in mesh (after_cut mesh sea) (layer + 1) c ≡ cell_in mesh sea (layer + 1) c
unfolding after_cut
cut_below mesh sea layer c = cell_below mesh sea (λ n. uncut (cell_in mesh sea 0 n)) layer c

pub last_top : (plan : PlanParts) (n c : ℕ) → c < ocean_cells plan.grid
    → uncut (cell_in plan.grid.ocean (ocean_at plan n (plan.names.ocean_steps + 1)) 0 c) ≡ cell_in plan.grid.ocean (ocean_at plan (n + 1) 0) 0 c
last_top plan n c l =
    sym (cut_top plan.grid.ocean (ocean_at plan n (plan.names.ocean_steps + 1)) c l)
    ∙ ap (λ (sea : Sea). cell_in plan.grid.ocean sea 0 c) (sea_last plan n)

pub last_below : (plan : PlanParts) (n layer c : ℕ)
    → cell_in plan.grid.ocean (ocean_at plan n (plan.names.ocean_steps + 1)) (layer + 1) c ≡ cell_in plan.grid.ocean (ocean_at plan (n + 1) 0) (layer + 1) c
last_below plan n layer c =
    sym (cut_below plan.grid.ocean (ocean_at plan n (plan.names.ocean_steps + 1)) layer c)
    ∙ ap (λ (sea : Sea). cell_in plan.grid.ocean sea (layer + 1) c) (sea_last plan n)

-- a number of what a cell cuts off
cut_number : (mesh : Mesh) (sea : Sea) (c k : ℕ) → c < cell_count mesh → k < 5 → at (cut_off mesh sea) (c * 5 + k) ≡ at (to_ice_numbers (cut_at mesh sea c)) k
unfolding cut_off
cut_number mesh sea c k l h = range_block_at 5 (λ n. to_ice_numbers (cut_at mesh sea n)) (λ n. refl) (cell_count mesh) c k l h

step_cut : (plan : PlanParts) (n c : ℕ) → c < ocean_cells plan.grid
    → cut_at plan.grid.ocean (sea_after plan.grid plan.names (state_at plan n)) c ≡ flight_to_ice (step_after plan.grid plan.names (state_at plan n)) c
unfolding step_after
step_cut plan n c l =
    let mesh = plan.grid.ocean in
    let sea = sea_after plan.grid plan.names (state_at plan n) in
    λ t. record {
      frazil_water = sym (cut_number mesh sea c 0 l (omega arith)) t;
      frazil_heat = sym (cut_number mesh sea c 1 l (omega arith)) t;
      skin = record {
        water = sym (cut_number mesh sea c 2 l (omega arith)) t;
        heat = sym (cut_number mesh sea c 3 l (omega arith)) t;
        salt = sym (cut_number mesh sea c 4 l (omega arith)) t;
      };
    }

pub sea_cut : (plan : PlanParts) (n c : ℕ) → c < ocean_cells plan.grid
    → cut_at plan.grid.ocean (ocean_at plan n (plan.names.ocean_steps + 1)) c ≡ to_ice_at plan (n + 1) c
sea_cut plan n c l =
    ap (λ (sea : Sea). cut_at plan.grid.ocean sea c) (all_steps plan n)
    ∙ step_cut plan n c l
    ∙ ap (λ (whole : Whole). flight_to_ice whole c) (sym (state_next plan n))
