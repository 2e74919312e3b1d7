-- An action by its number: of a move, of a coupling step, and of a script.
use Rattle.std.proofs.Common.{◌≡◌, ◌∙◌, sym, ap, ℕ, zero, suc, ◌+◌, ◌-◌, ◌*◌, ◌<◌, ◌≤◌, ◌⊎◌, arith, inl, inr, false, List, ◌++◌, length, get_or, take, eqb, None}
use Rattle.std.specs.Prelude.{◌/◌, slice_get}
use Rattle.std.specs.List.{flat_map, range_with_len}
use Rattle.std.proofs.lemmas.Bool.{cases_eq, ne_eqb}
use Rattle.std.proofs.lemmas.List.{take_all}
use Rattle.std.proofs.lemmas.Option.{slice_get_past}
use Rattle.cpl_namelist.specs.declared.names.Names.{Names}
use Rattle.cpl_wires.specs.declared.parts.Purpose.{Purpose}
use Rattle.cpl_wires.specs.declared.parts.Move.{Move}
use Rattle.cpl_wires.specs.declared.parts.Lengths.{Lengths}
use Rattle.cpl_wires.specs.Settings.{Setting, component_of}
use Rattle.cpl_wires.specs.Edges.{edges_of, posted_by, taken_by}
use Rattle.cpl_wires.specs.Turns.{fast_moves, ocean_moves, turned}
use Rattle.cpl_wires.specs.Stops.{stops_of, stops}
use Rattle.cpl_wires.specs.Lengths.{move_length, moves_length, lengths_of, opens_by, closes_by, step_size, begin_of, actions_in, actions_of}
use Rattle.cpl_wires.proofs.Few.{mul_most}
use Rattle.cpl_wires.proofs.Gets.{get_front, get_even}
use Rattle.cpl_wires.proofs.Numbers.{numbers_within}
use Rattle.cpl_wires.proofs.Parted.{in_move, in_one, in_two, in_three, in_four, in_five, acted, moves_long, opens, fasts, oceans, closes, sums, step_stops, step_parts, opens_long, fasts_long, oceans_long, closes_long, sums_long, step_long, script_parts, in_step, script_long}
use Rattle.cpl_wires.proofs.Sized.{times_below, rest_below}

-- OF A MOVE

-- the edges that a piece posts, or takes, are among all
pub posted_within : (setting : Setting) (piece m : ℕ) (purpose : Purpose) (list : List ℕ) → list ≡ posted_by setting piece purpose → m < length list → get_or list m 0 < length (edges_of setting)
unfolding posted_by
posted_within setting piece m purpose list is l =
    let same = ap (λ (numbers : List ℕ). length numbers) is in
    let at = ap (λ (numbers : List ℕ). get_or numbers m 0) is in
    let inside : m < length (posted_by setting piece purpose) = omega arith in
    let below : get_or (posted_by setting piece purpose) m 0 < 0 + length (edges_of setting) = numbers_within _ 0 (edges_of setting) m 0 inside in omega arith

pub taken_within : (setting : Setting) (piece m : ℕ) (purpose : Purpose) (list : List ℕ) → list ≡ taken_by setting piece purpose → m < length list → get_or list m 0 < length (edges_of setting)
unfolding taken_by
taken_within setting piece m purpose list is l =
    let same = ap (λ (numbers : List ℕ). length numbers) is in
    let at = ap (λ (numbers : List ℕ). get_or numbers m 0) is in
    let inside : m < length (taken_by setting piece purpose) = omega arith in
    let below : get_or (taken_by setting piece purpose) m 0 < 0 + length (edges_of setting) = numbers_within _ 0 (edges_of setting) m 0 inside in omega arith

-- the same moves
pub acted_same : (setting : Setting) (piece step sub m : ℕ) (moves others : List Move) → moves ≡ others
    → slice_get (acted setting piece (turned step sub moves)) m ≡ slice_get (acted setting piece (turned step sub others)) m
acted_same setting piece step sub m moves others is = ap (λ (all : List Move). slice_get (acted setting piece (turned step sub all)) m) is

-- past all moves
pub past_moves : (setting : Setting) (piece step sub m : ℕ) (moves : List Move) → moves_length setting piece moves ≤ m → slice_get (acted setting piece (turned step sub moves)) m ≡ None
past_moves setting piece step sub m moves l =
    let long = moves_long setting piece step sub moves in slice_get_past (acted setting piece (turned step sub moves)) m (omega arith)

-- of the i-th move
pub among_moves : (setting : Setting) (piece step sub m i rest : ℕ) (moves : List Move) (d : Move) → i < length moves → rest < move_length setting piece (get_or moves i d)
    → rest + moves_length setting piece (take i moves) ≡ m
    → slice_get (acted setting piece (turned step sub moves)) m ≡ slice_get (stops_of setting piece (record { kind = get_or moves i d; step = step; sub = sub })) rest
among_moves setting piece step sub m i rest moves d l h at =
    ap (slice_get (acted setting piece (turned step sub moves))) (sym at) ∙ in_move setting piece step sub moves i rest d l h

pub none_among : (setting : Setting) (piece step sub m i rest : ℕ) (moves : List Move) → length moves ≤ i → rest + moves_length setting piece (take i moves) ≡ m
    → slice_get (acted setting piece (turned step sub moves)) m ≡ None
none_among setting piece step sub m i rest moves l at =
    let all = ap (moves_length setting piece) (take_all i moves l) in past_moves setting piece step sub m moves (omega arith)

-- OF A COUPLING STEP

-- steps of one size, and a number in one of them by division
pub record Divides (count size k sub : ℕ) : Type 0 where
  pub below : sub < count
  pub times : sub * size ≤ k
  pub rest : k - sub * size < size

pub some_size : (count size k : ℕ) → k < count * size → 1 ≤ size
some_size count zero k l = absurd (omega arith)
some_size count (suc size) k l = omega arith

pub divides : (count size k sub : ℕ) → k < count * size → sub ≡ k / size → Divides count size k sub
divides count size k sub l is =
    let some = some_size count size k l in
    let times = times_below k size sub some (omega arith) in
    let most : count ≤ sub → ⊥ = λ h. let product : count * size ≤ sub * size = mul_most count sub size size h (omega arith) in absurd (omega arith) in
    record { below = omega arith; times = times; rest = rest_below k size sub some is }

module _ (setting : Setting) (piece : ℕ) (lengths : Lengths) (is : lengths ≡ lengths_of setting piece) (names : Names) (same : names ≡ setting.names) (n : ℕ) where
  opens_are : length (opens setting piece n) ≡ opens_by lengths (eqb n 0)
  opens_are = opens_long setting piece n ∙ ap (λ (l : Lengths). opens_by l (eqb n 0)) (sym is)

  fasts_are : length (fasts setting piece n) ≡ names.fast * lengths.fast
  fasts_are = fasts_long setting piece n ∙ ap (λ (l : Lengths). setting.names.fast * l.fast) (sym is) ∙ ap (λ (s : Names). s.fast * lengths.fast) (sym same)

  oceans_are : length (oceans setting piece n) ≡ names.ocean_steps * lengths.ocean
  oceans_are = oceans_long setting piece n ∙ ap (λ (l : Lengths). setting.names.ocean_steps * l.ocean) (sym is) ∙ ap (λ (s : Names). s.ocean_steps * lengths.ocean) (sym same)

  closes_are : length (closes setting piece n) ≡ closes_by lengths (eqb (n + 1) names.steps)
  closes_are =
      closes_long setting piece n ∙ ap (λ (l : Lengths). closes_by l (eqb (n + 1) setting.names.steps)) (sym is)
      ∙ ap (λ (s : Names). closes_by lengths (eqb (n + 1) s.steps)) (sym same)

  by_parts : (m : ℕ) → slice_get (step_stops setting piece n) m
      ≡ slice_get ((((opens setting piece n ++ fasts setting piece n) ++ oceans setting piece n) ++ closes setting piece n) ++ sums setting piece (n + 1)) m
  by_parts m = ap (λ all. slice_get all m) (step_parts setting piece n)

  -- as it opens
  pub in_opens : (m : ℕ) → m < opens_by lengths (eqb n 0) → slice_get (step_stops setting piece n) m ≡ slice_get (opens setting piece n) m
  in_opens m l =
      let a = opens_are in
      by_parts m ∙ in_one (opens setting piece n) (fasts setting piece n) (oceans setting piece n) (closes setting piece n) (sums setting piece (n + 1)) m (omega arith)

  -- in a fast step
  pub in_fasts : (m k sub : ℕ) → opens_by lengths (eqb n 0) + k ≡ m → k < names.fast * lengths.fast → sub ≡ k / lengths.fast
      → slice_get (step_stops setting piece n) m ≡ slice_get (acted setting piece (turned n sub (fast_moves (component_of setting piece)))) (k - sub * lengths.fast)
  in_fasts m k sub at l by =
      let a = opens_are in let b = fasts_are in
      let count = ap (λ (s : Names). s.fast) same in
      let divided = divides names.fast lengths.fast k sub l by in
      let below = divided.below in
      let times = divided.times in
      let place : m ≡ length (opens setting piece n) + (sub * lengths.fast + (k - sub * lengths.fast)) = omega arith in
      ap (slice_get (step_stops setting piece n)) place ∙ by_parts (length (opens setting piece n) + (sub * lengths.fast + (k - sub * lengths.fast)))
      ∙ in_two (opens setting piece n) (fasts setting piece n) (oceans setting piece n) (closes setting piece n) (sums setting piece (n + 1)) (sub * lengths.fast + (k - sub * lengths.fast)) (omega arith)
      ∙ get_even (λ i. acted setting piece (turned n i (fast_moves (component_of setting piece)))) lengths.fast setting.names.fast sub (k - sub * lengths.fast)
      (λ i. moves_long setting piece n i (fast_moves (component_of setting piece)) ∙ ap (λ (l : Lengths). l.fast) (sym is)) (omega arith) divided.rest

  -- in an ocean step
  pub in_oceans : (m k sub : ℕ) → opens_by lengths (eqb n 0) + names.fast * lengths.fast + k ≡ m → k < names.ocean_steps * lengths.ocean → sub ≡ k / lengths.ocean
      → slice_get (step_stops setting piece n) m ≡ slice_get (acted setting piece (turned n sub (ocean_moves (component_of setting piece)))) (k - sub * lengths.ocean)
  in_oceans m k sub at l by =
      let a = opens_are in let b = fasts_are in let c = oceans_are in
      let count = ap (λ (s : Names). s.ocean_steps) same in
      let divided = divides names.ocean_steps lengths.ocean k sub l by in
      let below = divided.below in
      let times = divided.times in
      let before = length (opens setting piece n) + length (fasts setting piece n) in
      let place : m ≡ before + (sub * lengths.ocean + (k - sub * lengths.ocean)) = omega arith in
      ap (slice_get (step_stops setting piece n)) place ∙ by_parts (before + (sub * lengths.ocean + (k - sub * lengths.ocean)))
      ∙ in_three (opens setting piece n) (fasts setting piece n) (oceans setting piece n) (closes setting piece n) (sums setting piece (n + 1)) (sub * lengths.ocean + (k - sub * lengths.ocean)) (omega arith)
      ∙ get_even (λ i. acted setting piece (turned n i (ocean_moves (component_of setting piece)))) lengths.ocean setting.names.ocean_steps sub (k - sub * lengths.ocean)
      (λ i. moves_long setting piece n i (ocean_moves (component_of setting piece)) ∙ ap (λ (l : Lengths). l.ocean) (sym is)) (omega arith) divided.rest

  -- as it closes
  pub in_closes : (m k : ℕ) → opens_by lengths (eqb n 0) + names.fast * lengths.fast + names.ocean_steps * lengths.ocean + k ≡ m
      → k < closes_by lengths (eqb (n + 1) names.steps) → slice_get (step_stops setting piece n) m ≡ slice_get (closes setting piece n) k
  in_closes m k at l =
      let a = opens_are in let b = fasts_are in let c = oceans_are in let d = closes_are in
      let place : m ≡ length (opens setting piece n) + length (fasts setting piece n) + length (oceans setting piece n) + k = omega arith in
      ap (slice_get (step_stops setting piece n)) place ∙ by_parts (length (opens setting piece n) + length (fasts setting piece n) + length (oceans setting piece n) + k)
      ∙ in_four (opens setting piece n) (fasts setting piece n) (oceans setting piece n) (closes setting piece n) (sums setting piece (n + 1)) k (omega arith)

  -- in the sums after it
  pub in_sums : (m k : ℕ) → opens_by lengths (eqb n 0) + names.fast * lengths.fast + names.ocean_steps * lengths.ocean + closes_by lengths (eqb (n + 1) names.steps) + k ≡ m
      → slice_get (step_stops setting piece n) m ≡ slice_get (sums setting piece (n + 1)) k
  in_sums m k at =
      let a = opens_are in let b = fasts_are in let c = oceans_are in let d = closes_are in
      let place : m ≡ length (opens setting piece n) + length (fasts setting piece n) + length (oceans setting piece n) + length (closes setting piece n) + k = omega arith in
      ap (slice_get (step_stops setting piece n)) place ∙ by_parts (length (opens setting piece n) + length (fasts setting piece n) + length (oceans setting piece n) + length (closes setting piece n) + k)
      ∙ in_five (opens setting piece n) (fasts setting piece n) (oceans setting piece n) (closes setting piece n) (sums setting piece (n + 1)) k

-- OF A SCRIPT

module _ (setting : Setting) (piece : ℕ) (lengths : Lengths) (is : lengths ≡ lengths_of setting piece) (names : Names) (same : names ≡ setting.names) where
  -- in the first sums
  pub in_first_sums : (m : ℕ) → m < lengths.summing → slice_get (stops setting piece) m ≡ slice_get (sums setting piece 0) m
  in_first_sums m l =
      let size = ap (λ (l : Lengths). l.summing) is in
      let long = sums_long setting piece 0 in
      ap (λ all. slice_get all m) (script_parts setting piece)
      ∙ get_front (sums setting piece 0) (flat_map (step_stops setting piece) (range_with_len 0 setting.names.steps)) m (omega arith)

  begins_are : (n : ℕ) → begin_of (setting.names) (lengths_of setting piece) n ≡ begin_of names lengths n
  begins_are n = ap (λ (s : Names). begin_of s (lengths_of setting piece) n) (sym same) ∙ ap (λ (l : Lengths). begin_of names l n) (sym is)

  size_is : (n : ℕ) → (n + 1 ≡ setting.names.steps → ⊥) → length (step_stops setting piece n) ≡ step_size names lengths (eqb n 0) false
  size_is n more =
      step_long setting piece n ∙ ap (step_size setting.names (lengths_of setting piece) (eqb n 0)) (ne_eqb (n + 1) setting.names.steps more)
      ∙ ap (λ (s : Names). step_size s (lengths_of setting piece) (eqb n 0) false) (sym same) ∙ ap (λ (l : Lengths). step_size names l (eqb n 0) false) (sym is)

  there_by : (n rest : ℕ) → ((rest < step_size names lengths (eqb n 0) false) ⊎ (n + 1 ≡ names.steps)) → ((n + 1 ≡ setting.names.steps) ⊎ (n + 1 ≡ setting.names.steps → ⊥))
      → (rest < length (step_stops setting piece n)) ⊎ (n + 1 ≡ setting.names.steps)
  there_by n rest there (inl last) = inr last
  there_by n rest (inr last) (inr more) = inr (last ∙ ap (λ (s : Names). s.steps) same)
  there_by n rest (inl l) (inr more) = let size = size_is n more in inl (omega arith)

  -- in a coupling step
  pub in_the_step : (m k n rest : ℕ) → lengths.summing + k ≡ m → k ≡ begin_of names lengths n + rest → n < names.steps
      → ((rest < step_size names lengths (eqb n 0) false) ⊎ (n + 1 ≡ names.steps)) → slice_get (stops setting piece) m ≡ slice_get (step_stops setting piece n) rest
  in_the_step m k n rest at begin l there =
      let size = ap (λ (l : Lengths). l.summing) is in
      let begins = begins_are n in
      let steps = ap (λ (s : Names). s.steps) same in
      let place : m ≡ (lengths_of setting piece).summing + (begin_of setting.names (lengths_of setting piece) n + rest) = omega arith in
      ap (slice_get (stops setting piece)) place ∙ in_step setting piece n rest (omega arith) (there_by n rest there (cases_eq (n + 1) setting.names.steps))

  some_by : (count m : ℕ) → m < actions_in names lengths count → lengths.summing ≤ m → 1 ≤ count
  some_by zero m l h = absurd (omega arith)
  some_by (suc last) m l h = omega arith

  -- past the first sums there are coupling steps
  pub some_steps : (m : ℕ) → m < lengths.actions → lengths.summing ≤ m → 1 ≤ names.steps
  some_steps m l h =
      let all : lengths.actions ≡ actions_of names lengths =
      ap (λ (l : Lengths). l.actions) is ∙ script_long setting piece ∙ ap (λ (s : Names). actions_of s (lengths_of setting piece)) (sym same) ∙ ap (actions_of names) (sym is) in
      some_by names.steps m (omega arith) h
