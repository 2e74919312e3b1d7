-- The parts of a script, and an action in one of them.
use Rattle.std.proofs.Common.{◌≡◌, ◌∙◌, refl, sym, ap, ℕ, zero, suc, ◌+◌, ◌-◌, ◌*◌, ◌<◌, ◌⊎◌, arith, Bool, true, false, List, [], ◌∷◌, ◌++◌, length, get_or, take, eqb}
use Rattle.std.specs.Prelude.{slice_get}
use Rattle.std.specs.List.{flat_map, range_with_len}
use Rattle.std.proofs.lemmas.Bool.{ne_eqb, eq-eqb}
use Rattle.std.proofs.lemmas.Grind.{flat_map-append}
use Rattle.std.proofs.lemmas.List.{length-append, length-map}
use Rattle.std.proofs.lemmas.List.Sums.{sum_by-cons, sum_by_more}
use Rattle.cpl_fixed.specs.declared.words.Component.{Component}
use Rattle.cpl_namelist.specs.declared.names.Names.{Names}
use Rattle.cpl_wires.specs.declared.parts.Move.{Move}
use Rattle.cpl_wires.specs.declared.parts.Move.TheVariants.{Posts, Takes, Does}
use Rattle.cpl_wires.specs.declared.parts.Turn.{Turn}
use Rattle.cpl_wires.specs.declared.parts.Stop.{Stop}
use Rattle.cpl_wires.specs.declared.parts.Lengths.{Lengths}
use Rattle.cpl_wires.specs.Settings.{Setting, component_of}
use Rattle.cpl_wires.specs.Edges.{posted_by, taken_by}
use Rattle.cpl_wires.specs.Turns.{opening, fast_moves, ocean_moves, closing, summing, turned, step_and_sums, turns_for}
use Rattle.cpl_wires.specs.Stops.{post_stop, take_stop, stops_by, stops_of, stops}
use Rattle.cpl_wires.specs.Lengths.{move_length, moves_length, lengths_of, opens_by, closes_by, step_size, begin_of, actions_in, actions_of}
use Rattle.cpl_wires.proofs.Gets.{get_front, get_back, get_block, length_blocks, length_even}

-- one more of a size
suc_mul : (k size : ℕ) → suc k * size ≡ k * size + size
suc_mul k size = omega arith

-- LISTS

flat_flat : {A B : Type 0} (g : B → List A) (f : ℕ → List B) (a n : ℕ) → flat_map g (flat_map f (range_with_len a n)) ≡ flat_map (λ k. flat_map g (f k)) (range_with_len a n)
flat_flat g f a zero = refl
flat_flat g f a (suc n) = flat_map-append g (f a) (flat_map f (range_with_len (a + 1) n)) ∙ ap (λ l. flat_map g (f a) ++ l) (flat_flat g f (a + 1) n)

-- five lists that follow each other
module _ {X : Type 0} (xs bs cs ds es : List X) where
  five : List X
  five = (((xs ++ bs) ++ cs) ++ ds) ++ es

  four_long : length ((((xs ++ bs) ++ cs) ++ ds)) ≡ length xs + length bs + length cs + length ds
  four_long = let one = length-append xs bs in let two = length-append (xs ++ bs) cs in let three = length-append ((xs ++ bs) ++ cs) ds in omega arith

  pub five_long : length ((((xs ++ bs) ++ cs) ++ ds) ++ es) ≡ length xs + length bs + length cs + length ds + length es
  five_long = let one = four_long in let two = length-append (((xs ++ bs) ++ cs) ++ ds) es in omega arith

  pub in_one : (m : ℕ) → m < length xs → slice_get ((((xs ++ bs) ++ cs) ++ ds) ++ es) m ≡ slice_get xs m
  in_one m l =
      let one = length-append xs bs in let two = length-append (xs ++ bs) cs in let three = length-append ((xs ++ bs) ++ cs) ds in
      get_front (((xs ++ bs) ++ cs) ++ ds) es m (omega arith) ∙ get_front ((xs ++ bs) ++ cs) ds m (omega arith) ∙ get_front (xs ++ bs) cs m (omega arith) ∙ get_front xs bs m l

  pub in_two : (m : ℕ) → m < length bs → slice_get ((((xs ++ bs) ++ cs) ++ ds) ++ es) (length xs + m) ≡ slice_get bs m
  in_two m l =
      let one = length-append xs bs in let two = length-append (xs ++ bs) cs in let three = length-append ((xs ++ bs) ++ cs) ds in
      let back : length xs + m - length xs ≡ m = omega arith in
      get_front (((xs ++ bs) ++ cs) ++ ds) es (length xs + m) (omega arith) ∙ get_front ((xs ++ bs) ++ cs) ds (length xs + m) (omega arith) ∙ get_front (xs ++ bs) cs (length xs + m) (omega arith)
      ∙ get_back xs bs (length xs + m) (omega arith) ∙ ap (slice_get bs) back

  pub in_three : (m : ℕ) → m < length cs → slice_get ((((xs ++ bs) ++ cs) ++ ds) ++ es) (length xs + length bs + m) ≡ slice_get cs m
  in_three m l =
      let one = length-append xs bs in let two = length-append (xs ++ bs) cs in let three = length-append ((xs ++ bs) ++ cs) ds in
      let back : length xs + length bs + m - length (xs ++ bs) ≡ m = omega arith in
      get_front (((xs ++ bs) ++ cs) ++ ds) es (length xs + length bs + m) (omega arith) ∙ get_front ((xs ++ bs) ++ cs) ds (length xs + length bs + m) (omega arith)
      ∙ get_back (xs ++ bs) cs (length xs + length bs + m) (omega arith) ∙ ap (slice_get cs) back

  pub in_four : (m : ℕ) → m < length ds → slice_get ((((xs ++ bs) ++ cs) ++ ds) ++ es) (length xs + length bs + length cs + m) ≡ slice_get ds m
  in_four m l =
      let one = length-append xs bs in let two = length-append (xs ++ bs) cs in let three = length-append ((xs ++ bs) ++ cs) ds in
      let back : length xs + length bs + length cs + m - length ((xs ++ bs) ++ cs) ≡ m = omega arith in
      get_front (((xs ++ bs) ++ cs) ++ ds) es (length xs + length bs + length cs + m) (omega arith)
      ∙ get_back ((xs ++ bs) ++ cs) ds (length xs + length bs + length cs + m) (omega arith) ∙ ap (slice_get ds) back

  pub in_five : (m : ℕ) → slice_get ((((xs ++ bs) ++ cs) ++ ds) ++ es) (length xs + length bs + length cs + length ds + m) ≡ slice_get es m
  in_five m =
      let all = four_long in
      let back : length xs + length bs + length cs + length ds + m - length (((xs ++ bs) ++ cs) ++ ds) ≡ m = omega arith in
      get_back (((xs ++ bs) ++ cs) ++ ds) es (length xs + length bs + length cs + length ds + m) (omega arith) ∙ ap (slice_get es) back

-- MOVES

module _ (setting : Setting) (piece : ℕ) where
  -- the actions of turns
  abbrev pub acted : List Turn → List Stop
  acted all = flat_map (stops_of setting piece) all

  pub move_long : (turn : Turn) (kind : Move) → length (stops_by setting piece turn kind) ≡ move_length setting piece kind
  move_long turn (Posts purpose) = length-map (posted_by setting piece purpose) (post_stop setting turn)
  move_long turn (Takes purpose) = length-map (taken_by setting piece purpose) (take_stop setting turn)
  move_long turn (Does job) = refl

  pub moves_cons : (kind : Move) (moves : List Move) → moves_length setting piece (kind ∷ moves) ≡ move_length setting piece kind + moves_length setting piece moves
  unfolding moves_length
  moves_cons kind moves = sum_by-cons (move_length setting piece) kind moves

  pub moves_more : (moves : List Move) (i : ℕ) (d : Move) → i < length moves → moves_length setting piece (take (i + 1) moves) ≡ moves_length setting piece (take i moves) + move_length setting piece (get_or moves i d)
  unfolding moves_length
  moves_more moves i d l = sum_by_more (move_length setting piece) moves i d l

  pub moves_none : moves_length setting piece [] ≡ 0
  unfolding moves_length
  moves_none = refl

  pub moves_long : (step sub : ℕ) (moves : List Move) → length (acted (turned step sub moves)) ≡ moves_length setting piece moves
  moves_long step sub [] = sym moves_none
  moves_long step sub (kind ∷ moves) =
      let turn : Turn = record { kind = kind; step = step; sub = sub } in
      let both = length-append (stops_of setting piece turn) (acted (turned step sub moves)) in
      let first = move_long turn kind in
      let rest = moves_long step sub moves in
      let cons = moves_cons kind moves in omega arith

  -- an action of the i-th move
  pub in_move : (step sub : ℕ) (moves : List Move) (i rest : ℕ) (d : Move) → i < length moves → rest < move_length setting piece (get_or moves i d)
      → slice_get (acted (turned step sub moves)) (rest + moves_length setting piece (take i moves)) ≡ slice_get (stops_of setting piece (record { kind = get_or moves i d; step = step; sub = sub })) rest
  in_move step sub [] i rest d l h = absurd (omega arith)
  in_move step sub (kind ∷ moves) zero rest d l h =
      let turn : Turn = record { kind = kind; step = step; sub = sub } in
      let long = move_long turn kind in
      let none = moves_none in
      let same : rest + moves_length setting piece [] ≡ rest = omega arith in
      ap (slice_get (stops_of setting piece turn ++ acted (turned step sub moves))) same ∙ get_front (stops_of setting piece turn) (acted (turned step sub moves)) rest (omega arith)
  in_move step sub (kind ∷ moves) (suc i) rest d l h =
      let turn : Turn = record { kind = kind; step = step; sub = sub } in
      let long = move_long turn kind in
      let cons = moves_cons kind (take i moves) in
      let same : rest + moves_length setting piece (kind ∷ take i moves) - length (stops_of setting piece turn) ≡ rest + moves_length setting piece (take i moves) = omega arith in
      get_back (stops_of setting piece turn) (acted (turned step sub moves)) (rest + moves_length setting piece (kind ∷ take i moves)) (omega arith)
      ∙ ap (slice_get (acted (turned step sub moves))) same ∙ in_move step sub moves i rest d (omega arith) h

  -- A COUPLING STEP

  abbrev component : Component
  component = component_of setting piece

  abbrev names : Names
  names = setting.names

  abbrev lengths : Lengths
  lengths = lengths_of setting piece

  abbrev pub opens : ℕ → List Stop
  opens n = acted (turned n 0 (opening component (eqb n 0)))

  abbrev pub fasts : ℕ → List Stop
  fasts n = flat_map (λ i. acted (turned n i (fast_moves component))) (range_with_len 0 names.fast)

  abbrev pub oceans : ℕ → List Stop
  oceans n = flat_map (λ i. acted (turned n i (ocean_moves component))) (range_with_len 0 names.ocean_steps)

  abbrev pub closes : ℕ → List Stop
  closes n = acted (turned n 0 (closing component (eqb (n + 1) names.steps)))

  abbrev pub sums : ℕ → List Stop
  sums n = acted (turned n 0 (summing (eqb piece 0)))

  abbrev pub step_stops : ℕ → List Stop
  step_stops n = acted (step_and_sums names component (eqb piece 0) n)

  -- it has five parts
  pub step_parts : (n : ℕ) → step_stops n ≡ (((opens n ++ fasts n) ++ oceans n) ++ closes n) ++ sums (n + 1)
  step_parts n =
      let f = stops_of setting piece in
      let a = turned n 0 (opening component (eqb n 0)) in
      let b = flat_map (λ i. turned n i (fast_moves component)) (range_with_len 0 names.fast) in
      let c = flat_map (λ i. turned n i (ocean_moves component)) (range_with_len 0 names.ocean_steps) in
      let d = turned n 0 (closing component (eqb (n + 1) names.steps)) in
      let e = turned (n + 1) 0 (summing (eqb piece 0)) in
      let fast = flat_flat f (λ i. turned n i (fast_moves component)) 0 names.fast in
      let ocean = flat_flat f (λ i. turned n i (ocean_moves component)) 0 names.ocean_steps in
      flat_map-append f (((a ++ b) ++ c) ++ d) e
      ∙ ap (λ l. l ++ flat_map f e) (flat_map-append f ((a ++ b) ++ c) d
      ∙ ap (λ l. l ++ flat_map f d) (flat_map-append f (a ++ b) c
      ∙ ap (λ l. l ++ flat_map f c) (flat_map-append f a b ∙ ap (λ l. flat_map f a ++ l) fast)
      ∙ ap (λ l. (opens n ++ fasts n) ++ l) ocean))

  by_first : (first : Bool) → moves_length setting piece (opening component first) ≡ opens_by lengths first
  by_first true = refl
  by_first false = refl

  pub opens_long : (n : ℕ) → length (opens n) ≡ opens_by lengths (eqb n 0)
  opens_long n = moves_long n 0 (opening component (eqb n 0)) ∙ by_first (eqb n 0)

  pub fasts_long : (n : ℕ) → length (fasts n) ≡ names.fast * lengths.fast
  fasts_long n = length_even (λ i. acted (turned n i (fast_moves component))) lengths.fast 0 names.fast (λ i. moves_long n i (fast_moves component))

  pub oceans_long : (n : ℕ) → length (oceans n) ≡ names.ocean_steps * lengths.ocean
  oceans_long n = length_even (λ i. acted (turned n i (ocean_moves component))) lengths.ocean 0 names.ocean_steps (λ i. moves_long n i (ocean_moves component))

  by_last : (last : Bool) → moves_length setting piece (closing component last) ≡ closes_by lengths last
  by_last true = refl
  by_last false = refl

  pub closes_long : (n : ℕ) → length (closes n) ≡ closes_by lengths (eqb (n + 1) names.steps)
  closes_long n = moves_long n 0 (closing component (eqb (n + 1) names.steps)) ∙ by_last (eqb (n + 1) names.steps)

  pub sums_long : (n : ℕ) → length (sums n) ≡ lengths.summing
  sums_long n = moves_long n 0 (summing (eqb piece 0))

  pub step_long : (n : ℕ) → length (step_stops n) ≡ step_size names lengths (eqb n 0) (eqb (n + 1) names.steps)
  step_long n =
      let parts = ap length (step_parts n) in
      let all = five_long (opens n) (fasts n) (oceans n) (closes n) (sums (n + 1)) in
      let a = opens_long n in let b = fasts_long n in let c = oceans_long n in let d = closes_long n in let e = sums_long (n + 1) in omega (arith, parts, all, a, b, c, d, e)

  -- A SCRIPT

  -- it begins with the sums, and then its coupling steps follow
  pub script_parts : stops setting piece ≡ sums 0 ++ flat_map step_stops (range_with_len 0 names.steps)
  unfolding stops turns_for
  script_parts =
      flat_map-append (stops_of setting piece) (turned 0 0 (summing (eqb piece 0))) (flat_map (step_and_sums names component (eqb piece 0)) (range_with_len 0 names.steps))
      ∙ ap (λ l. sums 0 ++ l) (flat_flat (stops_of setting piece) (step_and_sums names component (eqb piece 0)) 0 names.steps)

  by_begin : (k : ℕ) → length (step_stops k) ≡ step_size names lengths (eqb k 0) false → begin_of names lengths (suc k) ≡ begin_of names lengths k + length (step_stops k)
  by_begin zero long = omega (arith, long)
  by_begin (suc k) long =
      let later : step_size names lengths (eqb (suc k) 0) false ≡ step_size names lengths false false =
      ap (λ (first : Bool). step_size names lengths first false) (ne_eqb (suc k) 0 (omega arith)) in
      let more = suc_mul k (step_size names lengths false false) in omega (arith, long, more, later)

  pub next_begin : (k : ℕ) → k + 1 < names.steps → begin_of names lengths (k + 1) ≡ begin_of names lengths k + length (step_stops k)
  next_begin k l =
      let same : k + 1 ≡ suc k = omega arith in
      ap (begin_of names lengths) same ∙ by_begin k (step_long k ∙ ap (step_size names lengths (eqb k 0)) (ne_eqb (k + 1) names.steps (omega arith)))

  -- an action of a coupling step
  pub in_step : (n rest : ℕ) → n < names.steps → ((rest < length (step_stops n)) ⊎ (n + 1 ≡ names.steps)) → slice_get (stops setting piece) (lengths.summing + (begin_of names lengths n + rest)) ≡ slice_get (step_stops n) rest
  in_step n rest l there =
      let long = sums_long 0 in
      let back : lengths.summing + (begin_of names lengths n + rest) - length (sums 0) ≡ begin_of names lengths n + rest = omega arith in
      ap (λ all. slice_get all (lengths.summing + (begin_of names lengths n + rest))) script_parts
      ∙ get_back (sums 0) (flat_map step_stops (range_with_len 0 names.steps)) (lengths.summing + (begin_of names lengths n + rest)) (omega arith)
      ∙ ap (slice_get (flat_map step_stops (range_with_len 0 names.steps))) back
      ∙ get_block step_stops (begin_of names lengths) names.steps n rest (begin_of names lengths n + rest) next_begin refl l there refl

  -- how many actions there are
  by_steps : (count : ℕ) → names.steps ≡ count → length (stops setting piece) ≡ lengths.summing + length (flat_map step_stops (range_with_len 0 names.steps))
      → length (stops setting piece) ≡ actions_in names lengths count
  by_steps zero is all = let none = ap (λ (n : ℕ). length (flat_map step_stops (range_with_len 0 n))) is in omega (arith, all, none)
  by_steps (suc last) is all =
      let steps = length_blocks step_stops (begin_of names lengths) names.steps last next_begin refl (omega arith) in
      let long = step_long last in
      let ends : eqb (last + 1) names.steps ≡ true = eq-eqb (last + 1) names.steps (omega arith) in
      let size = ap (step_size names lengths (eqb last 0)) ends in omega (arith, all, steps, long, size)

  pub script_long : length (stops setting piece) ≡ actions_of names lengths
  script_long =
      let parts = ap length script_parts in
      let both = length-append (sums 0) (flat_map step_stops (range_with_len 0 names.steps)) in
      let first = sums_long 0 in by_steps names.steps refl (omega (arith, parts, both, first))
