-- Times rise along each script.
use Rattle.std.proofs.Common.{◌≡◌, refl, sym, subst, ℕ, zero, suc, ◌+◌, ◌*◌, ◌<◌, ◌≤◌, arith, Bool, true, false, List, [], ◌∷◌, ◌++◌, length, eqb, get_or}
use Rattle.std.specs.Prelude.{map}
use Rattle.std.specs.List.{flat_map, range_with_len}
use Rattle.cpl_fixed.specs.declared.words.Component.{Component}
use Rattle.cpl_fixed.specs.declared.words.Component.TheVariants.{Atmos, Land, Ice, Ocean}
use Rattle.cpl_namelist.specs.declared.names.Names.{Names}
use Rattle.cpl_namelist.specs.Ranges.{AreNames}
use Rattle.cpl_wires.specs.declared.parts.Job.TheVariants.{Gather}
use Rattle.cpl_wires.specs.declared.parts.Move.{Move}
use Rattle.cpl_wires.specs.declared.parts.Move.TheVariants.{Posts, Takes, Does}
use Rattle.cpl_wires.specs.declared.parts.Turn.{Turn}
use Rattle.cpl_core.specs.declared.wiring.Act.TheVariants.{Compute}
use Rattle.cpl_wires.specs.Settings.{Setting, component_of}
use Rattle.cpl_wires.specs.Edges.{posted_by, taken_by}
use Rattle.cpl_wires.specs.Turns.{fast_moves, ocean_moves, opening, closing, summing, turned, step_turns, step_and_sums, turns_for, turns}
use Rattle.cpl_wires.specs.Stops.{post_stop, take_stop, stops_by, stops_of, stops}
use Rattle.cpl_wires.specs.Times.{phase_of, time_of_turn, time_of}
use Rattle.cpl_wires.specs.TimeLaws.{RisesBy}

-- LISTS WHOSE TIMES RISE

-- times rise from `low` on, and end by `high`
abbrev pub Rises : {T : Type 0} → (T → ℕ) → (low high : ℕ) → List T → Type 0
Rises time low high [] = low ≤ high
Rises time low high (x ∷ xs) = (low ≤ time x) × Rises time (time x) high xs

rises_from : {T : Type 0} (time : T → ℕ) (low less high : ℕ) (xs : List T) → less ≤ low → Rises time low high xs → Rises time less high xs
rises_from time low less high [] l rises = omega arith
rises_from time low less high (x ∷ xs) l rises = let first = rises.0 in (omega arith, rises.1)

rises_to : {T : Type 0} (time : T → ℕ) (low high more : ℕ) (xs : List T) → high ≤ more → Rises time low high xs → Rises time low more xs
rises_to time low high more [] l rises = omega arith
rises_to time low high more (x ∷ xs) l rises = (rises.0, rises_to time (time x) high more xs l rises.1)

rises_append : {T : Type 0} (time : T → ℕ) (low middle high : ℕ) (xs ys : List T) → Rises time low middle xs → Rises time middle high ys → Rises time low high (xs ++ ys)
rises_append time low middle high [] ys rises more = rises_from time middle low high ys rises more
rises_append time low middle high (x ∷ xs) ys rises more = (rises.0, rises_append time (time x) middle high xs ys rises.1 more)

rises_blocks : {T : Type 0} (time : T → ℕ) (f : ℕ → List T) (at : ℕ → ℕ) (start n : ℕ) → ((k : ℕ) → start ≤ k → k < start + n → Rises time (at k) (at (k + 1)) (f k))
    → Rises time (at start) (at (start + n)) (flat_map f (range_with_len start n))
rises_blocks time f at start zero each =
    let same : start + 0 ≡ start = omega arith in
    let order : at start ≤ at start = omega arith in
    subst (λ (k : ℕ). at start ≤ at k) (sym same) order
rises_blocks time f at start (suc n) each =
    let same : start + 1 + n ≡ start + suc n = omega arith in
    rises_append time (at start) (at (start + 1)) (at (start + suc n)) (f start) (flat_map f (range_with_len (start + 1) n))
    (each start (omega arith) (omega arith))
    (subst (λ (k : ℕ). Rises time (at (start + 1)) (at k) (flat_map f (range_with_len (start + 1) n))) same
    (rises_blocks time f at (start + 1) n (λ k low high. each k (omega arith) (omega arith))))

-- lists in place of items, each at its item's time
rises_lists : {S T : Type 0} (time : S → ℕ) (times : T → ℕ) (f : S → List T) (low high : ℕ) (xs : List S) → ((x : S) → Rises times (time x) (time x) (f x))
    → Rises time low high xs → Rises times low high (flat_map f xs)
rises_lists time times f low high [] each rises = rises
rises_lists time times f low high (x ∷ xs) each rises =
    rises_append times low (time x) high (f x) (flat_map f xs) (rises_from times (time x) low (time x) (f x) rises.0 (each x))
    (rises_lists time times f (time x) high xs each rises.1)

-- the first is at `low` at least
at_least : {T : Type 0} (time : T → ℕ) (low high : ℕ) (xs : List T) (m : ℕ) (d : T) → Rises time low high xs → m < length xs → low ≤ time (get_or xs m d)
at_least time low high [] m d rises l = absurd (omega arith)
at_least time low high (x ∷ xs) zero d rises l = rises.0
at_least time low high (x ∷ xs) (suc m) d rises l =
    let first = rises.0 in
    let rest = at_least time (time x) high xs m d rises.1 (omega arith) in omega arith

in_order : {T : Type 0} (time : T → ℕ) (low high : ℕ) (xs : List T) (m n : ℕ) (d : T) → Rises time low high xs → m ≤ n → n < length xs → time (get_or xs m d) ≤ time (get_or xs n d)
in_order time low high [] m n d rises l h = absurd (omega arith)
in_order time low high (x ∷ xs) zero zero d rises l h = omega arith
in_order time low high (x ∷ xs) zero (suc n) d rises l h = at_least time (time x) high xs n d rises.1 (omega arith)
in_order time low high (x ∷ xs) (suc m) zero d rises l h = absurd (omega arith)
in_order time low high (x ∷ xs) (suc m) (suc n) d rises l h = in_order time (time x) high xs m n d rises.1 (omega arith) (omega arith)

-- MOVES

-- where a move stands in a coupling step, its fast step or ocean step aside
abbrev pub weight : Move → ℕ
weight move = (phase_of move).0 * 4_000 + (phase_of move).1

pub time_is : (turn : Turn) → time_of_turn turn ≡ turn.step * 28_000 + turn.sub * 4 + weight turn.kind
unfolding time_of_turn
time_is turn = omega arith

moves_rise : (n i a b : ℕ) (moves : List Move) → Rises weight a b moves → Rises time_of_turn (n * 28_000 + i * 4 + a) (n * 28_000 + i * 4 + b) (turned n i moves)
moves_rise n i a b [] rises = omega arith
moves_rise n i a b (move ∷ moves) rises =
    let turn : Turn = record { kind = move; step = n; sub = i } in
    let is = time_is turn in
    let first = rises.0 in (
      omega arith,
      subst (λ (k : ℕ). Rises time_of_turn k (n * 28_000 + i * 4 + b) (turned n i moves)) (sym is) (moves_rise n i (weight move) b moves rises.1),
    )

-- A coupling step has its parts between these marks.
opening_rises : (c : Component) (first : Bool) → Rises weight 8_000 8_000 (opening c first)
opening_rises Atmos first = omega arith
opening_rises Land first = omega arith
opening_rises Ice true = (omega arith, omega arith)
opening_rises Ice false = (omega arith, (omega arith, omega arith))
opening_rises Ocean true = (omega arith, omega arith)
opening_rises Ocean false = (omega arith, (omega arith, omega arith))

fast_rises : (c : Component) → Rises weight 12_000 12_003 (fast_moves c)
fast_rises Atmos = (omega arith, (omega arith, (omega arith, (omega arith, (omega arith, (omega arith, (omega arith, (omega arith, (omega arith, omega arith)))))))))
fast_rises Land = (omega arith, (omega arith, (omega arith, omega arith)))
fast_rises Ice = (omega arith, (omega arith, (omega arith, omega arith)))
fast_rises Ocean = omega arith

-- the ocean's steps come after what the land and the ice do once
abbrev pub steps_begin : Component → ℕ
steps_begin Atmos = 16_000
steps_begin Land = 16_000
steps_begin Ice = 16_000
steps_begin Ocean = 20_000

abbrev pub steps_end : Component → ℕ
steps_end Atmos = 16_000
steps_end Land = 16_000
steps_end Ice = 16_000
steps_end Ocean = 24_000

closing_rises : (c : Component) (last : Bool) → Rises weight (steps_end c) 24_000 (closing c last)
closing_rises Atmos last = omega arith
closing_rises Land last = (omega arith, (omega arith, omega arith))
closing_rises Ice true = (omega arith, (omega arith, omega arith))
closing_rises Ice false = (omega arith, (omega arith, (omega arith, omega arith)))
closing_rises Ocean true = (omega arith, omega arith)
closing_rises Ocean false = (omega arith, (omega arith, omega arith))

summing_rises : (first : Bool) → Rises weight 0 4_000 (summing first)
summing_rises true = (omega arith, (omega arith, (omega arith, omega arith)))
summing_rises false = (omega arith, omega arith)

-- nothing rises anywhere
nothing_rises : (n a m : ℕ) → Rises time_of_turn a a (flat_map (λ i. turned n i []) (range_with_len 0 m))
nothing_rises n a m = let order : a ≤ a = omega arith in rises_blocks time_of_turn (λ i. turned n i []) (λ i. a) 0 m (λ i low high. order)

ocean_rises : (names : Names) → AreNames names → (c : Component) (n : ℕ)
    → Rises time_of_turn (n * 28_000 + steps_begin c) (n * 28_000 + steps_end c) (flat_map (λ i. turned n i (ocean_moves c)) (range_with_len 0 names.ocean_steps))
ocean_rises names are Atmos n = nothing_rises n (n * 28_000 + 16_000) names.ocean_steps
ocean_rises names are Land n = nothing_rises n (n * 28_000 + 16_000) names.ocean_steps
ocean_rises names are Ice n = nothing_rises n (n * 28_000 + 16_000) names.ocean_steps
ocean_rises names are Ocean n =
    let at : ℕ → ℕ = λ i. n * 28_000 + i * 4 + 20_000 in
    let moves : Rises weight 20_000 20_001 (ocean_moves Ocean) = (omega arith, (omega arith, (omega arith, (omega arith, omega arith)))) in
    let all = rises_blocks time_of_turn (λ i. turned n i (ocean_moves Ocean)) at 0 names.ocean_steps
    (λ i low high. rises_to time_of_turn (at i) (n * 28_000 + i * 4 + 20_001) (at (i + 1)) (turned n i (ocean_moves Ocean)) (omega arith) (moves_rise n i 20_000 20_001 (ocean_moves Ocean) moves)) in
    let few = are.ocean_steps.1 in
    let list = flat_map (λ i. turned n i (ocean_moves Ocean)) (range_with_len 0 names.ocean_steps) in
    rises_to time_of_turn (n * 28_000 + 20_000) (at (0 + names.ocean_steps)) (n * 28_000 + 24_000) list (omega arith)
    (rises_from time_of_turn (at 0) (n * 28_000 + 20_000) (at (0 + names.ocean_steps)) list (omega arith) all)

begins_late : (c : Component) → 16_000 ≤ steps_begin c
begins_late Atmos = omega arith
begins_late Land = omega arith
begins_late Ice = omega arith
begins_late Ocean = omega arith

fasts_rise : (names : Names) → AreNames names → (c : Component) (n : ℕ)
    → Rises time_of_turn (n * 28_000 + 12_000) (n * 28_000 + steps_begin c) (flat_map (λ i. turned n i (fast_moves c)) (range_with_len 0 names.fast))
fasts_rise names are c n =
    let at : ℕ → ℕ = λ i. n * 28_000 + i * 4 + 12_000 in
    let all = rises_blocks time_of_turn (λ i. turned n i (fast_moves c)) at 0 names.fast
    (λ i low high. rises_to time_of_turn (at i) (n * 28_000 + i * 4 + 12_003) (at (i + 1)) (turned n i (fast_moves c)) (omega arith) (moves_rise n i 12_000 12_003 (fast_moves c) (fast_rises c))) in
    let few = are.fast.1 in
    let list = flat_map (λ i. turned n i (fast_moves c)) (range_with_len 0 names.fast) in
    let begin = begins_late c in
    rises_to time_of_turn (n * 28_000 + 12_000) (at (0 + names.fast)) (n * 28_000 + steps_begin c) list (omega arith)
    (rises_from time_of_turn (at 0) (n * 28_000 + 12_000) (at (0 + names.fast)) list (omega arith) all)

step_rises : (names : Names) → AreNames names → (c : Component) (first : Bool) (n : ℕ) → Rises time_of_turn (n * 28_000 + 8_000) ((n + 1) * 28_000 + 8_000) (step_and_sums names c first n)
step_rises names are c first n =
    let opens = turned n 0 (opening c (eqb n 0)) in
    let fasts = flat_map (λ i. turned n i (fast_moves c)) (range_with_len 0 names.fast) in
    let oceans = flat_map (λ i. turned n i (ocean_moves c)) (range_with_len 0 names.ocean_steps) in
    let closes = turned n 0 (closing c (eqb (n + 1) names.steps)) in
    let sums = turned (n + 1) 0 (summing first) in
    let start = n * 28_000 + 8_000 in
    let next = (n + 1) * 28_000 + 8_000 in
    let a : Rises time_of_turn start (n * 28_000 + 12_000) opens =
    rises_from time_of_turn (n * 28_000 + 0 * 4 + 8_000) start (n * 28_000 + 12_000) opens (omega arith)
    (rises_to time_of_turn (n * 28_000 + 0 * 4 + 8_000) (n * 28_000 + 0 * 4 + 8_000) (n * 28_000 + 12_000) opens (omega arith)
    (moves_rise n 0 8_000 8_000 (opening c (eqb n 0)) (opening_rises c (eqb n 0)))) in
    let b = fasts_rise names are c n in
    let d = ocean_rises names are c n in
    let e : Rises time_of_turn (n * 28_000 + steps_end c) ((n + 1) * 28_000) closes =
    rises_from time_of_turn (n * 28_000 + 0 * 4 + steps_end c) (n * 28_000 + steps_end c) ((n + 1) * 28_000) closes (omega arith)
    (rises_to time_of_turn (n * 28_000 + 0 * 4 + steps_end c) (n * 28_000 + 0 * 4 + 24_000) ((n + 1) * 28_000) closes (omega arith)
    (moves_rise n 0 (steps_end c) 24_000 (closing c (eqb (n + 1) names.steps)) (closing_rises c (eqb (n + 1) names.steps)))) in
    let f : Rises time_of_turn ((n + 1) * 28_000) next sums =
    rises_from time_of_turn ((n + 1) * 28_000 + 0 * 4 + 0) ((n + 1) * 28_000) next sums (omega arith)
    (rises_to time_of_turn ((n + 1) * 28_000 + 0 * 4 + 0) ((n + 1) * 28_000 + 0 * 4 + 4_000) next sums (omega arith)
    (moves_rise (n + 1) 0 0 4_000 (summing first) (summing_rises first))) in
    rises_append time_of_turn start ((n + 1) * 28_000) next (step_turns names c n) sums
    (rises_append time_of_turn start (n * 28_000 + steps_end c) ((n + 1) * 28_000) ((opens ++ fasts) ++ oceans) closes
    (rises_append time_of_turn start (n * 28_000 + steps_begin c) (n * 28_000 + steps_end c) (opens ++ fasts) oceans
    (rises_append time_of_turn start (n * 28_000 + 12_000) (n * 28_000 + steps_begin c) opens fasts a b) d) e) f

turns_rise : (names : Names) → AreNames names → (c : Component) (first : Bool) → Rises time_of_turn 0 (names.steps * 28_000 + 8_000) (turns_for names c first)
unfolding turns_for
turns_rise names are c first =
    let at : ℕ → ℕ = λ n. n * 28_000 + 8_000 in
    let sums = turned 0 0 (summing first) in
    let rest = flat_map (step_and_sums names c first) (range_with_len 0 names.steps) in
    let begins : Rises time_of_turn 0 (at 0) sums =
    rises_to time_of_turn 0 (0 * 28_000 + 0 * 4 + 4_000) (at 0) sums (omega arith)
    (rises_from time_of_turn (0 * 28_000 + 0 * 4 + 0) 0 (0 * 28_000 + 0 * 4 + 4_000) sums (omega arith) (moves_rise 0 0 0 4_000 (summing first) (summing_rises first))) in
    let last : 0 + names.steps ≡ names.steps = omega arith in
    rises_append time_of_turn 0 (at 0) (at names.steps) sums rest begins
    (subst (λ (k : ℕ). Rises time_of_turn (at 0) (at k) rest) last
    (rises_blocks time_of_turn (step_and_sums names c first) at 0 names.steps (λ n low high. step_rises names are c first n)))

-- SCRIPTS

rises_map : {S T : Type 0} (time : T → ℕ) (g : S → T) (a : ℕ) (ys : List S) → ((y : S) → time (g y) ≡ a) → Rises time a a (map g ys)
rises_map time g a [] same = omega arith
rises_map time g a (y ∷ ys) same =
    let is = same y in
    let rest = rises_map time g a ys same in
    let first : a ≤ time (g y) = omega arith in
    (first, subst (λ (k : ℕ). Rises time k a (map g ys)) (sym is) rest)

move_rises : (setting : Setting) (piece : ℕ) (turn : Turn) (kind : Move) → Rises time_of (time_of_turn turn) (time_of_turn turn) (stops_by setting piece turn kind)
move_rises setting piece turn (Posts purpose) = rises_map time_of (post_stop setting turn) (time_of_turn turn) (posted_by setting piece purpose) (λ edge. refl)
move_rises setting piece turn (Takes purpose) = rises_map time_of (take_stop setting turn) (time_of_turn turn) (taken_by setting piece purpose) (λ edge. refl)
move_rises setting piece turn (Does job) = (omega arith, omega arith)

script_rises : (setting : Setting) → AreNames setting.names → (piece : ℕ) → Rises time_of 0 (setting.names.steps * 28_000 + 8_000) (stops setting piece)
unfolding stops
script_rises setting are piece =
    rises_lists time_of_turn time_of (stops_of setting piece) 0 (setting.names.steps * 28_000 + 8_000) (turns setting piece)
    (λ turn. move_rises setting piece turn turn.kind) (turns_rise setting.names are (component_of setting piece) (eqb piece 0))

pub rises_by : (setting : Setting) (piece : ℕ) → AreNames setting.names → RisesBy setting piece
rises_by setting piece are m n l h =
    in_order time_of 0 (setting.names.steps * 28_000 + 8_000) (stops setting piece) m n (record { act = Compute; slot = 0; turn = record { kind = Does Gather; step = 0; sub = 0 } })
    (script_rises setting are piece) l h
