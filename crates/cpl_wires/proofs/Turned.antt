-- The moves of a run, counted: those of a purpose are posted, or taken, once for each use, in order.
use Rattle.std.proofs.Common.{◌≡◌, ◌∙◌, refl, sym, ap, subst, ℕ, ◌+◌, ◌-◌, ◌*◌, ◌<◌, ◌≤◌, arith, Bool, true, false, List, ◌++◌, eqb, ⊎_elim}
use Rattle.std.specs.Prelude.{min}
use Rattle.std.specs.List.{flat_map, range_with_len, count_by}
use Rattle.std.proofs.lemmas.Bool.{cases_eq, eq-eqb, ne_eqb}
use Rattle.cpl_fixed.specs.declared.words.Component.{Component}
use Rattle.cpl_namelist.specs.declared.names.Names.{Names}
use Rattle.cpl_wires.specs.declared.parts.Move.{Move}
use Rattle.cpl_wires.specs.declared.parts.Turn.{Turn}
use Rattle.cpl_wires.specs.Turns.{fast_moves, ocean_moves, opening, closing, summing, turned, step_and_sums, step_turns, turns_for}
use Rattle.cpl_wires.proofs.Counted.{Counted, counted_append, counted_blocks, counted_none, counted_once, count_map}

-- turns whose move passes, numbered by coupling step and step there
abbrev pub CountedTurns : (Move → Bool) → (ℕ → ℕ → ℕ) → (from to : ℕ) → List Turn → Type 0
CountedTurns p u from to turns = Counted (λ (turn : Turn). p turn.kind) (λ turn. u turn.step turn.sub) from to turns

-- of these moves none passes
pub moves_none : (p : Move → Bool) (u : ℕ → ℕ → ℕ) (n i from : ℕ) (moves : List Move) → count_by p moves ≡ 0 → CountedTurns p u from from (turned n i moves)
moves_none p u n i from moves none =
    counted_none (λ (turn : Turn). p turn.kind) (λ turn. u turn.step turn.sub) from (turned n i moves)
    (count_map (λ (turn : Turn). p turn.kind) (λ move. record { kind = move; step = n; sub = i }) moves ∙ none)

-- of these moves one passes, and it has the number
pub moves_one : (p : Move → Bool) (u : ℕ → ℕ → ℕ) (n i from : ℕ) (moves : List Move) → count_by p moves ≡ 1 → u n i ≡ from → CountedTurns p u from (from + 1) (turned n i moves)
moves_one p u n i from moves one is =
    let most : count_by p moves ≤ 1 = omega arith in
    let all = counted_once (λ (turn : Turn). p turn.kind) (λ turn. u turn.step turn.sub) (λ move. record { kind = move; step = n; sub = i }) (u n i) from moves (λ move. refl) most (λ e. is) in
    let same : count_by p moves + from ≡ from + 1 = omega arith in
    subst (λ (to : ℕ). CountedTurns p u from to (turned n i moves)) same all

-- in all fast steps, or all ocean steps, of a coupling step none passes
pub steps_none : (p : Move → Bool) (u : ℕ → ℕ → ℕ) (n m from : ℕ) (moves : List Move) → count_by p moves ≡ 0 → CountedTurns p u from from (flat_map (λ i. turned n i moves) (range_with_len 0 m))
steps_none p u n m from moves none =
    counted_blocks (λ (turn : Turn). p turn.kind) (λ turn. u turn.step turn.sub) (λ i. turned n i moves) (λ i. from) 0 m (λ i low high. moves_none p u n i from moves none)

-- in each of them one passes
pub steps_one : (p : Move → Bool) (u : ℕ → ℕ → ℕ) (n m from : ℕ) (moves : List Move) → count_by p moves ≡ 1 → ((i : ℕ) → u n i ≡ from + i)
    → CountedTurns p u from (from + m) (flat_map (λ i. turned n i moves) (range_with_len 0 m))
steps_one p u n m from moves one is =
    let none : from + 0 ≡ from = omega arith in
    let up : (i : ℕ) → from + i + 1 ≡ from + (i + 1) = λ i. omega arith in
    let all = counted_blocks (λ (turn : Turn). p turn.kind) (λ turn. u turn.step turn.sub) (λ i. turned n i moves) (λ i. from + i) 0 m
    (λ i low high. subst (λ (to : ℕ). CountedTurns p u (from + i) to (turned n i moves)) (up i) (moves_one p u n i (from + i) moves one (is i))) in
    let last : from + (0 + m) ≡ from + m = omega arith in
    subst (λ (a : ℕ). CountedTurns p u a (from + m) (flat_map (λ i. turned n i moves) (range_with_len 0 m))) none
    (subst (λ (b : ℕ). CountedTurns p u (from + 0) b (flat_map (λ i. turned n i moves) (range_with_len 0 m))) last all)

-- a coupling step and the sums after it, by parts
pub step_counted : (p : Move → Bool) (u : ℕ → ℕ → ℕ) (names : Names) (c : Component) (first : Bool) (n a b d e f g : ℕ)
    → CountedTurns p u a b (turned n 0 (opening c (eqb n 0)))
    → CountedTurns p u b d (flat_map (λ i. turned n i (fast_moves c)) (range_with_len 0 names.fast))
    → CountedTurns p u d e (flat_map (λ i. turned n i (ocean_moves c)) (range_with_len 0 names.ocean_steps))
    → CountedTurns p u e f (turned n 0 (closing c (eqb (n + 1) names.steps)))
    → CountedTurns p u f g (turned (n + 1) 0 (summing first))
    → CountedTurns p u a g (step_and_sums names c first n)
step_counted p u names c first n a b d e f g opens fasts oceans closes sums =
    let passes = λ (turn : Turn). p turn.kind in
    let number = λ (turn : Turn). u turn.step turn.sub in
    let open_part = turned n 0 (opening c (eqb n 0)) in
    let fast_part = flat_map (λ i. turned n i (fast_moves c)) (range_with_len 0 names.fast) in
    let ocean_part = flat_map (λ i. turned n i (ocean_moves c)) (range_with_len 0 names.ocean_steps) in
    let close_part = turned n 0 (closing c (eqb (n + 1) names.steps)) in
    let two = counted_append passes number a b d open_part fast_part opens fasts in
    let three = counted_append passes number a d e (open_part ++ fast_part) ocean_part two oceans in
    let four = counted_append passes number a e f ((open_part ++ fast_part) ++ ocean_part) close_part three closes in
    counted_append passes number a f g (step_turns names c n) (turned (n + 1) 0 (summing first)) four sums

-- a run, by its coupling steps
pub run_counted : (p : Move → Bool) (u : ℕ → ℕ → ℕ) (names : Names) (c : Component) (first : Bool) (at : ℕ → ℕ)
    → CountedTurns p u 0 (at 0) (turned 0 0 (summing first))
    → ((n : ℕ) → n < names.steps → CountedTurns p u (at n) (at (n + 1)) (step_and_sums names c first n))
    → CountedTurns p u 0 (at names.steps) (turns_for names c first)
unfolding turns_for
run_counted p u names c first at begins each =
    let passes = λ (turn : Turn). p turn.kind in
    let number = λ (turn : Turn). u turn.step turn.sub in
    let steps = counted_blocks passes number (step_and_sums names c first) at 0 names.steps (λ n low high. each n (omega arith)) in
    let last : 0 + names.steps ≡ names.steps = omega arith in
    let rest = flat_map (step_and_sums names c first) (range_with_len 0 names.steps) in
    counted_append passes number 0 (at 0) (at names.steps) (turned 0 0 (summing first)) rest begins
    (subst (λ (b : ℕ). CountedTurns p u (at 0) (at b) rest) last steps)

-- THE FIVE PLACES OF A MOVE

-- in each fast step once
pub in_fast : (p : Move → Bool) (names : Names) (c : Component) (first : Bool) → ((b : Bool) → count_by p (opening c b) ≡ 0) → count_by p (fast_moves c) ≡ 1
    → count_by p (ocean_moves c) ≡ 0 → ((b : Bool) → count_by p (closing c b) ≡ 0) → count_by p (summing first) ≡ 0
    → CountedTurns p (λ n i. n * names.fast + i) 0 (names.steps * names.fast) (turns_for names c first)
in_fast p names c first none one no_ocean no_closing no_sums =
    let u : ℕ → ℕ → ℕ = λ n i. n * names.fast + i in
    let at : ℕ → ℕ = λ n. n * names.fast in
    let start : 0 * names.fast ≡ 0 = omega arith in
    let begins : CountedTurns p u 0 (at 0) (turned 0 0 (summing first)) =
    subst (λ (b : ℕ). CountedTurns p u 0 b (turned 0 0 (summing first))) (sym start) (moves_none p u 0 0 0 (summing first) no_sums) in
    let up : (n : ℕ) → n * names.fast + names.fast ≡ (n + 1) * names.fast = λ n. omega arith in
    run_counted p u names c first at begins
    (λ n l. subst (λ (b : ℕ). CountedTurns p u (n * names.fast) b (step_and_sums names c first n)) (up n)
    (let a = n * names.fast in
    let b = n * names.fast + names.fast in
    step_counted p u names c first n a a b b b b
    (moves_none p u n 0 a (opening c (eqb n 0)) (none (eqb n 0)))
    (steps_one p u n names.fast a (fast_moves c) one (λ i. refl))
    (steps_none p u n names.ocean_steps b (ocean_moves c) no_ocean)
    (moves_none p u n 0 b (closing c (eqb (n + 1) names.steps)) (no_closing (eqb (n + 1) names.steps)))
    (moves_none p u (n + 1) 0 b (summing first) no_sums)))

-- in each ocean step once
pub in_ocean : (p : Move → Bool) (names : Names) (c : Component) (first : Bool) → ((b : Bool) → count_by p (opening c b) ≡ 0) → count_by p (fast_moves c) ≡ 0
    → count_by p (ocean_moves c) ≡ 1 → ((b : Bool) → count_by p (closing c b) ≡ 0) → count_by p (summing first) ≡ 0
    → CountedTurns p (λ n i. n * names.ocean_steps + i) 0 (names.steps * names.ocean_steps) (turns_for names c first)
in_ocean p names c first none no_fast one no_closing no_sums =
    let u : ℕ → ℕ → ℕ = λ n i. n * names.ocean_steps + i in
    let at : ℕ → ℕ = λ n. n * names.ocean_steps in
    let start : 0 * names.ocean_steps ≡ 0 = omega arith in
    let begins : CountedTurns p u 0 (at 0) (turned 0 0 (summing first)) =
    subst (λ (b : ℕ). CountedTurns p u 0 b (turned 0 0 (summing first))) (sym start) (moves_none p u 0 0 0 (summing first) no_sums) in
    let up : (n : ℕ) → n * names.ocean_steps + names.ocean_steps ≡ (n + 1) * names.ocean_steps = λ n. omega arith in
    run_counted p u names c first at begins
    (λ n l. subst (λ (b : ℕ). CountedTurns p u (n * names.ocean_steps) b (step_and_sums names c first n)) (up n)
    (let a = n * names.ocean_steps in
    let b = n * names.ocean_steps + names.ocean_steps in
    step_counted p u names c first n a a a b b b
    (moves_none p u n 0 a (opening c (eqb n 0)) (none (eqb n 0)))
    (steps_none p u n names.fast a (fast_moves c) no_fast)
    (steps_one p u n names.ocean_steps a (ocean_moves c) one (λ i. refl))
    (moves_none p u n 0 b (closing c (eqb (n + 1) names.steps)) (no_closing (eqb (n + 1) names.steps)))
    (moves_none p u (n + 1) 0 b (summing first) no_sums)))

-- as each coupling step ends
pub in_closing : (p : Move → Bool) (names : Names) (c : Component) (first : Bool) → ((b : Bool) → count_by p (opening c b) ≡ 0) → count_by p (fast_moves c) ≡ 0
    → count_by p (ocean_moves c) ≡ 0 → ((b : Bool) → count_by p (closing c b) ≡ 1) → count_by p (summing first) ≡ 0
    → CountedTurns p (λ n i. n) 0 names.steps (turns_for names c first)
in_closing p names c first none no_fast no_ocean one no_sums =
    let u : ℕ → ℕ → ℕ = λ n i. n in
    run_counted p u names c first (λ n. n) (moves_none p u 0 0 0 (summing first) no_sums)
    (λ n l. step_counted p u names c first n n n n n (n + 1) (n + 1)
    (moves_none p u n 0 n (opening c (eqb n 0)) (none (eqb n 0)))
    (steps_none p u n names.fast n (fast_moves c) no_fast)
    (steps_none p u n names.ocean_steps n (ocean_moves c) no_ocean)
    (moves_one p u n 0 n (closing c (eqb (n + 1) names.steps)) (one (eqb (n + 1) names.steps)) refl)
    (moves_none p u (n + 1) 0 (n + 1) (summing first) no_sums))

-- as each coupling step but the last ends
pub in_closing_but_last : (p : Move → Bool) (names : Names) (c : Component) (first : Bool) → ((b : Bool) → count_by p (opening c b) ≡ 0) → count_by p (fast_moves c) ≡ 0
    → count_by p (ocean_moves c) ≡ 0 → count_by p (closing c false) ≡ 1 → count_by p (closing c true) ≡ 0 → count_by p (summing first) ≡ 0
    → CountedTurns p (λ n i. n) 0 (names.steps - 1) (turns_for names c first)
in_closing_but_last p names c first none no_fast no_ocean one no_last no_sums =
    let u : ℕ → ℕ → ℕ = λ n i. n in
    let at : ℕ → ℕ = λ n. min n (names.steps - 1) in
    let begins : CountedTurns p u 0 (at 0) (turned 0 0 (summing first)) =
    let start : 0 ≡ min 0 (names.steps - 1) = omega arith in
    subst (λ (b : ℕ). CountedTurns p u 0 b (turned 0 0 (summing first))) start (moves_none p u 0 0 0 (summing first) no_sums) in
    let closes : (n : ℕ) → n < names.steps → CountedTurns p u (at n) (at (n + 1)) (turned n 0 (closing c (eqb (n + 1) names.steps))) =
    λ n l. ⊎_elim
    (λ same.
    let stays : min n (names.steps - 1) ≡ min (n + 1) (names.steps - 1) = omega arith in
    subst (λ (b : ℕ). CountedTurns p u (at n) b (turned n 0 (closing c (eqb (n + 1) names.steps)))) stays
    (moves_none p u n 0 (at n) (closing c (eqb (n + 1) names.steps))
    (ap (λ (b : Bool). count_by p (closing c b)) (eq-eqb (n + 1) names.steps same) ∙ no_last)))
    (λ differ.
    let is : n ≡ min n (names.steps - 1) = omega arith in
    let up : min n (names.steps - 1) + 1 ≡ min (n + 1) (names.steps - 1) = omega arith in
    subst (λ (b : ℕ). CountedTurns p u (at n) b (turned n 0 (closing c (eqb (n + 1) names.steps)))) up
    (moves_one p u n 0 (at n) (closing c (eqb (n + 1) names.steps))
    (ap (λ (b : Bool). count_by p (closing c b)) (ne_eqb (n + 1) names.steps differ) ∙ one) is))
    (cases_eq (n + 1) names.steps) in
    let last : min names.steps (names.steps - 1) ≡ names.steps - 1 = omega arith in
    subst (λ (b : ℕ). CountedTurns p u 0 b (turns_for names c first)) last
    (run_counted p u names c first at begins
    (λ n l. step_counted p u names c first n (at n) (at n) (at n) (at n) (at (n + 1)) (at (n + 1))
    (moves_none p u n 0 (at n) (opening c (eqb n 0)) (none (eqb n 0)))
    (steps_none p u n names.fast (at n) (fast_moves c) no_fast)
    (steps_none p u n names.ocean_steps (at n) (ocean_moves c) no_ocean)
    (closes n l)
    (moves_none p u (n + 1) 0 (at (n + 1)) (summing first) no_sums)))

-- as each coupling step but the first begins
pub in_opening_but_first : (p : Move → Bool) (names : Names) (c : Component) (first : Bool) → count_by p (opening c false) ≡ 1 → count_by p (opening c true) ≡ 0
    → count_by p (fast_moves c) ≡ 0 → count_by p (ocean_moves c) ≡ 0 → ((b : Bool) → count_by p (closing c b) ≡ 0) → count_by p (summing first) ≡ 0
    → CountedTurns p (λ n i. n - 1) 0 (names.steps - 1) (turns_for names c first)
in_opening_but_first p names c first one no_first no_fast no_ocean no_closing no_sums =
    let u : ℕ → ℕ → ℕ = λ n i. n - 1 in
    let at : ℕ → ℕ = λ n. n - 1 in
    let opens : (n : ℕ) → CountedTurns p u (at n) (at (n + 1)) (turned n 0 (opening c (eqb n 0))) =
    λ n. ⊎_elim
    (λ same.
    let stays : n - 1 ≡ n + 1 - 1 = omega arith in
    subst (λ (b : ℕ). CountedTurns p u (at n) b (turned n 0 (opening c (eqb n 0)))) stays
    (moves_none p u n 0 (at n) (opening c (eqb n 0)) (ap (λ (b : Bool). count_by p (opening c b)) (eq-eqb n 0 same) ∙ no_first)))
    (λ differ.
    let up : n - 1 + 1 ≡ n + 1 - 1 = omega arith in
    subst (λ (b : ℕ). CountedTurns p u (at n) b (turned n 0 (opening c (eqb n 0)))) up
    (moves_one p u n 0 (at n) (opening c (eqb n 0)) (ap (λ (b : Bool). count_by p (opening c b)) (ne_eqb n 0 differ) ∙ one) refl))
    (cases_eq n 0) in
    run_counted p u names c first at (moves_none p u 0 0 0 (summing first) no_sums)
    (λ n l. let b = at (n + 1) in
    step_counted p u names c first n (at n) b b b b b (opens n)
    (steps_none p u n names.fast b (fast_moves c) no_fast)
    (steps_none p u n names.ocean_steps b (ocean_moves c) no_ocean)
    (moves_none p u n 0 b (closing c (eqb (n + 1) names.steps)) (no_closing (eqb (n + 1) names.steps)))
    (moves_none p u (n + 1) 0 b (summing first) no_sums))

-- before the first coupling step, and after each
pub in_summing : (p : Move → Bool) (names : Names) (c : Component) (first : Bool) → ((b : Bool) → count_by p (opening c b) ≡ 0) → count_by p (fast_moves c) ≡ 0
    → count_by p (ocean_moves c) ≡ 0 → ((b : Bool) → count_by p (closing c b) ≡ 0) → count_by p (summing first) ≡ 1
    → CountedTurns p (λ n i. n) 0 (names.steps + 1) (turns_for names c first)
in_summing p names c first none no_fast no_ocean no_closing one =
    let u : ℕ → ℕ → ℕ = λ n i. n in
    run_counted p u names c first (λ n. n + 1) (moves_one p u 0 0 0 (summing first) one refl)
    (λ n l. let a = n + 1 in
    step_counted p u names c first n a a a a a (a + 1)
    (moves_none p u n 0 a (opening c (eqb n 0)) (none (eqb n 0)))
    (steps_none p u n names.fast a (fast_moves c) no_fast)
    (steps_none p u n names.ocean_steps a (ocean_moves c) no_ocean)
    (moves_none p u n 0 a (closing c (eqb (n + 1) names.steps)) (no_closing (eqb (n + 1) names.steps)))
    (moves_one p u (n + 1) 0 a (summing first) one refl))
