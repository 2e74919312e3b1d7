-- When the turns of a script are.
use Rattle.std.proofs.Common.{◌≡◌, refl, ℕ, zero, suc, ◌+◌, ◌<◌, ◌≤◌, arith, Bool, true, false, List, [], ◌∷◌, ◌++◌, eqb, ⊎_elim}
use Rattle.std.specs.Prelude.{All}
use Rattle.std.specs.List.{flat_map, range_with_len}
use Rattle.std.proofs.lemmas.Bool.{cases_eq, eq-eqb}
use Rattle.std.proofs.lemmas.List.Elements.{All-append}
use Rattle.cpl_fixed.specs.declared.words.Component.{Component}
use Rattle.cpl_fixed.specs.declared.words.Component.TheVariants.{Atmos, Land, Ice, Ocean}
use Rattle.cpl_namelist.specs.declared.names.Names.{Names}
use Rattle.cpl_wires.specs.declared.parts.Move.{Move}
use Rattle.cpl_wires.specs.Turns.{fast_moves, ocean_moves, opening, closing, summing, turned, step_turns, step_and_sums, turns_for}
use Rattle.cpl_wires.specs.TimeLaws.{InFastStep, InOceanStep, MoveIsMade, IsTurn}
use Rattle.cpl_wires.proofs.Members.{all_flat}

-- each of these moves may be made there
abbrev pub AreMade : Names → (n i : ℕ) → List Move → Type 0
AreMade names n i [] = Unit {0}
AreMade names n i (move ∷ moves) = MoveIsMade names move n i × AreMade names n i moves

first_and : {T : Type 0} (P : T → Type 0) (x : T) (xs : List T) → P x → All P xs → All P (x ∷ xs)
first_and P x xs own rest zero d h = own
first_and P x xs own rest (suc k) d h = rest k d (omega arith)

made : (names : Names) (n i : ℕ) (moves : List Move) → AreMade names n i moves → All (IsTurn names) (turned n i moves)
made names n i [] are = λ k d h. absurd (omega arith)
made names n i (move ∷ moves) are = first_and (IsTurn names) (record { kind = move; step = n; sub = i }) (turned n i moves) are.0 (made names n i moves are.1)

fast_made : (names : Names) (c : Component) (n i : ℕ) → InFastStep names n i → AreMade names n i (fast_moves c)
fast_made names Atmos n i h = (h, (h, (h, (h, (h, (h, (h, (h, (h, tt)))))))))
fast_made names Land n i h = (h, (h, (h, tt)))
fast_made names Ice n i h = (h, (h, (h, tt)))
fast_made names Ocean n i h = tt

ocean_made : (names : Names) (c : Component) (n i : ℕ) → InOceanStep names n i → AreMade names n i (ocean_moves c)
ocean_made names Atmos n i h = tt
ocean_made names Land n i h = tt
ocean_made names Ice n i h = tt
ocean_made names Ocean n i h = (h, (h, (h, (h, tt))))

-- the flag is set in the first step alone
opening_made : (names : Names) (c : Component) (n : ℕ) (first : Bool) → n < names.steps → (first ≡ false → 1 ≤ n) → AreMade names n 0 (opening c first)
opening_made names Atmos n first l some = tt
opening_made names Land n first l some = tt
opening_made names Ice n true l some = ((l, refl), tt)
opening_made names Ice n false l some = (((some refl), (l, refl)), ((l, refl), tt))
opening_made names Ocean n true l some = ((l, refl), tt)
opening_made names Ocean n false l some = (((some refl), (l, refl)), ((l, refl), tt))

closing_made : (names : Names) (c : Component) (n : ℕ) (last : Bool) → n < names.steps → (last ≡ false → n + 1 < names.steps) → AreMade names n 0 (closing c last)
closing_made names Atmos n last l more = tt
closing_made names Land n last l more = ((l, refl), ((l, refl), tt))
closing_made names Ice n true l more = ((l, refl), ((l, refl), tt))
closing_made names Ice n false l more = ((l, refl), ((l, refl), ((more refl, refl), tt)))
closing_made names Ocean n true l more = ((l, refl), tt)
closing_made names Ocean n false l more = ((l, refl), ((more refl, refl), tt))

summing_made : (names : Names) (n : ℕ) (first : Bool) → n ≤ names.steps → AreMade names n 0 (summing first)
summing_made names n true l = ((l, refl), ((l, refl), ((l, refl), tt)))
summing_made names n false l = ((l, refl), tt)

not_first : (n : ℕ) → eqb n 0 ≡ false → 1 ≤ n
not_first zero e = cc
not_first (suc n) e = omega arith

not_last : (n steps : ℕ) → n < steps → eqb (n + 1) steps ≡ false → n + 1 < steps
not_last n steps l e =
    ⊎_elim (λ same. let yes_it_is = eq-eqb (n + 1) steps same in cc) (λ differ. omega arith) (cases_eq (n + 1) steps)

step_made : (names : Names) (c : Component) (first : Bool) (n : ℕ) → n < names.steps → All (IsTurn names) (step_and_sums names c first n)
step_made names c first n l =
    let P = IsTurn names in
    let opens = turned n 0 (opening c (eqb n 0)) in
    let fasts = flat_map (λ i. turned n i (fast_moves c)) (range_with_len 0 names.fast) in
    let oceans = flat_map (λ i. turned n i (ocean_moves c)) (range_with_len 0 names.ocean_steps) in
    let closes = turned n 0 (closing c (eqb (n + 1) names.steps)) in
    let sums = turned (n + 1) 0 (summing first) in
    let a = made names n 0 (opening c (eqb n 0)) (opening_made names c n (eqb n 0) l (not_first n)) in
    let b = all_flat P (λ i. turned n i (fast_moves c)) 0 names.fast (λ i low high. made names n i (fast_moves c) (fast_made names c n i (l, omega arith))) in
    let d = all_flat P (λ i. turned n i (ocean_moves c)) 0 names.ocean_steps (λ i low high. made names n i (ocean_moves c) (ocean_made names c n i (l, omega arith))) in
    let e = made names n 0 (closing c (eqb (n + 1) names.steps)) (closing_made names c n (eqb (n + 1) names.steps) l (not_last n names.steps l)) in
    let f = made names (n + 1) 0 (summing first) (summing_made names (n + 1) first (omega arith)) in
    All-append P (step_turns names c n) sums
    (All-append P ((opens ++ fasts) ++ oceans) closes (All-append P (opens ++ fasts) oceans (All-append P opens fasts a b) d) e) f

-- each turn of a run is
pub all_turns : (names : Names) (c : Component) (first : Bool) → All (IsTurn names) (turns_for names c first)
unfolding turns_for
all_turns names c first =
    All-append (IsTurn names) (turned 0 0 (summing first)) (flat_map (step_and_sums names c first) (range_with_len 0 names.steps))
    (made names 0 0 (summing first) (summing_made names 0 first (omega arith)))
    (all_flat (IsTurn names) (step_and_sums names c first) 0 names.steps (λ n low high. step_made names c first n (omega arith)))
