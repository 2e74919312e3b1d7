-- Each piece goes by the schedule.
use Rattle.std.proofs.Common.{◌≡◌, ◌∙◌, refl, sym, ap, subst, ℕ, zero, suc, ◌+◌, ◌*◌, ◌<◌, ◌≤◌, arith, Bool, true, false, List, [], ◌∷◌, ◌++◌, length, eqb, get_or}
use Rattle.std.specs.Prelude.{All}
use Rattle.std.specs.List.{flat_map, range_with_len}
use Rattle.std.proofs.lemmas.List.{append-nil}
use Rattle.std.proofs.lemmas.List.Concat.{flat_map-append}
use Rattle.cpl_fixed.specs.declared.words.Component.{Component}
use Rattle.cpl_fixed.specs.declared.words.Component.TheVariants.{Atmos, Land, Ice, Ocean}
use Rattle.cpl_namelist.specs.declared.names.Names.{Names}
use Rattle.cpl_namelist.specs.Ranges.{AreNames}
use Rattle.cpl_wires.specs.declared.parts.Move.{Move}
use Rattle.cpl_wires.specs.declared.parts.Turn.{Turn}
use Rattle.cpl_wires.specs.Turns.{fast_moves, ocean_moves, opening, closing, summing, turned, step_turns, step_and_sums, turns_for}
use Rattle.cpl_wires.specs.Times.{phase_of, time_at, time_of_turn}
use Rattle.cpl_wires.specs.Schedule.{Phase, Moment, SumsPosted, SumsGathered, FlightsTaken, SurfacePosted, AirComputed, AirRimComputed, SurfaceComputed, RunoffPosted, IceSlowed, OceanPosted, OceanRimComputed, OceanWasCut, moments, sums_moments, fast_moments, ocean_moments, step_moments, schedule, moves_in, moves_at, place_of, time_of_moment, GoesBySchedule}

-- LISTS OF LISTS

flat_twice : {X Y Z : Type 0} (f : Y → List Z) (g : X → List Y) (xs : List X) → flat_map f (flat_map g xs) ≡ flat_map (λ x. flat_map f (g x)) xs
flat_twice f g [] = refl
flat_twice f g (x ∷ xs) = flat_map-append f (g x) (flat_map g xs) ∙ ap (λ (l : List _). flat_map f (g x) ++ l) (flat_twice f g xs)

flat_same : {X Y : Type 0} (f g : X → List Y) (xs : List X) → ((x : X) → f x ≡ g x) → flat_map f xs ≡ flat_map g xs
flat_same f g [] same = refl
flat_same f g (x ∷ xs) same = λ i. same x i ++ flat_same f g xs same i

flat_nothing : {X Y : Type 0} (f : X → List Y) (xs : List X) → ((x : X) → f x ≡ []) → flat_map f xs ≡ []
flat_nothing f [] none = refl
flat_nothing f (x ∷ xs) none = ap (λ (l : List _). l ++ flat_map f xs) (none x) ∙ flat_nothing f xs none

-- MOMENT BY MOMENT

-- what a piece does in a moment
abbrev pub done_in : Names → Component → Bool → Moment → List Turn
done_in names c piece moment = turned moment.step moment.sub (moves_at names c piece moment)

sums_done : (names : Names) (c : Component) (piece : Bool) (n : ℕ) → flat_map (done_in names c piece) (sums_moments n) ≡ turned n 0 (summing piece)
sums_done names c true n = refl
sums_done names c false n = refl

fast_done : (names : Names) (c : Component) (piece : Bool) (n i : ℕ) → flat_map (done_in names c piece) (fast_moments n i) ≡ turned n i (fast_moves c)
fast_done names Atmos piece n i = refl
fast_done names Land piece n i = refl
fast_done names Ice piece n i = refl
fast_done names Ocean piece n i = refl

ocean_done : (names : Names) (c : Component) (piece : Bool) (n i : ℕ) → flat_map (done_in names c piece) (ocean_moments n i) ≡ turned n i (ocean_moves c)
ocean_done names Atmos piece n i = refl
ocean_done names Land piece n i = refl
ocean_done names Ice piece n i = refl
ocean_done names Ocean piece n i = refl

opening_done : (names : Names) (c : Component) (piece : Bool) (n : ℕ) → flat_map (done_in names c piece) (moments n 0 (FlightsTaken ∷ [])) ≡ turned n 0 (opening c (eqb n 0))
opening_done names Atmos piece n = refl
opening_done names Land piece n = refl
opening_done names Ice piece n = append-nil _
opening_done names Ocean piece n = append-nil _

step_by : (names : Names) (c : Component) (piece : Bool) (n : ℕ)
    → flat_map (done_in names c piece) (step_moments names n)
    ≡ (((turned n 0 (opening c (eqb n 0)) ++ flat_map (λ i. turned n i (fast_moves c)) (range_with_len 0 names.fast))
    ++ flat_map (done_in names c piece) (moments n 0 (RunoffPosted ∷ IceSlowed ∷ [])))
    ++ flat_map (λ i. turned n i (ocean_moves c)) (range_with_len 0 names.ocean_steps))
    ++ flat_map (done_in names c piece) (moments n 0 (OceanWasCut ∷ []))
step_by names c piece n =
    let g = done_in names c piece in
    let a = moments n 0 (FlightsTaken ∷ []) in
    let b = flat_map (fast_moments n) (range_with_len 0 names.fast) in
    let d = moments n 0 (RunoffPosted ∷ IceSlowed ∷ []) in
    let e = flat_map (ocean_moments n) (range_with_len 0 names.ocean_steps) in
    let f = moments n 0 (OceanWasCut ∷ []) in
    let fasts : flat_map g b ≡ flat_map (λ i. turned n i (fast_moves c)) (range_with_len 0 names.fast) =
    flat_twice g (fast_moments n) (range_with_len 0 names.fast) ∙ flat_same (λ i. flat_map g (fast_moments n i)) (λ i. turned n i (fast_moves c)) (range_with_len 0 names.fast) (fast_done names c piece n) in
    let oceans : flat_map g e ≡ flat_map (λ i. turned n i (ocean_moves c)) (range_with_len 0 names.ocean_steps) =
    flat_twice g (ocean_moments n) (range_with_len 0 names.ocean_steps) ∙ flat_same (λ i. flat_map g (ocean_moments n i)) (λ i. turned n i (ocean_moves c)) (range_with_len 0 names.ocean_steps) (ocean_done names c piece n) in
    let opens = opening_done names c piece n in
    flat_map-append g (((a ++ b) ++ d) ++ e) f
    ∙ ap (λ (l : List Turn). l ++ flat_map g f) (flat_map-append g ((a ++ b) ++ d) e)
    ∙ ap (λ (l : List Turn). (l ++ flat_map g e) ++ flat_map g f) (flat_map-append g (a ++ b) d)
    ∙ ap (λ (l : List Turn). ((l ++ flat_map g d) ++ flat_map g e) ++ flat_map g f) (flat_map-append g a b)
    ∙ (λ i. (((opens i ++ fasts i) ++ flat_map g d) ++ oceans i) ++ flat_map g f)

-- a component without ocean steps does all that it does once before them, and the ocean does nothing then
no_oceans : (n m : ℕ) → flat_map (λ i. turned n i []) (range_with_len 0 m) ≡ []
no_oceans n m = flat_nothing (λ i. turned n i []) (range_with_len 0 m) (λ i. refl)

land_row : {T : Type 0} (a d e : List T) → e ≡ [] → ((a ++ d) ++ e) ++ [] ≡ (a ++ e) ++ d
land_row a d e none =
    append-nil ((a ++ d) ++ e) ∙ ap (λ (l : List _). (a ++ d) ++ l) none ∙ append-nil (a ++ d) ∙ sym (ap (λ (l : List _). (a ++ l) ++ d) none ∙ ap (λ (l : List _). l ++ d) (append-nil a))

once_ice : (names : Names) (piece : Bool) (n : ℕ) → flat_map (done_in names Ice piece) (moments n 0 (RunoffPosted ∷ IceSlowed ∷ [])) ≡ turned n 0 (closing Ice (eqb (n + 1) names.steps))
once_ice names piece n = append-nil _

once_ocean : (names : Names) (piece : Bool) (n : ℕ) → flat_map (done_in names Ocean piece) (moments n 0 (OceanWasCut ∷ [])) ≡ turned n 0 (closing Ocean (eqb (n + 1) names.steps))
once_ocean names piece n = append-nil _

step_done : (names : Names) (c : Component) (piece : Bool) (n : ℕ) → flat_map (done_in names c piece) (step_moments names n) ≡ step_turns names c n
step_done names Atmos piece n =
    let front = turned n 0 (opening Atmos (eqb n 0)) ++ flat_map (λ i. turned n i (fast_moves Atmos)) (range_with_len 0 names.fast) in
    step_by names Atmos piece n ∙ land_row front [] (flat_map (λ i. turned n i []) (range_with_len 0 names.ocean_steps)) (no_oceans n names.ocean_steps)
step_done names Land piece n =
    let front = turned n 0 (opening Land (eqb n 0)) ++ flat_map (λ i. turned n i (fast_moves Land)) (range_with_len 0 names.fast) in
    step_by names Land piece n
    ∙ land_row front (turned n 0 (closing Land (eqb (n + 1) names.steps))) (flat_map (λ i. turned n i []) (range_with_len 0 names.ocean_steps)) (no_oceans n names.ocean_steps)
step_done names Ice piece n =
    let front = turned n 0 (opening Ice (eqb n 0)) ++ flat_map (λ i. turned n i (fast_moves Ice)) (range_with_len 0 names.fast) in
    let oceans = flat_map (λ i. turned n i []) (range_with_len 0 names.ocean_steps) in
    step_by names Ice piece n
    ∙ ap (λ (l : List Turn). ((front ++ l) ++ oceans) ++ []) (once_ice names piece n)
    ∙ land_row front (turned n 0 (closing Ice (eqb (n + 1) names.steps))) oceans (no_oceans n names.ocean_steps)
step_done names Ocean piece n =
    let front = turned n 0 (opening Ocean (eqb n 0)) ++ flat_map (λ i. turned n i (fast_moves Ocean)) (range_with_len 0 names.fast) in
    let oceans = flat_map (λ i. turned n i (ocean_moves Ocean)) (range_with_len 0 names.ocean_steps) in
    step_by names Ocean piece n
    ∙ ap (λ (l : List Turn). (l ++ oceans) ++ flat_map (done_in names Ocean piece) (moments n 0 (OceanWasCut ∷ []))) (append-nil front)
    ∙ ap (λ (l : List Turn). (front ++ oceans) ++ l) (once_ocean names piece n)

pub turns_by_schedule : (names : Names) (c : Component) (piece : Bool) → turns_for names c piece ≡ flat_map (done_in names c piece) (schedule names)
unfolding turns_for schedule
turns_by_schedule names c piece =
    let g = done_in names c piece in
    let step : ℕ → List Moment = λ n. step_moments names n ++ sums_moments (n + 1) in
    let each : (n : ℕ) → flat_map g (step n) ≡ step_and_sums names c piece n =
    λ n. flat_map-append g (step_moments names n) (sums_moments (n + 1)) ∙ (λ i. step_done names c piece n i ++ sums_done names c piece (n + 1) i) in
    sym (flat_map-append g (sums_moments 0) (flat_map step (range_with_len 0 names.steps))
    ∙ (λ i. sums_done names c piece 0 i
    ++ (flat_twice g step (range_with_len 0 names.steps) ∙ flat_same (λ n. flat_map g (step n)) (step_and_sums names c piece) (range_with_len 0 names.steps) each) i))

-- TIMES

-- moves of a phase
abbrev pub AreOf : Phase → List Move → Type 0
AreOf phase [] = Unit {0}
AreOf phase (move ∷ moves) = (phase_of move ≡ place_of phase) × AreOf phase moves

of_phase : (phase : Phase) (c : Component) (piece first last : Bool) → AreOf phase (moves_in phase c piece first last)
of_phase SumsPosted c piece first last = (refl, tt)
of_phase SumsGathered c true first last = (refl, (refl, tt))
of_phase SumsGathered c false first last = tt
of_phase FlightsTaken Ice piece true last = (refl, tt)
of_phase FlightsTaken Ice piece false last = (refl, (refl, tt))
of_phase FlightsTaken Ocean piece true last = (refl, tt)
of_phase FlightsTaken Ocean piece false last = (refl, (refl, tt))
of_phase SurfacePosted Land piece first last = (refl, tt)
of_phase SurfacePosted Ice piece first last = (refl, tt)
of_phase AirComputed Atmos piece first last = (refl, (refl, (refl, (refl, (refl, (refl, (refl, tt)))))))
of_phase AirRimComputed Atmos piece first last = (refl, (refl, tt))
of_phase SurfaceComputed Land piece first last = (refl, (refl, tt))
of_phase SurfaceComputed Ice piece first last = (refl, (refl, tt))
of_phase RunoffPosted Land piece first last = (refl, (refl, tt))
of_phase IceSlowed Ice piece first true = (refl, (refl, tt))
of_phase IceSlowed Ice piece first false = (refl, (refl, (refl, tt)))
of_phase OceanPosted Ocean piece first last = (refl, (refl, tt))
of_phase OceanRimComputed Ocean piece first last = (refl, (refl, tt))
of_phase OceanWasCut Ocean piece first true = (refl, tt)
of_phase OceanWasCut Ocean piece first false = (refl, (refl, tt))
of_phase _ _ piece first last = tt

abbrev pub AtMoment : Moment → Turn → Type 0
AtMoment moment turn = time_of_turn turn ≡ time_of_moment moment

first_too : (moment : Moment) (turn : Turn) (others : List Turn) → AtMoment moment turn → All (AtMoment moment) others → All (AtMoment moment) (turn ∷ others)
first_too moment turn others own rest zero d h = own
first_too moment turn others own rest (suc k) d h = rest k d (omega arith)

at_moment : (moment : Moment) (moves : List Move) → AreOf moment.phase moves → All (AtMoment moment) (turned moment.step moment.sub moves)
unfolding time_of_turn
at_moment moment [] are = λ k d h. absurd (omega arith)
at_moment moment (move ∷ moves) are =
    first_too moment (record { kind = move; step = moment.step; sub = moment.sub }) (turned moment.step moment.sub moves)
    (ap (λ (place : ℕ × ℕ). time_at moment.step place.0 moment.sub place.1) are.0) (at_moment moment moves are.1)

-- ORDER

-- times rise strictly from `low` on, and end before `high`
abbrev pub Climbs : (low high : ℕ) → List Moment → Type 0
Climbs low high [] = low ≤ high
Climbs low high (moment ∷ others) = (low ≤ time_of_moment moment) × Climbs (time_of_moment moment + 1) high others

climbs_from : (low less high : ℕ) (xs : List Moment) → less ≤ low → Climbs low high xs → Climbs less high xs
climbs_from low less high [] l climbs = omega arith
climbs_from low less high (x ∷ xs) l climbs = let first = climbs.0 in (omega arith, climbs.1)

climbs_to : (low high more : ℕ) (xs : List Moment) → high ≤ more → Climbs low high xs → Climbs low more xs
climbs_to low high more [] l climbs = omega arith
climbs_to low high more (x ∷ xs) l climbs = (climbs.0, climbs_to (time_of_moment x + 1) high more xs l climbs.1)

climbs_append : (low middle high : ℕ) (xs ys : List Moment) → Climbs low middle xs → Climbs middle high ys → Climbs low high (xs ++ ys)
climbs_append low middle high [] ys climbs more = climbs_from middle low high ys climbs more
climbs_append low middle high (x ∷ xs) ys climbs more = (climbs.0, climbs_append (time_of_moment x + 1) middle high xs ys climbs.1 more)

climbs_blocks : (f : ℕ → List Moment) (at : ℕ → ℕ) (start n : ℕ) → ((k : ℕ) → Climbs (at k) (at (k + 1)) (f k)) → Climbs (at start) (at (start + n)) (flat_map f (range_with_len start n))
climbs_blocks f at start zero each =
    let same : start + 0 ≡ start = omega arith in
    let order : at start ≤ at start = omega arith in
    subst (λ (k : ℕ). at start ≤ at k) (sym same) order
climbs_blocks f at start (suc n) each =
    let same : start + 1 + n ≡ start + suc n = omega arith in
    climbs_append (at start) (at (start + 1)) (at (start + suc n)) (f start) (flat_map f (range_with_len (start + 1) n)) (each start)
    (subst (λ (k : ℕ). Climbs (at (start + 1)) (at k) (flat_map f (range_with_len (start + 1) n))) same (climbs_blocks f at (start + 1) n each))

later_by : (low high : ℕ) (xs : List Moment) (m : ℕ) (d : Moment) → Climbs low high xs → m < length xs → low ≤ time_of_moment (get_or xs m d)
later_by low high [] m d climbs l = absurd (omega arith)
later_by low high (x ∷ xs) zero d climbs l = climbs.0
later_by low high (x ∷ xs) (suc m) d climbs l =
    let first = climbs.0 in
    let rest = later_by (time_of_moment x + 1) high xs m d climbs.1 (omega arith) in omega arith

climbing : (low high : ℕ) (xs : List Moment) (j k : ℕ) (d : Moment) → Climbs low high xs → j < k → k < length xs → time_of_moment (get_or xs j d) < time_of_moment (get_or xs k d)
climbing low high [] j k d climbs l h = absurd (omega arith)
climbing low high (x ∷ xs) j zero d climbs l h = absurd (omega arith)
climbing low high (x ∷ xs) zero (suc k) d climbs l h = let rest = later_by (time_of_moment x + 1) high xs k d climbs.1 (omega arith) in omega arith
climbing low high (x ∷ xs) (suc j) (suc k) d climbs l h = climbing (time_of_moment x + 1) high xs j k d climbs.1 (omega arith) (omega arith)

sums_climb : (n : ℕ) → Climbs (n * 28_000) (n * 28_000 + 8_000) (sums_moments n)
sums_climb n = (omega arith, (omega arith, omega arith))

fast_climb : (n i : ℕ) → Climbs (n * 28_000 + i * 4 + 12_000) (n * 28_000 + (i + 1) * 4 + 12_000) (fast_moments n i)
fast_climb n i = (omega arith, (omega arith, (omega arith, (omega arith, omega arith))))

ocean_climb : (n i : ℕ) → Climbs (n * 28_000 + i * 4 + 20_000) (n * 28_000 + (i + 1) * 4 + 20_000) (ocean_moments n i)
ocean_climb n i = (omega arith, (omega arith, omega arith))

step_climbs : (names : Names) → AreNames names → (n : ℕ) → Climbs (n * 28_000 + 8_000) ((n + 1) * 28_000) (step_moments names n)
step_climbs names are n =
    let flights = moments n 0 (FlightsTaken ∷ []) in
    let fasts = flat_map (fast_moments n) (range_with_len 0 names.fast) in
    let onces = moments n 0 (RunoffPosted ∷ IceSlowed ∷ []) in
    let oceans = flat_map (ocean_moments n) (range_with_len 0 names.ocean_steps) in
    let cuts = moments n 0 (OceanWasCut ∷ []) in
    let at : ℕ → ℕ = λ i. n * 28_000 + i * 4 + 12_000 in
    let ocean_at : ℕ → ℕ = λ i. n * 28_000 + i * 4 + 20_000 in
    let few = are.fast.1 in
    let few_oceans = are.ocean_steps.1 in
    let a : Climbs (n * 28_000 + 8_000) (at 0) flights = (omega arith, omega arith) in
    let b = climbs_to (at 0) (at (0 + names.fast)) (n * 28_000 + 16_000) fasts (omega arith) (climbs_blocks (fast_moments n) at 0 names.fast (fast_climb n)) in
    let d : Climbs (n * 28_000 + 16_000) (ocean_at 0) onces = (omega arith, (omega arith, omega arith)) in
    let e = climbs_to (ocean_at 0) (ocean_at (0 + names.ocean_steps)) (n * 28_000 + 24_000) oceans (omega arith) (climbs_blocks (ocean_moments n) ocean_at 0 names.ocean_steps (ocean_climb n)) in
    let f : Climbs (n * 28_000 + 24_000) ((n + 1) * 28_000) cuts = (omega arith, omega arith) in
    climbs_append (n * 28_000 + 8_000) (n * 28_000 + 24_000) ((n + 1) * 28_000) (((flights ++ fasts) ++ onces) ++ oceans) cuts
    (climbs_append (n * 28_000 + 8_000) (ocean_at 0) (n * 28_000 + 24_000) ((flights ++ fasts) ++ onces) oceans
    (climbs_append (n * 28_000 + 8_000) (n * 28_000 + 16_000) (ocean_at 0) (flights ++ fasts) onces
    (climbs_append (n * 28_000 + 8_000) (at 0) (n * 28_000 + 16_000) flights fasts a b) d) e) f

schedule_climbs : (names : Names) → AreNames names → Climbs 0 ((0 + names.steps) * 28_000 + 8_000) (schedule names)
unfolding schedule
schedule_climbs names are =
    let at : ℕ → ℕ = λ n. n * 28_000 + 8_000 in
    let step : ℕ → List Moment = λ n. step_moments names n ++ sums_moments (n + 1) in
    let rest = flat_map step (range_with_len 0 names.steps) in
    let begins = climbs_from (0 * 28_000) 0 (at 0) (sums_moments 0) (omega arith) (sums_climb 0) in
    climbs_append 0 (at 0) (at (0 + names.steps)) (sums_moments 0) rest begins
    (climbs_blocks step at 0 names.steps
    (λ n. climbs_append (at n) ((n + 1) * 28_000) (at (n + 1)) (step_moments names n) (sums_moments (n + 1)) (step_climbs names are n) (sums_climb (n + 1))))

pub goes_by_schedule : (names : Names) → GoesBySchedule names
goes_by_schedule names = record {
  turns = turns_by_schedule names;
  times = λ c piece moment. at_moment moment (moves_at names c piece moment) (of_phase moment.phase c piece (eqb moment.step 0) (eqb (moment.step + 1) names.steps));
  rising = λ are j k l h. climbing 0 ((0 + names.steps) * 28_000 + 8_000) (schedule names) j k (record { phase = SumsPosted; step = 0; sub = 0 }) (schedule_climbs names are) l h;
}
