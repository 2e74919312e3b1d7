-- How many pieces, edges, uses and actions there are at most.
use Rattle.std.proofs.Common.{◌≡◌, ◌∙◌, ap, ℕ, zero, suc, ◌+◌, ◌*◌, ◌^◌, ◌<◌, ◌≤◌, arith, Bool, true, false, List, [], ◌∷◌, ◌++◌, length, eqb}
use Rattle.std.specs.Prelude.{filter}
use Rattle.std.specs.List.{flat_map, range_with_len}
use Rattle.std.proofs.Math.Nat.{mul-le-mul_left}
use Rattle.std.proofs.lemmas.List.{length-append, length-map}
use Rattle.std.proofs.lemmas.List.Concat.{length-flat_map}
use Rattle.std.proofs.lemmas.List.Sums.{length-filter, count_by-le-length}
use Rattle.std.proofs.lemmas.List.FromFn.{length-range_with_len}
use Rattle.cpl_fixed.specs.declared.words.Component.{Component}
use Rattle.cpl_fixed.specs.declared.words.Component.TheVariants.{Atmos, Land, Ice, Ocean}
use Rattle.cpl_namelist.specs.declared.names.Names.{Names}
use Rattle.cpl_namelist.specs.Ranges.{AreNames}
use Rattle.cpl_wires.specs.declared.parts.Purpose.{Purpose}
use Rattle.cpl_wires.specs.declared.parts.Purpose.TheVariants.{AirHalo, LandToAir, IceToAir, AirToLand, AirToIce, LandToIce, IceToOcean, OceanToIce, OceanHalo, Sums}
use Rattle.cpl_wires.specs.declared.parts.Move.{Move}
use Rattle.cpl_wires.specs.declared.parts.Move.TheVariants.{Posts, Takes, Does}
use Rattle.cpl_wires.specs.declared.parts.Turn.{Turn}
use Rattle.cpl_wires.specs.Settings.{Setting, IsSetting, pieces_in, piece_count, layout_of}
use Rattle.cpl_wires.specs.Purposes.{purposes, giver, receiver, uses_for, takers}
use Rattle.cpl_wires.specs.Pairs.{has_edge}
use Rattle.cpl_wires.specs.Edges.{edges_of, edges_for, edges_from, posted_by, taken_by}
use Rattle.cpl_wires.specs.Turns.{fast_moves, ocean_moves, opening, closing, summing, turned, step_turns, step_and_sums, turns_for, turns}
use Rattle.cpl_wires.specs.Stops.{post_stop, take_stop, stops_by, stops_of, stops}
use Rattle.cpl_wires.proofs.Members.{first_of_them, count_of_them, ranged}
use Rattle.cpl_wires.proofs.Numbers.{numbers_few}

-- PRODUCTS AND BLOCKS

pub mul_most : (n a w b : ℕ) → n ≤ a → w ≤ b → n * w ≤ a * b
mul_most n a w b h k =
    let first : n * w ≤ n * b = mul-le-mul_left n k in
    let second : b * n ≤ b * a = mul-le-mul_left b h in omega arith

one_mul : (a b : ℕ) → 1 ≤ a → 1 ≤ b → 1 ≤ a * b
one_mul a b h k = let all : 1 * 1 ≤ a * b = mul_most 1 a 1 b h k in omega arith

blocks_most : {X : Type 0} (f : ℕ → List X) (a n w : ℕ) → ((k : ℕ) → a ≤ k → k < a + n → length (f k) ≤ w) → length (flat_map f (range_with_len a n)) ≤ n * w
blocks_most f a zero w most = omega arith
blocks_most f a (suc n) w most =
    let first = most a (omega arith) (omega arith) in
    let rest = blocks_most f (a + 1) n w (λ k l h. most k (omega arith) (omega arith)) in
    let both = length-append (f a) (flat_map f (range_with_len (a + 1) n)) in
    let more : suc n * w ≡ w + n * w = omega arith in omega arith

lists_most : {S T : Type 0} (f : S → List T) (xs : List S) (w : ℕ) → ((x : S) → length (f x) ≤ w) → length (flat_map f xs) ≤ length xs * w
lists_most f [] w most = omega arith
lists_most f (x ∷ xs) w most =
    let first = most x in
    let rest = lists_most f xs w most in
    let both = length-append (f x) (flat_map f xs) in
    let more : suc (length xs) * w ≡ w + length xs * w = omega arith in omega arith

-- PIECES

-- a component has 1 to 64 pieces
pub pieces_some : (setting : Setting) → IsSetting setting → (component : Component) → (1 ≤ pieces_in setting component) × (pieces_in setting component ≤ 64)
unfolding pieces_in
pieces_some setting is component =
    let layout = layout_of setting component in
    let fits = is.layouts component in
    let wide = one_mul (length layout.tiles) layout.px fits.sizes.least fits.columns in
    (one_mul (length layout.tiles * layout.px) layout.py wide fits.rows, fits.few)

pub pieces_few : (setting : Setting) → IsSetting setting → (4 ≤ piece_count setting) × (piece_count setting ≤ 256)
pieces_few setting is =
    let air = pieces_some setting is Atmos in
    let land = pieces_some setting is Land in
    let ice = pieces_some setting is Ice in
    let ocean = pieces_some setting is Ocean in (omega arith, omega arith)

-- EDGES

from_few : (setting : Setting) (purpose : Purpose) (from : ℕ) → length (edges_from setting purpose from) ≤ count_of_them setting 1 (receiver purpose)
from_few setting purpose from =
    let them = takers setting purpose in
    let test = has_edge setting purpose from in
    let all : length (edges_from setting purpose from) ≡ length (filter test them) = length-map (filter test them) (λ to. record { purpose = purpose; from = from; to = to }) in
    let filtered = length-filter test them in
    let fewer = count_by-le-length test them in
    let range : length them ≡ count_of_them setting 1 (receiver purpose) =
    ap length (ranged setting 1 (receiver purpose)) ∙ length-range_with_len (first_of_them setting (receiver purpose)) (count_of_them setting 1 (receiver purpose)) in
    omega arith

for_few : (setting : Setting) (purpose : Purpose) (a b : ℕ) → count_of_them setting (piece_count setting) (giver purpose) ≤ a → count_of_them setting 1 (receiver purpose) ≤ b
    → length (edges_for setting purpose) ≤ a * b
for_few setting purpose a b givers receivers =
    let first = first_of_them setting (giver purpose) in
    let count = count_of_them setting (piece_count setting) (giver purpose) in
    let all : length (edges_for setting purpose) ≡ length (flat_map (edges_from setting purpose) (range_with_len first count)) =
    ap (λ (ks : List ℕ). length (flat_map (edges_from setting purpose) ks)) (ranged setting (piece_count setting) (giver purpose)) in
    let blocks = blocks_most (edges_from setting purpose) first count b (λ k l h. let few = from_few setting purpose k in omega arith) in
    let most = mul_most count a b b givers (omega arith) in omega arith

-- at most 37,120 edges
pub edges_few : (setting : Setting) → IsSetting setting → length (edges_of setting) ≤ 37_120
unfolding edges_of
edges_few setting is =
    let air = (pieces_some setting is Atmos).1 in
    let land = (pieces_some setting is Land).1 in
    let ice = (pieces_some setting is Ice).1 in
    let ocean = (pieces_some setting is Ocean).1 in
    let all = length-flat_map (edges_for setting) purposes in
    let a = for_few setting AirHalo 64 64 air air in
    let b = for_few setting LandToAir 64 64 land air in
    let c = for_few setting IceToAir 64 64 ice air in
    let d = for_few setting AirToLand 64 64 air land in
    let e = for_few setting AirToIce 64 64 air ice in
    let f = for_few setting LandToIce 64 64 land ice in
    let g = for_few setting IceToOcean 64 64 ice ocean in
    let h = for_few setting OceanToIce 64 64 ocean ice in
    let i = for_few setting OceanHalo 64 64 ocean ocean in
    let j = for_few setting Sums 256 1 (pieces_few setting is).1 (omega arith) in
    omega (arith, all, a, b, c, d, e, f, g, h, i, j)

-- each piece has an edge for its sums
blocks_least : {X : Type 0} (f : ℕ → List X) (a n : ℕ) → ((k : ℕ) → 1 ≤ length (f k)) → n ≤ length (flat_map f (range_with_len a n))
blocks_least f a zero least = omega arith
blocks_least f a (suc n) least =
    let first = least a in
    let rest = blocks_least f (a + 1) n least in
    let both = length-append (f a) (flat_map f (range_with_len (a + 1) n)) in omega arith

sums_from : (setting : Setting) (from : ℕ) → 1 ≤ length (edges_from setting Sums from)
unfolding has_edge
sums_from setting from = omega arith

pub edges_some : (setting : Setting) → IsSetting setting → 1 ≤ length (edges_of setting)
unfolding edges_of
edges_some setting is =
    let all = length-flat_map (edges_for setting) purposes in
    let sums = blocks_least (edges_from setting Sums) 0 (piece_count setting) (sums_from setting) in
    let some = (pieces_few setting is).0 in omega (arith, all, sums, some)

-- USES

-- at most ten million uses
pub uses_few : (names : Names) → AreNames names → (purpose : Purpose) → uses_for names purpose ≤ 10_000_000
unfolding uses_for
uses_few names are AirHalo = let most = mul_most names.steps 10_000 names.fast 1_000 are.steps are.fast.1 in omega arith
uses_few names are LandToAir = let most = mul_most names.steps 10_000 names.fast 1_000 are.steps are.fast.1 in omega arith
uses_few names are IceToAir = let most = mul_most names.steps 10_000 names.fast 1_000 are.steps are.fast.1 in omega arith
uses_few names are AirToLand = let most = mul_most names.steps 10_000 names.fast 1_000 are.steps are.fast.1 in omega arith
uses_few names are AirToIce = let most = mul_most names.steps 10_000 names.fast 1_000 are.steps are.fast.1 in omega arith
uses_few names are LandToIce = let most = are.steps in omega arith
uses_few names are IceToOcean = let most = are.steps in omega arith
uses_few names are OceanToIce = let most = are.steps in omega arith
uses_few names are OceanHalo = let most = mul_most names.steps 10_000 names.ocean_steps 100 are.steps are.ocean_steps.1 in omega arith
uses_few names are Sums = let most = are.steps in omega arith

-- ACTIONS

pub fast_few : (component : Component) → length (fast_moves component) ≤ 9
fast_few Atmos = omega arith
fast_few Land = omega arith
fast_few Ice = omega arith
fast_few Ocean = omega arith

pub ocean_few : (component : Component) → length (ocean_moves component) ≤ 4
ocean_few Atmos = omega arith
ocean_few Land = omega arith
ocean_few Ice = omega arith
ocean_few Ocean = omega arith

pub opening_few : (component : Component) (first : Bool) → length (opening component first) ≤ 2
opening_few Atmos first = omega arith
opening_few Land first = omega arith
opening_few Ice true = omega arith
opening_few Ice false = omega arith
opening_few Ocean true = omega arith
opening_few Ocean false = omega arith

pub closing_few : (component : Component) (last : Bool) → length (closing component last) ≤ 3
closing_few Atmos last = omega arith
closing_few Land last = omega arith
closing_few Ice true = omega arith
closing_few Ice false = omega arith
closing_few Ocean true = omega arith
closing_few Ocean false = omega arith

pub summing_few : (first : Bool) → length (summing first) ≤ 3
summing_few true = omega arith
summing_few false = omega arith

turned_len : (n i : ℕ) (moves : List Move) → length (turned n i moves) ≡ length moves
turned_len n i moves = length-map moves (λ move. record { kind = move; step = n; sub = i })

repeat_few : (n m w most : ℕ) (moves : List Move) → m ≤ most → length moves ≤ w → length (flat_map (λ i. turned n i moves) (range_with_len 0 m)) ≤ most * w
repeat_few n m w most moves few short =
    let all = blocks_most (λ i. turned n i moves) 0 m w (λ k l h. let len = turned_len n k moves in omega arith) in
    let product = mul_most m most w w few (omega arith) in omega arith

step_few : (names : Names) → AreNames names → (component : Component) (first : Bool) (n : ℕ) → length (step_and_sums names component first n) ≤ 9_408
step_few names are component first n =
    let opens = turned n 0 (opening component (eqb n 0)) in
    let fasts = flat_map (λ i. turned n i (fast_moves component)) (range_with_len 0 names.fast) in
    let oceans = flat_map (λ i. turned n i (ocean_moves component)) (range_with_len 0 names.ocean_steps) in
    let closes = turned n 0 (closing component (eqb (n + 1) names.steps)) in
    let sums = turned (n + 1) 0 (summing first) in
    let a : length opens ≤ 2 = let len = turned_len n 0 (opening component (eqb n 0)) in let few = opening_few component (eqb n 0) in omega arith in
    let b : length fasts ≤ 1_000 * 9 = repeat_few n names.fast 9 1_000 (fast_moves component) are.fast.1 (fast_few component) in
    let c : length oceans ≤ 100 * 4 = repeat_few n names.ocean_steps 4 100 (ocean_moves component) are.ocean_steps.1 (ocean_few component) in
    let d : length closes ≤ 3 = let len = turned_len n 0 (closing component (eqb (n + 1) names.steps)) in let few = closing_few component (eqb (n + 1) names.steps) in omega arith in
    let e : length sums ≤ 3 = let len = turned_len (n + 1) 0 (summing first) in let few = summing_few first in omega arith in
    let whole = length-append (step_turns names component n) sums in
    let three = length-append ((opens ++ fasts) ++ oceans) closes in
    let two = length-append (opens ++ fasts) oceans in
    let one = length-append opens fasts in omega (arith, whole, three, two, one, a, b, c, d, e)

turns_few : (names : Names) → AreNames names → (component : Component) (first : Bool) → length (turns_for names component first) ≤ 94_080_003
unfolding turns_for
turns_few names are component first =
    let rest = flat_map (step_and_sums names component first) (range_with_len 0 names.steps) in
    let steps = blocks_most (step_and_sums names component first) 0 names.steps 9_408 (λ k l h. step_few names are component first k) in
    let product = mul_most names.steps 10_000 9_408 9_408 are.steps (omega arith) in
    let begins = turned_len 0 0 (summing first) in
    let few = summing_few first in
    let both = length-append (turned 0 0 (summing first)) rest in omega (arith, steps, product, begins, few, both)

pub posted_few : (setting : Setting) (piece : ℕ) (purpose : Purpose) → length (posted_by setting piece purpose) ≤ length (edges_of setting)
unfolding posted_by
posted_few setting piece purpose = numbers_few _ 0 (edges_of setting)

pub taken_few : (setting : Setting) (piece : ℕ) (purpose : Purpose) → length (taken_by setting piece purpose) ≤ length (edges_of setting)
unfolding taken_by
taken_few setting piece purpose = numbers_few _ 0 (edges_of setting)

move_few : (setting : Setting) → IsSetting setting → (piece : ℕ) (turn : Turn) (kind : Move) → length (stops_by setting piece turn kind) ≤ 37_120
move_few setting is piece turn (Posts purpose) =
    let len = length-map (posted_by setting piece purpose) (post_stop setting turn) in
    let few = posted_few setting piece purpose in
    let most = edges_few setting is in omega arith
move_few setting is piece turn (Takes purpose) =
    let len = length-map (taken_by setting piece purpose) (take_stop setting turn) in
    let few = taken_few setting piece purpose in
    let most = edges_few setting is in omega arith
move_few setting is piece turn (Does job) = omega arith

-- a script is short
pub stops_few : (setting : Setting) → IsSetting setting → (piece : ℕ) → length (stops setting piece) ≤ 2 ^ 62
unfolding stops
stops_few setting is piece =
    let all = lists_most (stops_of setting piece) (turns setting piece) 37_120 (λ turn. move_few setting is piece turn turn.kind) in
    let few : length (turns setting piece) ≤ 94_080_003 = turns_few setting.names is.names_are _ _ in
    let product : length (turns setting piece) * 37_120 ≤ 94_080_003 * 37_120 = mul_most (length (turns setting piece)) 94_080_003 37_120 37_120 few (omega arith) in
    omega (arith, all, product)
