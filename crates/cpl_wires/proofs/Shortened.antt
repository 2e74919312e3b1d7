-- How short the parts of a script are, and what a piece's lengths are made of.
use Rattle.std.proofs.Common.{◌≡◌, ◌∙◌, refl, sym, ap, ℕ, zero, suc, ◌+◌, ◌*◌, ◌<◌, ◌≤◌, arith, Bool, true, false, List, [], ◌∷◌, length, get_or, eqb, ⊎_elim}
use Rattle.std.proofs.lemmas.Bool.{cases_eq, eq-eqb, ne_eqb}
use Rattle.std.proofs.lemmas.List.FromFn.{length-map-range_with_len, get_or-map-range_with_len}
use Rattle.cpl_fixed.specs.declared.words.Component.{Component}
use Rattle.cpl_fixed.specs.declared.words.Component.TheVariants.{Atmos, Land, Ice, Ocean}
use Rattle.cpl_namelist.specs.declared.names.Names.{Names}
use Rattle.cpl_wires.specs.declared.parts.Move.{Move}
use Rattle.cpl_wires.specs.declared.parts.Move.TheVariants.{Posts, Takes, Does}
use Rattle.cpl_wires.specs.declared.parts.Lengths.{Lengths}
use Rattle.cpl_wires.specs.Settings.{Setting, IsSetting, component_of, piece_count}
use Rattle.cpl_wires.specs.Turns.{opening, fast_moves, ocean_moves, closing, summing}
use Rattle.cpl_wires.specs.Stops.{stops}
use Rattle.cpl_wires.specs.Lengths.{AreShort, move_length, moves_length, lengths_of, all_lengths, step_size, begin_of, actions_in, actions_of}
use Rattle.cpl_wires.proofs.Few.{edges_few, posted_few, taken_few, fast_few, ocean_few, opening_few, closing_few, summing_few}
use Rattle.cpl_wires.proofs.Parted.{moves_cons, moves_none, script_long}

-- MOVES

move_short : (setting : Setting) → IsSetting setting → (piece : ℕ) (kind : Move) → move_length setting piece kind ≤ 37_120
move_short setting is piece (Posts purpose) = let few = posted_few setting piece purpose in let most = edges_few setting is in omega arith
move_short setting is piece (Takes purpose) = let few = taken_few setting piece purpose in let most = edges_few setting is in omega arith
move_short setting is piece (Does job) = omega arith

moves_short : (setting : Setting) → IsSetting setting → (piece : ℕ) (moves : List Move) → moves_length setting piece moves ≤ 37_120 * length moves
moves_short setting is piece [] = let none = moves_none setting piece in omega arith
moves_short setting is piece (kind ∷ moves) =
    let first = move_short setting is piece kind in
    let rest = moves_short setting is piece moves in
    let cons = moves_cons setting piece kind moves in
    let more : 37_120 * suc (length moves) ≡ 37_120 + 37_120 * length moves = omega arith in omega arith

-- each component computes something in a fast step or in an ocean step
moves_some : (setting : Setting) (piece : ℕ) (component : Component) → 1 ≤ moves_length setting piece (fast_moves component) + moves_length setting piece (ocean_moves component)
unfolding moves_length
moves_some setting piece Atmos = omega arith
moves_some setting piece Land = omega arith
moves_some setting piece Ice = omega arith
moves_some setting piece Ocean = omega arith

-- THE LENGTHS OF A PIECE

-- how long the parts are, with this number of all actions
abbrev pub parts_of : Setting → ℕ → Component → ℕ → Lengths
parts_of setting piece component actions = record {
  component = component;
  summing = moves_length setting piece (summing (eqb piece 0));
  first_opening = moves_length setting piece (opening component true);
  opening = moves_length setting piece (opening component false);
  fast = moves_length setting piece (fast_moves component);
  ocean = moves_length setting piece (ocean_moves component);
  closing = moves_length setting piece (closing component false);
  last_closing = moves_length setting piece (closing component true);
  actions = actions;
}

-- from its parts
pub made_of : (setting : Setting) (piece : ℕ) (component : Component) (a b c d e f g actions : ℕ)
    → a ≡ moves_length setting piece (summing (eqb piece 0)) → b ≡ moves_length setting piece (opening component true) → c ≡ moves_length setting piece (opening component false)
    → d ≡ moves_length setting piece (fast_moves component) → e ≡ moves_length setting piece (ocean_moves component)
    → f ≡ moves_length setting piece (closing component false) → g ≡ moves_length setting piece (closing component true)
    → record { component = component; summing = a; first_opening = b; opening = c; fast = d; ocean = e; closing = f; last_closing = g; actions = actions }
    ≡ parts_of setting piece component actions
made_of setting piece component a b c d e f g actions is_a is_b is_c is_d is_e is_f is_g = cc

pub parts_short : (setting : Setting) → IsSetting setting → (piece : ℕ) (component : Component) (actions : ℕ) → AreShort (parts_of setting piece component actions)
parts_short setting is piece component actions = record {
  some = moves_some setting piece component;
  summing = let short = moves_short setting is piece (summing (eqb piece 0)) in let few = summing_few (eqb piece 0) in omega arith;
  first_opening = let short = moves_short setting is piece (opening component true) in let few = opening_few component true in omega arith;
  opening = let short = moves_short setting is piece (opening component false) in let few = opening_few component false in omega arith;
  fast = let short = moves_short setting is piece (fast_moves component) in let few = fast_few component in omega arith;
  ocean = let short = moves_short setting is piece (ocean_moves component) in let few = ocean_few component in omega arith;
  closing = let short = moves_short setting is piece (closing component false) in let few = closing_few component false in omega arith;
  last_closing = let short = moves_short setting is piece (closing component true) in let few = closing_few component true in omega arith;
}

pub lengths_short : (setting : Setting) → IsSetting setting → (piece : ℕ) → AreShort (lengths_of setting piece)
lengths_short setting is piece = parts_short setting is piece (component_of setting piece) (length (stops setting piece))

-- HOW MANY ACTIONS THERE ARE

first_is : (steps last : ℕ) → steps ≡ last + 1 → eqb steps 1 ≡ eqb last 0
first_is steps last is = ⊎_elim
    (λ same. eq-eqb steps 1 (omega arith) ∙ sym (eq-eqb last 0 same))
    (λ differ. ne_eqb steps 1 (λ e. differ (omega arith)) ∙ sym (ne_eqb last 0 differ))
    (cases_eq last 0)

-- where there is a last coupling step
pub actions_are : (names : Names) (lengths : Lengths) (last : ℕ) → names.steps ≡ last + 1
    → lengths.summing + begin_of names lengths last + step_size names lengths (eqb names.steps 1) true ≡ actions_of names lengths
actions_are names lengths last is =
    let same : suc last ≡ names.steps = omega arith in
    ap (λ (first : Bool). lengths.summing + begin_of names lengths last + step_size names lengths first true) (first_is names.steps last is) ∙ ap (actions_in names lengths) same

begin_same : (names : Names) (lengths : Lengths) (actions n : ℕ) → begin_of names (record lengths { actions = actions }) n ≡ begin_of names lengths n
begin_same names lengths actions zero = refl
begin_same names lengths actions (suc n) = refl

count_same : (names : Names) (lengths : Lengths) (actions count : ℕ) → actions_in names (record lengths { actions = actions }) count ≡ actions_in names lengths count
count_same names lengths actions zero = refl
count_same names lengths actions (suc last) =
    ap (λ (begin : ℕ). lengths.summing + begin + step_size names lengths (eqb last 0) true) (begin_same names lengths actions last)

-- of a piece
pub lengths_are : (setting : Setting) (piece : ℕ) (component : Component) (names : Names) (made : Lengths) (actions : ℕ)
    → component ≡ component_of setting piece → names ≡ setting.names → made ≡ parts_of setting piece component 0 → actions ≡ actions_of names made
    → record made { actions = actions } ≡ lengths_of setting piece
lengths_are setting piece component names made actions is same parts count =
    let own = component_of setting piece in
    let made_is : made ≡ parts_of setting piece own 0 = parts ∙ ap (λ (k : Component). parts_of setting piece k 0) is in
    let all : actions ≡ length (stops setting piece) =
    count ∙ ap (actions_of names) made_is ∙ ap (λ (n : Names). actions_of n (parts_of setting piece own 0)) same
    ∙ count_same setting.names (lengths_of setting piece) 0 setting.names.steps ∙ sym (script_long setting piece) in
    ap (λ (l : Lengths). record l { actions = actions }) made_is ∙ ap (parts_of setting piece own) all

-- READ FROM THE LENGTHS OF ALL PIECES

pub all_long : (setting now : Setting) (items : List Lengths) → items ≡ all_lengths setting → setting ≡ now → length items ≡ piece_count now
all_long setting now items is same = ap (λ (all : List Lengths). length all) is ∙ length-map-range_with_len (lengths_of setting) 0 (piece_count setting) ∙ ap piece_count same

pub lengths_read : (setting now : Setting) (items : List Lengths) (piece : ℕ) (x : Lengths) → items ≡ all_lengths setting → setting ≡ now → piece < piece_count now
    → x ≡ get_or items piece x → x ≡ lengths_of setting piece
lengths_read setting now items piece x is same l at =
    let count = ap piece_count same in
    at ∙ ap (λ (all : List Lengths). get_or all piece x) is ∙ get_or-map-range_with_len (lengths_of setting) 0 (piece_count setting) piece piece x (omega arith) (omega arith)
