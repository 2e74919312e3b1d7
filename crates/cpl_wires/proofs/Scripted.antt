-- The actions of a piece, counted: a Post and a Take are each use of their edge once, in order.
use Rattle.std.proofs.Common.{cond, ◌≡◌, ◌≢◌, ◌∙◌, refl, sym, ap, subst, ℕ, ◌+◌, ◌<◌, ◌≤◌, arith, Bool, true, false, List, [], ◌∷◌, length, eqb}
use Rattle.std.specs.Prelude.{◌&&◌, map, slice_index_or}
use Rattle.std.specs.List.{flat_map, count_by}
use Rattle.std.proofs.lemmas.Bool.{eq-eqb, ne_eqb, eqb-true}
use Rattle.cpl_core.specs.Wires.{is_post, is_take}
use Rattle.cpl_namelist.specs.declared.names.Names.{Names}
use Rattle.cpl_wires.specs.declared.parts.Purpose.{Purpose}
use Rattle.cpl_wires.specs.declared.parts.Purpose.TheVariants.{AirHalo, LandToAir, IceToAir, AirToLand, AirToIce, LandToIce, IceToOcean, OceanToIce, OceanHalo, Sums}
use Rattle.cpl_wires.specs.declared.parts.Edge.{Edge}
use Rattle.cpl_wires.specs.declared.parts.Move.{Move}
use Rattle.cpl_wires.specs.declared.parts.Move.TheVariants.{Posts, Takes, Does}
use Rattle.cpl_wires.specs.declared.parts.Turn.{Turn}
use Rattle.cpl_wires.specs.declared.parts.Stop.{Stop}
use Rattle.cpl_wires.specs.Settings.{Setting, component_of, piece_count}
use Rattle.cpl_wires.specs.Purposes.{purposes, purpose_place, is_same_purpose, giver, receiver, uses_for}
use Rattle.cpl_wires.specs.Edges.{edges_of, edge_at, posted_by, taken_by}
use Rattle.cpl_wires.specs.Turns.{turns, turns_for}
use Rattle.cpl_wires.specs.Stops.{post_stop, take_stop, compute_stop, stops_by, stops_of, stops, post_use, take_use, use_by, use_of}
use Rattle.cpl_wires.proofs.Counted.{Counted, counted_none, counted_once, count_map, uses_lists, count_append, count_cons}
use Rattle.cpl_wires.proofs.Turned.{CountedTurns}
use Rattle.cpl_wires.proofs.Uses.{posting, taking, posts_counted, takes_counted}
use Rattle.cpl_wires.proofs.Numbers.{count_at}
use Rattle.cpl_wires.specs.Laws.{IsOf}
use Rattle.cpl_wires.proofs.Members.{is_edge, component_or}

-- PURPOSES

-- a purpose is the one at its place
at_place : (purpose : Purpose) → slice_index_or purposes (purpose_place purpose) Sums ≡ purpose
at_place AirHalo = refl
at_place LandToAir = refl
at_place IceToAir = refl
at_place AirToLand = refl
at_place AirToIce = refl
at_place LandToIce = refl
at_place IceToOcean = refl
at_place OceanToIce = refl
at_place OceanHalo = refl
at_place Sums = refl

pub same_purpose : (a b : Purpose) → is_same_purpose a b ≡ true → a ≡ b
same_purpose a b e =
    sym (at_place a) ∙ ap (λ (n : ℕ). slice_index_or purposes n Sums) (eqb-true (purpose_place a) (purpose_place b) e) ∙ at_place b

-- ONE MOVE

-- whether an action posts this edge, or takes it
abbrev pub posts : ℕ → Stop → Bool
posts edge stop = is_post edge stop.act

abbrev pub takes : ℕ → Stop → Bool
takes edge stop = is_take edge stop.act

-- which use of its edge an action is
abbrev pub use_at : Setting → Stop → ℕ
use_at setting stop = use_of setting stop.turn

post_use_is : (names : Names) (purpose : Purpose) (kind : Move) (n i : ℕ) → posting purpose kind ≡ true → use_by names kind n i ≡ post_use names purpose n i
post_use_is names purpose (Posts other) n i e = sym (ap (λ (p : Purpose). post_use names p n i) (same_purpose purpose other e))
post_use_is names purpose (Takes other) n i e = cc
post_use_is names purpose (Does job) n i e = cc

take_use_is : (names : Names) (purpose : Purpose) (kind : Move) (n i : ℕ) → taking purpose kind ≡ true → use_by names kind n i ≡ take_use names purpose n i
take_use_is names purpose (Posts other) n i e = cc
take_use_is names purpose (Takes other) n i e = sym (ap (λ (p : Purpose). take_use names p n i) (same_purpose purpose other e))
take_use_is names purpose (Does job) n i e = cc

and_true : (a b : Bool) → b ≡ true → (a && b) ≡ a
and_true true b e = e
and_true false b e = refl

and_false : (a b : Bool) → b ≡ false → (a && b) ≡ false
and_false true b e = e
and_false false b e = refl

at_most_one : (b : Bool) (n : ℕ) → n ≡ cond b 1 0 → n ≤ 1
at_most_one true n e = omega arith
at_most_one false n e = omega arith

if_one : (b : Bool) (n : ℕ) → n ≡ cond b 1 0 → n ≡ 1 → b ≡ true
if_one true n e one = refl
if_one false n e one = absurd (omega arith)

count_never : {T : Type 0} (xs : List T) → count_by (λ x. false) xs ≡ 0
count_never [] = refl
count_never {T} (x ∷ xs) =
    let cons : count_by (λ (y : T). false) (x ∷ xs) ≡ 0 + count_by (λ (y : T). false) xs = count_cons (λ y. false) x xs in
    let rest = count_never xs in omega arith

-- how often an edge is among those of a purpose that a piece posts
post_times : (setting : Setting) (piece edge : ℕ) (purpose : Purpose) → edge < length (edges_of setting)
    → count_by (λ n. eqb n edge) (posted_by setting piece purpose)
    ≡ cond (is_same_purpose (edge_at setting edge).purpose purpose && eqb (edge_at setting edge).from piece) 1 0
unfolding posted_by
post_times setting piece edge purpose l =
    let same : 0 + edge ≡ edge = omega arith in
    let test = λ (e : Edge). is_same_purpose e.purpose purpose && eqb e.from piece in
    subst (λ (k : ℕ). count_by (λ n. eqb n k) (posted_by setting piece purpose) ≡ cond (test (edge_at setting edge)) 1 0) same
    (count_at test 0 edge (edges_of setting) (record { purpose = Sums; from = 0; to = 0 }) l)

take_times : (setting : Setting) (piece edge : ℕ) (purpose : Purpose) → edge < length (edges_of setting)
    → count_by (λ n. eqb n edge) (taken_by setting piece purpose)
    ≡ cond (is_same_purpose (edge_at setting edge).purpose purpose && eqb (edge_at setting edge).to piece) 1 0
unfolding taken_by
take_times setting piece edge purpose l =
    let same : 0 + edge ≡ edge = omega arith in
    let test = λ (e : Edge). is_same_purpose e.purpose purpose && eqb e.to piece in
    subst (λ (k : ℕ). count_by (λ n. eqb n k) (taken_by setting piece purpose) ≡ cond (test (edge_at setting edge)) 1 0) same
    (count_at test 0 edge (edges_of setting) (record { purpose = Sums; from = 0; to = 0 }) l)

none_of : {T : Type 0} (tests : T → Bool) (numbers : T → ℕ) (a : ℕ) (xs : List T) → count_by tests xs ≡ 0 → Counted tests numbers a (0 + a) xs
none_of tests numbers a xs none =
    let same : a ≡ 0 + a = omega arith in subst (λ (b : ℕ). Counted tests numbers a b xs) same (counted_none tests numbers a xs none)

-- of a move, the posts of an edge of this piece
posts_by : (setting : Setting) (piece edge a : ℕ) (turn : Turn) (kind : Move) → edge < length (edges_of setting) → (edge_at setting edge).from ≡ piece
    → (posting (edge_at setting edge).purpose kind ≡ true → use_of setting turn ≡ a)
    → Counted (posts edge) (use_at setting) a (cond (posting (edge_at setting edge).purpose kind) 1 0 + a) (stops_by setting piece turn kind)
posts_by setting piece edge a turn (Posts purpose) l is own =
    let b = is_same_purpose (edge_at setting edge).purpose purpose in
    let once : count_by (λ n. eqb n edge) (posted_by setting piece purpose) ≡ cond b 1 0 =
    post_times setting piece edge purpose l ∙ ap (λ (c : Bool). cond c 1 0) (and_true b (eqb (edge_at setting edge).from piece) (eq-eqb (edge_at setting edge).from piece is)) in
    let count = count_by (λ n. eqb n edge) (posted_by setting piece purpose) in
    subst (λ (k : ℕ). Counted (posts edge) (use_at setting) a (k + a) (map (post_stop setting turn) (posted_by setting piece purpose))) once
    (counted_once (posts edge) (use_at setting) (post_stop setting turn) (use_of setting turn) a (posted_by setting piece purpose) (λ e. refl)
    (at_most_one b count once) (λ one. own (if_one b count once one)))
posts_by setting piece edge a turn (Takes purpose) l is own =
    let none : count_by (posts edge) (map (take_stop setting turn) (taken_by setting piece purpose)) ≡ 0 =
    count_map (posts edge) (take_stop setting turn) (taken_by setting piece purpose) ∙ count_never (taken_by setting piece purpose) in
    none_of (posts edge) (use_at setting) a (map (take_stop setting turn) (taken_by setting piece purpose)) none
posts_by setting piece edge a turn (Does job) l is own = none_of (posts edge) (use_at setting) a (compute_stop turn ∷ []) refl

takes_by : (setting : Setting) (piece edge a : ℕ) (turn : Turn) (kind : Move) → edge < length (edges_of setting) → (edge_at setting edge).to ≡ piece
    → (taking (edge_at setting edge).purpose kind ≡ true → use_of setting turn ≡ a)
    → Counted (takes edge) (use_at setting) a (cond (taking (edge_at setting edge).purpose kind) 1 0 + a) (stops_by setting piece turn kind)
takes_by setting piece edge a turn (Takes purpose) l is own =
    let b = is_same_purpose (edge_at setting edge).purpose purpose in
    let once : count_by (λ n. eqb n edge) (taken_by setting piece purpose) ≡ cond b 1 0 =
    take_times setting piece edge purpose l ∙ ap (λ (c : Bool). cond c 1 0) (and_true b (eqb (edge_at setting edge).to piece) (eq-eqb (edge_at setting edge).to piece is)) in
    let count = count_by (λ n. eqb n edge) (taken_by setting piece purpose) in
    subst (λ (k : ℕ). Counted (takes edge) (use_at setting) a (k + a) (map (take_stop setting turn) (taken_by setting piece purpose))) once
    (counted_once (takes edge) (use_at setting) (take_stop setting turn) (use_of setting turn) a (taken_by setting piece purpose) (λ e. refl)
    (at_most_one b count once) (λ one. own (if_one b count once one)))
takes_by setting piece edge a turn (Posts purpose) l is own =
    let none : count_by (takes edge) (map (post_stop setting turn) (posted_by setting piece purpose)) ≡ 0 =
    count_map (takes edge) (post_stop setting turn) (posted_by setting piece purpose) ∙ count_never (posted_by setting piece purpose) in
    none_of (takes edge) (use_at setting) a (map (post_stop setting turn) (posted_by setting piece purpose)) none
takes_by setting piece edge a turn (Does job) l is own = none_of (takes edge) (use_at setting) a (compute_stop turn ∷ []) refl

-- THE WHOLE SCRIPT

-- the script of the piece that posts an edge
pub posts_counted_in : (setting : Setting) (edge : ℕ) → edge < length (edges_of setting)
    → Counted (posts edge) (use_at setting) 0 (uses_for setting.names (edge_at setting edge).purpose) (stops setting (edge_at setting edge).from)
unfolding stops use_of
posts_counted_in setting edge l =
    let own = edge_at setting edge in
    let piece = own.from in
    let names = setting.names in
    let component = component_of setting piece in
    let turned : CountedTurns (posting own.purpose) (post_use names own.purpose) 0 (uses_for names own.purpose) (turns setting piece) =
    subst (λ (c : _). CountedTurns (posting own.purpose) (post_use names own.purpose) 0 (uses_for names own.purpose) (turns_for names c (eqb piece 0)))
    (component_or setting (piece_count setting) (giver own.purpose) piece (is_edge setting edge l).from)
    (posts_counted names own.purpose component (eqb piece 0)) in
    uses_lists (λ (turn : Turn). posting own.purpose turn.kind) (λ turn. post_use names own.purpose turn.step turn.sub)
    (posts edge) (use_at setting) (stops_of setting piece) 0 (uses_for names own.purpose) (turns setting piece)
    (λ turn a h. posts_by setting piece edge a turn turn.kind l refl
    (λ e. post_use_is names own.purpose turn.kind turn.step turn.sub e ∙ h e))
    turned

first_takes : (setting : Setting) (purpose : Purpose) (piece : ℕ) → IsOf setting 1 (receiver purpose) piece → is_same_purpose purpose Sums ≡ true → true ≡ eqb piece 0
first_takes setting purpose piece is same =
    let is_sums : purpose ≡ Sums = same_purpose purpose Sums same in
    let below : piece < 1 = subst (λ (p : Purpose). IsOf setting 1 (receiver p) piece) is_sums is in
    sym (eq-eqb piece 0 (omega arith))

-- the script of the piece that takes an edge
pub takes_counted_in : (setting : Setting) (edge : ℕ) → edge < length (edges_of setting)
    → Counted (takes edge) (use_at setting) 0 (uses_for setting.names (edge_at setting edge).purpose) (stops setting (edge_at setting edge).to)
unfolding stops use_of
takes_counted_in setting edge l =
    let own = edge_at setting edge in
    let piece = own.to in
    let names = setting.names in
    let component = component_of setting piece in
    let is = (is_edge setting edge l).to in
    let turned : CountedTurns (taking own.purpose) (take_use names own.purpose) 0 (uses_for names own.purpose) (turns setting piece) =
    subst (λ (c : _). CountedTurns (taking own.purpose) (take_use names own.purpose) 0 (uses_for names own.purpose) (turns_for names c (eqb piece 0)))
    (component_or setting 1 (receiver own.purpose) piece is)
    (takes_counted names own.purpose component (eqb piece 0) (first_takes setting own.purpose piece is)) in
    uses_lists (λ (turn : Turn). taking own.purpose turn.kind) (λ turn. take_use names own.purpose turn.step turn.sub)
    (takes edge) (use_at setting) (stops_of setting piece) 0 (uses_for names own.purpose) (turns setting piece)
    (λ turn a h. takes_by setting piece edge a turn turn.kind l refl
    (λ e. take_use_is names own.purpose turn.kind turn.step turn.sub e ∙ h e))
    turned

-- ALL OTHER SCRIPTS

count_lists : {S T : Type 0} (tests : T → Bool) (f : S → List T) (xs : List S) → ((x : S) → count_by tests (f x) ≡ 0) → count_by tests (flat_map f xs) ≡ 0
count_lists tests f [] each = refl
count_lists tests f (x ∷ xs) each =
    let both = count_append tests (f x) (flat_map f xs) in
    let one = each x in
    let rest = count_lists tests f xs each in omega arith

other_posts : (setting : Setting) (piece edge : ℕ) (turn : Turn) (kind : Move) → edge < length (edges_of setting) → ((edge_at setting edge).from ≢ piece)
    → count_by (posts edge) (stops_by setting piece turn kind) ≡ 0
other_posts setting piece edge turn (Posts purpose) l differ =
    let b = is_same_purpose (edge_at setting edge).purpose purpose in
    count_map (posts edge) (post_stop setting turn) (posted_by setting piece purpose)
    ∙ post_times setting piece edge purpose l
    ∙ ap (λ (c : Bool). cond c 1 0) (and_false b (eqb (edge_at setting edge).from piece) (ne_eqb (edge_at setting edge).from piece differ))
other_posts setting piece edge turn (Takes purpose) l differ =
    count_map (posts edge) (take_stop setting turn) (taken_by setting piece purpose) ∙ count_never (taken_by setting piece purpose)
other_posts setting piece edge turn (Does job) l differ = refl

other_takes : (setting : Setting) (piece edge : ℕ) (turn : Turn) (kind : Move) → edge < length (edges_of setting) → ((edge_at setting edge).to ≢ piece)
    → count_by (takes edge) (stops_by setting piece turn kind) ≡ 0
other_takes setting piece edge turn (Takes purpose) l differ =
    let b = is_same_purpose (edge_at setting edge).purpose purpose in
    count_map (takes edge) (take_stop setting turn) (taken_by setting piece purpose)
    ∙ take_times setting piece edge purpose l
    ∙ ap (λ (c : Bool). cond c 1 0) (and_false b (eqb (edge_at setting edge).to piece) (ne_eqb (edge_at setting edge).to piece differ))
other_takes setting piece edge turn (Posts purpose) l differ =
    count_map (takes edge) (post_stop setting turn) (posted_by setting piece purpose) ∙ count_never (posted_by setting piece purpose)
other_takes setting piece edge turn (Does job) l differ = refl

pub no_posts : (setting : Setting) (piece edge : ℕ) → edge < length (edges_of setting) → ((edge_at setting edge).from ≢ piece) → count_by (posts edge) (stops setting piece) ≡ 0
unfolding stops
no_posts setting piece edge l differ = count_lists (posts edge) (stops_of setting piece) (turns setting piece) (λ turn. other_posts setting piece edge turn turn.kind l differ)

pub no_takes : (setting : Setting) (piece edge : ℕ) → edge < length (edges_of setting) → ((edge_at setting edge).to ≢ piece) → count_by (takes edge) (stops setting piece) ≡ 0
unfolding stops
no_takes setting piece edge l differ = count_lists (takes edge) (stops_of setting piece) (turns setting piece) (λ turn. other_takes setting piece edge turn turn.kind l differ)
