-- What each action of a piece is, and which use of its edge.
use Rattle.std.proofs.Common.{cond, ◌≡◌, ◌∙◌, refl, sym, ap, subst, ℕ, zero, suc, ◌+◌, ◌<◌, arith, Bool, true, List, [], ◌∷◌, length, get_or, take, eqb, ⊎_elim}
use Rattle.std.specs.Prelude.{◌&&◌, All}
use Rattle.std.specs.List.{flat_map, count_by, take-map}
use Rattle.std.proofs.lemmas.Bool.{eq-eqb, eqb-true, cases_eq, and_parts, cond-true, cond-false, ne_eqb}
use Rattle.std.proofs.lemmas.List.Elements.{All-append, All-map}
use Rattle.std.proofs.lemmas.List.Sums.{count_by_more_yes, sum_by-take-le}
use Rattle.cpl_core.specs.declared.wiring.Act.{Act}
use Rattle.cpl_core.specs.declared.wiring.Act.TheVariants.{Post, Take, Compute}
use Rattle.cpl_core.specs.Wires.{is_post, is_take}
use Rattle.cpl_wires.specs.declared.parts.Purpose.{Purpose}
use Rattle.cpl_wires.specs.declared.parts.Purpose.TheVariants.{Sums}
use Rattle.cpl_wires.specs.declared.parts.Edge.{Edge}
use Rattle.cpl_wires.specs.declared.parts.Job.TheVariants.{Gather}
use Rattle.cpl_wires.specs.declared.parts.Move.{Move}
use Rattle.cpl_wires.specs.declared.parts.Move.TheVariants.{Posts, Takes, Does}
use Rattle.cpl_wires.specs.declared.parts.Turn.{Turn}
use Rattle.cpl_wires.specs.declared.parts.Stop.{Stop}
use Rattle.cpl_wires.specs.Settings.{Setting}
use Rattle.cpl_wires.specs.Purposes.{is_same_purpose, uses_for}
use Rattle.cpl_wires.specs.Edges.{edges_of, edge_at, posted_by, taken_by}
use Rattle.cpl_wires.specs.Turns.{turns}
use Rattle.cpl_wires.specs.Stops.{post_stop, take_stop, compute_stop, stops_by, stops_of, stops, stop_at, script}
use Rattle.cpl_wires.specs.Laws.{IsPostOf, IsTakeOf, IsOwnAct, IsOwn, IsUsed, PostIsUse, TakeIsUse}
use Rattle.cpl_wires.proofs.Counted.{Counted, count_map, used_at}
use Rattle.cpl_wires.proofs.Numbers.{numbers_each}
use Rattle.cpl_wires.proofs.Scripted.{posts, takes, use_at, same_purpose, posts_counted_in, takes_counted_in, no_posts, no_takes}

-- EACH ACTION

all_lists : {S T : Type 0} (P : T → Type 0) (f : S → List T) (xs : List S) → ((x : S) → All P (f x)) → All P (flat_map f xs)
all_lists P f [] each = λ k d h. absurd (omega arith)
all_lists P f (x ∷ xs) each = All-append P (f x) (flat_map f xs) (each x) (all_lists P f xs each)

only_one : {T : Type 0} (P : T → Type 0) (x : T) → P x → All P (x ∷ [])
only_one P x is zero d h = is
only_one P x is (suc k) d h = absurd (omega arith)

posted_own : (setting : Setting) (piece : ℕ) (turn : Turn) (purpose : Purpose) → turn.kind ≡ Posts purpose
    → All (λ edge. IsPostOf setting piece (post_stop setting turn edge) edge) (posted_by setting piece purpose)
unfolding posted_by
posted_own setting piece turn purpose kind =
    let d : Edge = record { purpose = Sums; from = 0; to = 0 } in
    let P : ℕ → Type 0 = λ edge. IsPostOf setting piece (post_stop setting turn edge) edge in
    numbers_each P (λ (edge : Edge). is_same_purpose edge.purpose purpose && eqb edge.from piece) 0 (edges_of setting) d
    (λ k l e.
    let same : k ≡ 0 + k = omega arith in
    let parts = and_parts (is_same_purpose (edge_at setting k).purpose purpose) (eqb (edge_at setting k).from piece) e in
    subst P same (record {
      known = l;
      from = eqb-true (edge_at setting k).from piece parts.1;
      kind = kind ∙ ap (λ (p : Purpose). Posts p) (sym (same_purpose (edge_at setting k).purpose purpose parts.0));
      slot = refl;
    }))

taken_own : (setting : Setting) (piece : ℕ) (turn : Turn) (purpose : Purpose) → turn.kind ≡ Takes purpose
    → All (λ edge. IsTakeOf setting piece (take_stop setting turn edge) edge) (taken_by setting piece purpose)
unfolding taken_by
taken_own setting piece turn purpose kind =
    let d : Edge = record { purpose = Sums; from = 0; to = 0 } in
    let P : ℕ → Type 0 = λ edge. IsTakeOf setting piece (take_stop setting turn edge) edge in
    numbers_each P (λ (edge : Edge). is_same_purpose edge.purpose purpose && eqb edge.to piece) 0 (edges_of setting) d
    (λ k l e.
    let same : k ≡ 0 + k = omega arith in
    let parts = and_parts (is_same_purpose (edge_at setting k).purpose purpose) (eqb (edge_at setting k).to piece) e in
    subst P same (record {
      known = l;
      to = eqb-true (edge_at setting k).to piece parts.1;
      kind = kind ∙ ap (λ (p : Purpose). Takes p) (sym (same_purpose (edge_at setting k).purpose purpose parts.0));
      slot = refl;
    }))

own_by : (setting : Setting) (piece : ℕ) (turn : Turn) (kind : Move) → turn.kind ≡ kind → All (IsOwn setting piece) (stops_by setting piece turn kind)
own_by setting piece turn (Posts purpose) is =
    All-map (IsOwn setting piece) (post_stop setting turn) (posted_by setting piece purpose) (posted_own setting piece turn purpose is)
own_by setting piece turn (Takes purpose) is =
    All-map (IsOwn setting piece) (take_stop setting turn) (taken_by setting piece purpose) (taken_own setting piece turn purpose is)
own_by setting piece turn (Does job) is = only_one (IsOwn setting piece) (compute_stop turn) ((job, is), refl)

pub all_own : (setting : Setting) (piece : ℕ) → All (IsOwn setting piece) (stops setting piece)
unfolding stops
all_own setting piece = all_lists (IsOwn setting piece) (stops_of setting piece) (turns setting piece) (λ turn. own_by setting piece turn turn.kind refl)

-- each action is the piece's own
pub is_own : (setting : Setting) (piece m : ℕ) → m < length (stops setting piece) → IsOwn setting piece (stop_at setting piece m)
is_own setting piece m l = all_own setting piece m (record { act = Compute; slot = 0; turn = record { kind = Does Gather; step = 0; sub = 0 } }) l

-- ITS USE

is_posted : (edge : ℕ) (act : Act) → act ≡ Post edge → is_post edge act ≡ true
is_posted edge act e = ap (is_post edge) e ∙ eq-eqb edge edge refl

is_taken : (edge : ℕ) (act : Act) → act ≡ Take edge → is_take edge act ≡ true
is_taken edge act e = ap (is_take edge) e ∙ eq-eqb edge edge refl

-- a count over the actions of a front is one over its stops
front_count : (setting : Setting) (piece m : ℕ) (test : Act → Bool) → count_by test (take m (script setting piece)) ≡ count_by (λ (stop : Stop). test stop.act) (take m (stops setting piece))
front_count setting piece m test =
    ap (count_by test) (take-map (λ (stop : Stop). stop.act) m (stops setting piece)) ∙ count_map test (λ (stop : Stop). stop.act) (take m (stops setting piece))

below_all : {T : Type 0} (test : T → Bool) (xs : List T) (m : ℕ) (d : T) → m < length xs → test (get_or xs m d) ≡ true → count_by test (take m xs) < count_by test xs
below_all test xs m d l e =
    let more = count_by_more_yes test xs m d l e in
    let most = sum_by-take-le (λ x. cond (test x) 1 0) xs (m + 1) in omega arith

pub post_is_use : (setting : Setting) (piece m edge : ℕ) → m < length (stops setting piece) → (stop_at setting piece m).act ≡ Post edge → PostIsUse setting piece m edge
post_is_use setting piece m edge l is =
    let d : Stop = record { act = Compute; slot = 0; turn = record { kind = Does Gather; step = 0; sub = 0 } } in
    let own : IsOwnAct setting piece (stop_at setting piece m) (Post edge) = subst (IsOwnAct setting piece (stop_at setting piece m)) is (is_own setting piece m l) in
    let uses = uses_for setting.names (edge_at setting edge).purpose in
    let counted : Counted (posts edge) (use_at setting) 0 uses (stops setting piece) =
    subst (λ (p : ℕ). Counted (posts edge) (use_at setting) 0 uses (stops setting p)) own.from (posts_counted_in setting edge own.known) in
    let passes = is_posted edge (stop_at setting piece m).act is in
    let front = used_at (posts edge) (use_at setting) 0 (stops setting piece) m d counted.uses l passes in
    let less = below_all (posts edge) (stops setting piece) m d l passes in
    let total = counted.total in
    record { before = front_count setting piece m (is_post edge) ∙ omega arith; below = omega arith }

pub take_is_use : (setting : Setting) (piece m edge : ℕ) → m < length (stops setting piece) → (stop_at setting piece m).act ≡ Take edge → TakeIsUse setting piece m edge
take_is_use setting piece m edge l is =
    let d : Stop = record { act = Compute; slot = 0; turn = record { kind = Does Gather; step = 0; sub = 0 } } in
    let own : IsOwnAct setting piece (stop_at setting piece m) (Take edge) = subst (IsOwnAct setting piece (stop_at setting piece m)) is (is_own setting piece m l) in
    let uses = uses_for setting.names (edge_at setting edge).purpose in
    let counted : Counted (takes edge) (use_at setting) 0 uses (stops setting piece) =
    subst (λ (p : ℕ). Counted (takes edge) (use_at setting) 0 uses (stops setting p)) own.to (takes_counted_in setting edge own.known) in
    let passes = is_taken edge (stop_at setting piece m).act is in
    let front = used_at (takes edge) (use_at setting) 0 (stops setting piece) m d counted.uses l passes in
    let less = below_all (takes edge) (stops setting piece) m d l passes in
    let total = counted.total in
    record { before = front_count setting piece m (is_take edge) ∙ omega arith; below = omega arith }

-- ALL USES

script_count : (setting : Setting) (piece : ℕ) (test : Act → Bool) → count_by test (script setting piece) ≡ count_by (λ (stop : Stop). test stop.act) (stops setting piece)
script_count setting piece test = count_map test (λ (stop : Stop). stop.act) (stops setting piece)

posts_all : (setting : Setting) (edge piece : ℕ) → edge < length (edges_of setting)
    → count_by (is_post edge) (script setting piece) ≡ cond (eqb piece (edge_at setting edge).from) (uses_for setting.names (edge_at setting edge).purpose) 0
posts_all setting edge piece l =
    let from = (edge_at setting edge).from in
    let uses = uses_for setting.names (edge_at setting edge).purpose in
    script_count setting piece (is_post edge)
    ∙ ⊎_elim
    (λ same.
    let counted : Counted (posts edge) (use_at setting) 0 uses (stops setting piece) =
    subst (λ (p : ℕ). Counted (posts edge) (use_at setting) 0 uses (stops setting p)) (sym same) (posts_counted_in setting edge l) in
    let total = counted.total in
    let all : count_by (posts edge) (stops setting piece) ≡ uses = omega arith in
    all ∙ sym (cond-true (eqb piece from) uses 0 (eq-eqb piece from same)))
    (λ differ. no_posts setting piece edge l (λ e. differ (sym e)) ∙ sym (cond-false (eqb piece from) uses 0 (ne_eqb piece from differ)))
    (cases_eq piece from)

takes_all : (setting : Setting) (edge piece : ℕ) → edge < length (edges_of setting)
    → count_by (is_take edge) (script setting piece) ≡ cond (eqb piece (edge_at setting edge).to) (uses_for setting.names (edge_at setting edge).purpose) 0
takes_all setting edge piece l =
    let to = (edge_at setting edge).to in
    let uses = uses_for setting.names (edge_at setting edge).purpose in
    script_count setting piece (is_take edge)
    ∙ ⊎_elim
    (λ same.
    let counted : Counted (takes edge) (use_at setting) 0 uses (stops setting piece) =
    subst (λ (p : ℕ). Counted (takes edge) (use_at setting) 0 uses (stops setting p)) (sym same) (takes_counted_in setting edge l) in
    let total = counted.total in
    let all : count_by (takes edge) (stops setting piece) ≡ uses = omega arith in
    all ∙ sym (cond-true (eqb piece to) uses 0 (eq-eqb piece to same)))
    (λ differ. no_takes setting piece edge l (λ e. differ (sym e)) ∙ sym (cond-false (eqb piece to) uses 0 (ne_eqb piece to differ)))
    (cases_eq piece to)

pub is_used : (setting : Setting) (edge : ℕ) → edge < length (edges_of setting) → IsUsed setting edge
is_used setting edge l = record { posts = λ piece. posts_all setting edge piece l; takes = λ piece. takes_all setting edge piece l }
