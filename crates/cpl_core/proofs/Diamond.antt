-- Two different enabled events: each stays enabled after the other, and both orders lead to the same state.
use Rattle.std.proofs.Common.{◌≡◌, refl, sym, ◌∙◌, ap, subst, ℕ, ◌+◌, ◌%◌, true, eqb, ltb, cond, List, [], ◌∷◌, get_or, Option, Some, None, ⊎_elim}
use Rattle.std.specs.Prelude.{◌≢◌, option_and_then}
use Rattle.std.proofs.Math.ListN.{set}
use Rattle.std.proofs.lemmas.Bool.{cases_eq, cond-true}
use Rattle.std.proofs.lemmas.List.{set_comm, get_or-set_other}
use Rattle.cpl_core.specs.declared.wiring.Act.{Act}
use Rattle.cpl_core.specs.declared.wiring.Act.TheVariants as act
use Rattle.cpl_core.specs.declared.wiring.Wires.{Wires}
use Rattle.cpl_core.specs.declared.events.Event.{Event}
use Rattle.cpl_core.specs.declared.events.Event.TheVariants.{ClaimPost, Publish, ClaimTake, Release, Compute}
use Rattle.cpl_core.specs.Wires.{IsWired, poster_of, taker_of}
use Rattle.cpl_core.specs.Run.{State, word_of, next_of, is_enabled, one_more, actor_of, happens, step, run}
use Rattle.cpl_core.specs.Ready.{act_of, IsPhase, Ready}
use Rattle.cpl_core.proofs.Kept.{Kept, ready_from, enabled_from, next_stays}
use Rattle.cpl_core.proofs.Steps.{kept_ready}

-- the edge whose word an event raises
edge_of : Event → Option ℕ
edge_of (ClaimPost edge) = Some edge
edge_of (Publish edge) = Some edge
edge_of (ClaimTake edge) = Some edge
edge_of (Release edge) = Some edge
edge_of (Compute piece) = None

-- the piece whose action an event ends
ended_by : Wires → Event → Option ℕ
ended_by wires (ClaimPost edge) = None
ended_by wires (Publish edge) = Some (poster_of wires edge)
ended_by wires (ClaimTake edge) = None
ended_by wires (Release edge) = Some (taker_of wires edge)
ended_by wires (Compute piece) = Some piece

-- one more at a place, if there is one
more_at : Option ℕ → List ℕ → List ℕ
more_at None numbers = numbers
more_at (Some place) numbers = one_more numbers place

changed : Wires → State → Event → State
changed wires state event = record { words = more_at (edge_of event) state.words; done = more_at (ended_by wires event) state.done }

as_changed : (wires : Wires) (state : State) (event : Event) → happens wires state event ≡ changed wires state event
unfolding changed more_at edge_of ended_by
as_changed wires state (ClaimPost edge) = refl
as_changed wires state (Publish edge) = refl
as_changed wires state (ClaimTake edge) = refl
as_changed wires state (Release edge) = refl
as_changed wires state (Compute piece) = refl

-- two raises, in both orders

one_more_comm : (numbers : List ℕ) (i j : ℕ) → one_more (one_more numbers i) j ≡ one_more (one_more numbers j) i
one_more_comm numbers i j = ⊎_elim
    (λ same. subst (λ (k : ℕ). one_more (one_more numbers i) k ≡ one_more (one_more numbers k) i) same refl)
    (λ differ.
    let at_i = get_or numbers i 0 + 1 in
    let at_j = get_or numbers j 0 + 1 in
    ap (λ (n : ℕ). set (set numbers i at_i) j (n + 1)) (get_or-set_other numbers i j at_i 0 (λ e. differ (sym e)))
    ∙ (set_comm numbers i j at_i at_j differ
    ∙ sym (ap (λ (n : ℕ). set (set numbers j at_j) i (n + 1)) (get_or-set_other numbers j i at_j 0 differ))))
    (cases_eq i j)

more_at_comm : (a b : Option ℕ) (numbers : List ℕ) → more_at a (more_at b numbers) ≡ more_at b (more_at a numbers)
unfolding more_at
more_at_comm None b numbers = refl
more_at_comm (Some i) None numbers = refl
more_at_comm (Some i) (Some j) numbers = one_more_comm numbers j i

-- any two events change the same in both orders
pub both_orders : (wires : Wires) (state : State) (a b : Event) → happens wires (happens wires state a) b ≡ happens wires (happens wires state b) a
unfolding changed
both_orders wires state a b =
    rw (as_changed wires state a, as_changed wires state b, as_changed wires (changed wires state a) b, as_changed wires (changed wires state b) a)
    (let words = more_at_comm (edge_of b) (edge_of a) state.words in let done = more_at_comm (ended_by wires b) (ended_by wires a) state.done in cc)

-- a piece has one enabled event at most, and so has an edge

-- the only event that a piece may have, by its next action and the word there
only_event : ℕ → Act → (ℕ → ℕ) → Event
only_event piece (act.Post edge) word = cond (eqb (word edge % 4) 0) (ClaimPost edge) (Publish edge)
only_event piece (act.Take edge) word = cond (eqb (word edge % 4) 2) (ClaimTake edge) (Release edge)
only_event piece act.Compute word = Compute piece

is_only : (wires : Wires) (state : State) (event : Event) → Ready wires state event → event ≡ only_event (actor_of wires event) (act_of event) (word_of state)
unfolding only_event
is_only wires state (ClaimPost edge) ready = ap (λ (n : ℕ). cond (eqb n 0) (ClaimPost edge) (Publish edge)) (sym ready.phase)
is_only wires state (Publish edge) ready = ap (λ (n : ℕ). cond (eqb n 0) (ClaimPost edge) (Publish edge)) (sym ready.phase)
is_only wires state (ClaimTake edge) ready = ap (λ (n : ℕ). cond (eqb n 2) (ClaimTake edge) (Release edge)) (sym ready.phase)
is_only wires state (Release edge) ready = ap (λ (n : ℕ). cond (eqb n 2) (ClaimTake edge) (Release edge)) (sym ready.phase)
is_only wires state (Compute piece) ready = refl

-- events that are ready and have one piece are one event
pub same_actor : (wires : Wires) (state : State) (a b : Event) → Ready wires state a → Ready wires state b → actor_of wires a ≡ actor_of wires b → a ≡ b
same_actor wires state a b first second same =
    let acts : Some (act_of a) ≡ Some (act_of b) = sym first.next ∙ (ap (next_of wires state) same ∙ second.next) in
    let one : act_of a ≡ act_of b = cc in
    is_only wires state a first ∙ (ap (λ (piece : ℕ). only_event piece (act_of a) (word_of state)) same ∙ (ap (λ (action : Act). only_event (actor_of wires b) action (word_of state)) one ∙ sym (is_only wires state b second)))

-- an edge's word tells which of its pieces acts
edge_actor : (wires : Wires) (state : State) (event : Event) (edge : ℕ) → Ready wires state event → edge_of event ≡ Some edge → actor_of wires event ≡ cond (ltb (word_of state edge % 4) 2) (poster_of wires edge) (taker_of wires edge)
unfolding edge_of
edge_actor wires state (ClaimPost one) edge ready is =
    let same : one ≡ edge = cc in
    subst (λ (e : ℕ). poster_of wires one ≡ cond (ltb (word_of state e % 4) 2) (poster_of wires e) (taker_of wires e)) same (ap (λ (n : ℕ). cond (ltb n 2) (poster_of wires one) (taker_of wires one)) (sym ready.phase))
edge_actor wires state (Publish one) edge ready is =
    let same : one ≡ edge = cc in
    subst (λ (e : ℕ). poster_of wires one ≡ cond (ltb (word_of state e % 4) 2) (poster_of wires e) (taker_of wires e)) same (ap (λ (n : ℕ). cond (ltb n 2) (poster_of wires one) (taker_of wires one)) (sym ready.phase))
edge_actor wires state (ClaimTake one) edge ready is =
    let same : one ≡ edge = cc in
    subst (λ (e : ℕ). taker_of wires one ≡ cond (ltb (word_of state e % 4) 2) (poster_of wires e) (taker_of wires e)) same (ap (λ (n : ℕ). cond (ltb n 2) (poster_of wires one) (taker_of wires one)) (sym ready.phase))
edge_actor wires state (Release one) edge ready is =
    let same : one ≡ edge = cc in
    subst (λ (e : ℕ). taker_of wires one ≡ cond (ltb (word_of state e % 4) 2) (poster_of wires e) (taker_of wires e)) same (ap (λ (n : ℕ). cond (ltb n 2) (poster_of wires one) (taker_of wires one)) (sym ready.phase))
edge_actor wires state (Compute piece) edge ready is = cc

-- each stays enabled after the other

word_stays : (o : Option ℕ) (numbers : List ℕ) (edge : ℕ) → o ≢ Some edge → get_or (more_at o numbers) edge 0 ≡ get_or numbers edge 0
unfolding more_at
word_stays None numbers edge differ = refl
word_stays (Some other) numbers edge differ = get_or-set_other numbers other edge (get_or numbers other 0 + 1) 0 (λ same. differ (ap (λ (e : ℕ). Some e) (sym same)))

phase_stays : (state after : State) (event : Event) → ((edge : ℕ) → edge_of event ≡ Some edge → word_of after edge ≡ word_of state edge) → IsPhase state event → IsPhase after event
unfolding edge_of
phase_stays state after (ClaimPost edge) same phase = ap (λ (n : ℕ). n % 4) (same edge refl) ∙ phase
phase_stays state after (Publish edge) same phase = ap (λ (n : ℕ). n % 4) (same edge refl) ∙ phase
phase_stays state after (ClaimTake edge) same phase = ap (λ (n : ℕ). n % 4) (same edge refl) ∙ phase
phase_stays state after (Release edge) same phase = ap (λ (n : ℕ). n % 4) (same edge refl) ∙ phase
phase_stays state after (Compute piece) same phase = tt

next_same : (wires : Wires) (state : State) (event : Event) (piece : ℕ) → piece ≢ actor_of wires event → next_of wires (happens wires state event) piece ≡ next_of wires state piece
next_same wires state (ClaimPost edge) piece differ = refl
next_same wires state (Publish edge) piece differ = next_stays wires state (happens wires state (Publish edge)) (poster_of wires edge) piece refl differ
next_same wires state (ClaimTake edge) piece differ = refl
next_same wires state (Release edge) piece differ = next_stays wires state (happens wires state (Release edge)) (taker_of wires edge) piece refl differ
next_same wires state (Compute other) piece differ = next_stays wires state (happens wires state (Compute other)) other piece refl differ

raised_word : (wires : Wires) (state : State) (event : Event) (edge : ℕ) → word_of (changed wires state event) edge ≡ get_or (more_at (edge_of event) state.words) edge 0
unfolding changed
raised_word wires state event edge = refl

word_same : (wires : Wires) (state : State) (event : Event) (edge : ℕ) → edge_of event ≢ Some edge → word_of (happens wires state event) edge ≡ word_of state edge
word_same wires state event edge differ =
    ap (λ (s : State). word_of s edge) (as_changed wires state event) ∙ (raised_word wires state event edge ∙ word_stays (edge_of event) state.words edge differ)

ready_after : (wires : Wires) (state : State) (a b : Event) → Ready wires state a → Ready wires state b → actor_of wires a ≢ actor_of wires b → Ready wires (happens wires state a) b
ready_after wires state a b first second differ =
    let others : (edge : ℕ) → edge_of b ≡ Some edge → edge_of a ≢ Some edge = λ edge is same. differ (edge_actor wires state a edge first same ∙ sym (edge_actor wires state b edge second is)) in
    record {
      next = next_same wires state a (actor_of wires b) (λ same. differ (sym same)) ∙ second.next;
      phase = phase_stays state (happens wires state a) b (λ edge is. word_same wires state a edge (others edge is)) second.phase;
    }

-- where an event is enabled, its step is what it changes
pub steps : (wires : Wires) (state : State) (event : Event) → is_enabled wires state event ≡ true → step wires state event ≡ Some (happens wires state event)
steps wires state event enabled = cond-true (is_enabled wires state event) (Some (happens wires state event)) None enabled

-- the second of two events that are ready and have different pieces is enabled after the first
pub second_step : (wires : Wires) (state : State) (a b : Event) → IsWired wires → Kept wires state → Ready wires state a → Ready wires state b → actor_of wires a ≢ actor_of wires b → step wires (happens wires state a) b ≡ Some (happens wires (happens wires state a) b)
second_step wires state a b wired kept first second differ =
    let after = happens wires state a in
    steps wires after b (enabled_from wires after b wired (kept_ready wires state a wired kept first) (ready_after wires state a b first second differ))

-- a run goes on with its first event
pub run_first : (wires : Wires) (state after : State) (event : Event) (events : List Event) → step wires state event ≡ Some after → run wires state (event ∷ events) ≡ run wires after events
run_first wires state after event events is = ap (λ (o : Option State). option_and_then (λ next. run wires next events) o) is

-- both orders of two different enabled events lead to one state
pub diamond : (wires : Wires) (state : State) (a b : Event) → IsWired wires → Kept wires state → a ≢ b → is_enabled wires state a ≡ true → is_enabled wires state b ≡ true → (last : State) × (run wires state (a ∷ b ∷ []) ≡ Some last) × (run wires state (b ∷ a ∷ []) ≡ Some last)
diamond wires state a b wired kept differ first second =
    let ready_a = ready_from wires state a kept first in
    let ready_b = ready_from wires state b kept second in
    let apart : actor_of wires a ≢ actor_of wires b = λ same. differ (same_actor wires state a b ready_a ready_b same) in
    let a_then_b = run_first wires state (happens wires state a) a (b ∷ []) (steps wires state a first) ∙ run_first wires (happens wires state a) (happens wires (happens wires state a) b) b [] (second_step wires state a b wired kept ready_a ready_b apart) in
    let b_then_a = run_first wires state (happens wires state b) b (a ∷ []) (steps wires state b second) ∙ run_first wires (happens wires state b) (happens wires (happens wires state b) a) a [] (second_step wires state b a wired kept ready_b ready_a (λ same. apart (sym same))) in (
      happens wires (happens wires state a) b,
      a_then_b,
      b_then_a ∙ ap (λ (s : State). Some s) (sym (both_orders wires state a b)),
    )
