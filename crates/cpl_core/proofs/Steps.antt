-- Each enabled event keeps what agrees, so every run does.
use Rattle.std.proofs.Common.{◌≡◌, refl, sym, ◌∙◌, subst, ℕ, ◌+◌, ◌*◌, ◌%◌, ◌<◌, ◌≤◌, true, false, eqb, List, [], ◌∷◌, length, Option, Some, None, arith, ⊎_elim}
use Rattle.std.specs.Prelude.{◌≢◌, option_and_then}
use Rattle.std.proofs.lemmas.Bool.{cases_eq, eq-eqb, ne_eqb, cases_Bool, cond-true, cond-false}
use Rattle.std.proofs.lemmas.List.{length-set}
use Rattle.cpl_core.specs.declared.wiring.Act.{Act}
use Rattle.cpl_core.specs.declared.wiring.Act.TheVariants as act
use Rattle.cpl_core.specs.declared.wiring.Wires.{Wires}
use Rattle.cpl_core.specs.declared.events.Event.{Event}
use Rattle.cpl_core.specs.declared.events.Event.TheVariants.{ClaimPost, Publish, ClaimTake, Release, Compute}
use Rattle.cpl_core.specs.Wires.{IsWired, poster_of, taker_of, uses_of, script_of, is_post, is_take}
use Rattle.cpl_core.specs.Run.{State, start, word_of, done_of, next_of, posts_made, takes_made, is_enabled, happens, step, run, Leads, KeepsWord}
use Rattle.cpl_core.specs.Ready.{Ready}
use Rattle.cpl_core.proofs.Counts.{count_front, count_before, has_script, posts_there, takes_there}
use Rattle.cpl_core.proofs.Kept.{KeptAt, Kept, kept_start, ready_from, raised_at, raised_elsewhere, kept_claim, made_more, made_stays, kept_apart}

-- another edge than the ended action's
other_post : (edge other : ℕ) → other ≢ edge → is_post other (act.Post edge) ≡ false
other_post edge other differ = ne_eqb edge other (λ same. differ (sym same))

other_take : (edge other : ℕ) → other ≢ edge → is_take other (act.Take edge) ≡ false
other_take edge other differ = ne_eqb edge other (λ same. differ (sym same))

-- the piece of an action is one of the wiring's
acts : (wires : Wires) (state : State) (piece : ℕ) (action : Act) → Kept wires state → next_of wires state piece ≡ Some action → piece < length state.done
acts wires state piece action kept next = omega (arith, kept.done_len, has_script wires piece (done_of state piece) action next)

kept_publish : (wires : Wires) (state : State) (edge : ℕ) → IsWired wires → Kept wires state → Ready wires state (Publish edge) → Kept wires (happens wires state (Publish edge))
kept_publish wires state edge wired kept ready =
    let piece = poster_of wires edge in
    let after : State = happens wires state (Publish edge) in
    let below = (posts_there wires piece (done_of state piece) edge wired ready.next).0 in
    let is = acts wires state piece (act.Post edge) kept ready.next in
    record {
      words_len = length-set state.words edge (word_of state edge + 1) ∙ kept.words_len;
      done_len = length-set state.done piece (done_of state piece + 1) ∙ kept.done_len;
      each = λ other known. ⊎_elim
          (λ same. subst (KeptAt wires after) (sym same) (
          let word : word_of after edge ≡ word_of state edge + 1 = raised_at state edge (omega (arith, kept.words_len)) in
          let was = kept.each edge below in
          let phase = ready.phase in
          let posts = was.posts in
          let takes = was.takes in
          let more : posts_made wires after edge ≡ posts_made wires state edge + 1 = made_more (is_post edge) wires state after piece (act.Post edge) refl is ready.next (eq-eqb edge edge refl) in
          let stays : takes_made wires after edge ≡ takes_made wires state edge = made_stays (is_take edge) wires state after piece (taker_of wires edge) (act.Post edge) refl is ready.next refl in
          record {
            posts = omega arith;
            takes = omega arith;
            posting = λ odd. absurd (omega arith);
            taking = λ odd. absurd (omega arith);
          }))
          (λ differ. kept_apart wires state after piece other (act.Post edge) refl is ready.next (other_post edge other differ) refl (raised_elsewhere state edge other differ) (kept.each other known))
          (cases_eq other edge);
    }

kept_release : (wires : Wires) (state : State) (edge : ℕ) → IsWired wires → Kept wires state → Ready wires state (Release edge) → Kept wires (happens wires state (Release edge))
kept_release wires state edge wired kept ready =
    let piece = taker_of wires edge in
    let after : State = happens wires state (Release edge) in
    let below = (takes_there wires piece (done_of state piece) edge wired ready.next).0 in
    let is = acts wires state piece (act.Take edge) kept ready.next in
    record {
      words_len = length-set state.words edge (word_of state edge + 1) ∙ kept.words_len;
      done_len = length-set state.done piece (done_of state piece + 1) ∙ kept.done_len;
      each = λ other known. ⊎_elim
          (λ same. subst (KeptAt wires after) (sym same) (
          let word : word_of after edge ≡ word_of state edge + 1 = raised_at state edge (omega (arith, kept.words_len)) in
          let was = kept.each edge below in
          let phase = ready.phase in
          let posts = was.posts in
          let takes = was.takes in
          let more : takes_made wires after edge ≡ takes_made wires state edge + 1 = made_more (is_take edge) wires state after piece (act.Take edge) refl is ready.next (eq-eqb edge edge refl) in
          let stays : posts_made wires after edge ≡ posts_made wires state edge = made_stays (is_post edge) wires state after piece (poster_of wires edge) (act.Take edge) refl is ready.next refl in
          record {
            posts = omega arith;
            takes = omega arith;
            posting = λ odd. absurd (omega arith);
            taking = λ odd. absurd (omega arith);
          }))
          (λ differ. kept_apart wires state after piece other (act.Take edge) refl is ready.next refl (other_take edge other differ) (raised_elsewhere state edge other differ) (kept.each other known))
          (cases_eq other edge);
    }

-- an event that is ready keeps what agrees
pub kept_ready : (wires : Wires) (state : State) (event : Event) → IsWired wires → Kept wires state → Ready wires state event → Kept wires (happens wires state event)
kept_ready wires state (ClaimPost edge) wired kept ready =
    let phase = ready.phase in
    kept_claim wires state edge kept (posts_there wires (poster_of wires edge) (done_of state (poster_of wires edge)) edge wired ready.next).0 (omega arith) (λ even. ready.next) (λ full. absurd (omega arith))
kept_ready wires state (Publish edge) wired kept ready = kept_publish wires state edge wired kept ready
kept_ready wires state (ClaimTake edge) wired kept ready =
    let phase = ready.phase in
    kept_claim wires state edge kept (takes_there wires (taker_of wires edge) (done_of state (taker_of wires edge)) edge wired ready.next).0 (omega arith) (λ even. absurd (omega arith)) (λ full. ready.next)
kept_ready wires state (Release edge) wired kept ready = kept_release wires state edge wired kept ready
kept_ready wires state (Compute piece) wired kept ready = record {
  words_len = kept.words_len;
  done_len = length-set state.done piece (done_of state piece + 1) ∙ kept.done_len;
  each = λ edge known. kept_apart wires state (happens wires state (Compute piece)) piece edge act.Compute refl (acts wires state piece act.Compute kept ready.next) ready.next refl refl refl (kept.each edge known);
}

-- one step

some_step : (wires : Wires) (state after : State) (event : Event) → step wires state event ≡ Some after → (is_enabled wires state event ≡ true) × (happens wires state event ≡ after)
some_step wires state after event is = ⊎_elim
    (λ enabled. (enabled, let same : Some (happens wires state event) ≡ Some after = sym (cond-true (is_enabled wires state event) (Some (happens wires state event)) None enabled) ∙ is in cc))
    (λ disabled. let none : None ≡ Some after = sym (cond-false (is_enabled wires state event) (Some (happens wires state event)) None disabled) ∙ is in cc)
    (cases_Bool (is_enabled wires state event))

pub ready_step : (wires : Wires) (state after : State) (event : Event) → Kept wires state → step wires state event ≡ Some after → Ready wires state event
ready_step wires state after event kept is = ready_from wires state event kept (some_step wires state after event is).0

pub after_step : (wires : Wires) (state after : State) (event : Event) → step wires state event ≡ Some after → happens wires state event ≡ after
after_step wires state after event is = (some_step wires state after event is).1

pub kept_step : (wires : Wires) (state after : State) (event : Event) → IsWired wires → Kept wires state → step wires state event ≡ Some after → Kept wires after
kept_step wires state after event wired kept is = subst (Kept wires) (after_step wires state after event is) (kept_ready wires state event wired kept (ready_step wires state after event kept is))

-- a run, one event after the other

-- the first event of a run, and the run after it
pub first_step : (wires : Wires) (state last : State) (event : Event) (events : List Event) → run wires state (event ∷ events) ≡ Some last → (after : State) × (step wires state event ≡ Some after) × (run wires after events ≡ Some last)
first_step wires state last event events is = found (step wires state event) refl is
  where
    found : (taken : Option State) → step wires state event ≡ taken → option_and_then (λ after. run wires after events) taken ≡ Some last → (after : State) × (step wires state event ≡ Some after) × (run wires after events ≡ Some last)
    found None same goes = let none : None ≡ Some last = goes in cc
    found (Some after) same goes = (after, same, goes)

pub kept_run : (wires : Wires) (events : List Event) (state last : State) → IsWired wires → Kept wires state → run wires state events ≡ Some last → Kept wires last
kept_run wires [] state last wired kept is = let same : state ≡ last = cc in subst (Kept wires) same kept
kept_run wires (event ∷ events) state last wired kept is =
    let first = first_step wires state last event events is in
    kept_run wires events first.0 last wired (kept_step wires state first.0 event wired kept first.1) first.2

-- every state that is reached
pub kept_reached : (wires : Wires) (events : List Event) (state : State) → IsWired wires → Leads wires events state → Kept wires state
kept_reached wires events state wired leads = kept_run wires events (start wires) state wired (kept_start wires) leads

-- what a word tells there
pub keeps_word : (wires : Wires) (state : State) (edge : ℕ) → IsWired wires → Kept wires state → edge < length wires.channels → KeepsWord wires state edge
keeps_word wires state edge wired kept below =
    let at = kept.each edge below in
    let channel = wired.channels edge below in
    let poster = poster_of wires edge in
    let taker = taker_of wires edge in
    let uses = uses_of wires edge in
    let all : posts_made wires state edge ≤ uses = omega (arith, count_front (is_post edge) (script_of wires poster) (done_of state poster), channel.posts poster ∙ cond-true (eqb poster poster) uses 0 (eq-eqb poster poster refl)) in
    let fewer : word_of state edge % 4 ≡ 1 → posts_made wires state edge + 1 ≤ uses = λ odd. omega (arith, count_before (is_post edge) (script_of wires poster) (done_of state poster) (act.Post edge) (at.posting odd) (eq-eqb edge edge refl), channel.posts poster ∙ cond-true (eqb poster poster) uses 0 (eq-eqb poster poster refl)) in
    let posts = at.posts in
    let takes = at.takes in
    let most : word_of state edge ≤ 4 * uses = ⊎_elim (λ odd. let left = fewer odd in omega arith) (λ other. omega arith) (cases_eq (word_of state edge % 4) 1) in
    record { posts = at.posts; takes = at.takes; most = most; posting = at.posting; taking = at.taking }
