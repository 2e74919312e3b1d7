-- What the calls of a run need of a state that is reached.
use Rattle.std.proofs.Common.{◌≡◌, sym, ◌∙◌, ap, ℕ, ◌^◌, ◌<◌, List, [], ◌∷◌, ◌++◌, length, Option, Some, None, arith, ⊎_elim}
use Rattle.std.specs.Prelude.{IfSome}
use Rattle.std.proofs.lemmas.Bool.{cases_lt, cases_Bool, cond-false}
use Rattle.std.proofs.lemmas.List.{get_or_past}
use Rattle.std.proofs.lemmas.Option.{slice_get_within}
use Rattle.cpl_core.specs.declared.wiring.Act.{Act}
use Rattle.cpl_core.specs.declared.wiring.Act.TheVariants as act
use Rattle.cpl_core.specs.declared.wiring.Wires.{Wires}
use Rattle.cpl_core.specs.declared.events.Event.{Event}
use Rattle.cpl_core.specs.declared.events.Event.TheVariants.{ClaimPost, Publish, ClaimTake, Release, Compute}
use Rattle.cpl_core.specs.Wires.{IsWired, poster_of, taker_of, script_of}
use Rattle.cpl_core.specs.Run.{State, start, word_of, done_of, next_of, actor_of, is_enabled, happens, step, run, IsReached, IsInRange}
use Rattle.cpl_core.specs.Ready.{act_of, IsPhase, Ready, HasPlace}
use Rattle.cpl_core.proofs.Counts.{posts_there, takes_there}
use Rattle.cpl_core.proofs.Kept.{Kept, ready_from, enabled_from}
use Rattle.cpl_core.proofs.Steps.{first_step, keeps_word}
use Rattle.cpl_core.proofs.Diamond.{steps, run_first}

-- the piece that posts next there is the poster
pub is_poster : (wires : Wires) (state : State) (edge : ℕ) (found : Option ℕ) → IsWired wires → IfSome found (λ piece. next_of wires state piece ≡ Some (act.Post edge)) → IfSome found (λ piece. (piece ≡ poster_of wires edge) × (next_of wires state piece ≡ Some (act.Post edge)))
is_poster wires state edge None wired is = tt
is_poster wires state edge (Some piece) wired is = ((posts_there wires piece (done_of state piece) edge wired is).1, is)

-- the piece that takes next there is the taker
pub is_taker : (wires : Wires) (state : State) (edge : ℕ) (found : Option ℕ) → IsWired wires → IfSome found (λ piece. next_of wires state piece ≡ Some (act.Take edge)) → IfSome found (λ piece. (piece ≡ taker_of wires edge) × (next_of wires state piece ≡ Some (act.Take edge)))
is_taker wires state edge None wired is = tt
is_taker wires state edge (Some piece) wired is = ((takes_there wires piece (done_of state piece) edge wired is).1, is)

pub has_place : (wires : Wires) (state : State) (event : Event) → Kept wires state → IsInRange wires event → HasPlace state event
has_place wires state (ClaimPost edge) kept below = omega (arith, kept.words_len)
has_place wires state (Publish edge) kept below = omega (arith, kept.words_len)
has_place wires state (ClaimTake edge) kept below = omega (arith, kept.words_len)
has_place wires state (Release edge) kept below = omega (arith, kept.words_len)
has_place wires state (Compute piece) kept below = omega (arith, kept.done_len)

-- no word comes near the end of its type
pub word_fits : (wires : Wires) (state : State) (edge : ℕ) → IsWired wires → Kept wires state → word_of state edge < 2 ^ 63
word_fits wires state edge wired kept = ⊎_elim
    (λ below.
    let known : edge < length wires.channels = omega (arith, kept.words_len) in
    omega (arith, (keeps_word wires state edge wired kept known).most, (wired.channels edge known).most))
    (λ past. let none : word_of state edge ≡ 0 = get_or_past state.words edge 0 past in omega arith)
    (cases_lt edge (length state.words))

-- nor does a number of actions that isn't its script's
pub done_fits : (wires : Wires) (state : State) (piece : ℕ) (action : Act) → IsWired wires → next_of wires state piece ≡ Some action → done_of state piece < 2 ^ 63
done_fits wires state piece action wired next = omega (arith, slice_get_within (script_of wires piece) (done_of state piece) action next, wired.short piece)

-- a run goes on with one event more
run_more : (wires : Wires) (events : List Event) (state last after : State) (event : Event) → run wires state events ≡ Some last → step wires last event ≡ Some after → run wires state (events ++ event ∷ []) ≡ Some after
run_more wires [] state last after event goes is =
    let same : state ≡ last = cc in
    run_first wires state after event [] (ap (λ (s : State). step wires s event) same ∙ is)
run_more wires (first ∷ events) state last after event goes is =
    let begin = first_step wires state last first events goes in
    run_first wires state begin.0 first (events ++ event ∷ []) begin.1 ∙ run_more wires events begin.0 last after event begin.2 is

pub reached_more : (wires : Wires) (state after : State) (event : Event) → IsReached wires state → step wires state event ≡ Some after → IsReached wires after
reached_more wires state after event reached is = (reached.0 ++ event ∷ [], run_more wires reached.0 (start wires) state after event reached.1 is)

-- where the action is next and the word allows the event, it is the step
pub ready_steps : (wires : Wires) (state : State) (event : Event) (piece : ℕ) → IsWired wires → Kept wires state → piece ≡ actor_of wires event → next_of wires state piece ≡ Some (act_of event) → IsPhase state event → step wires state event ≡ Some (happens wires state event)
ready_steps wires state event piece wired kept is next phase =
    steps wires state event (enabled_from wires state event wired kept (record { next = ap (next_of wires state) (sym is) ∙ next; phase = phase }))

-- where the one or the other fails, there is no step
pub no_step : (wires : Wires) (state : State) (event : Event) → Kept wires state → (Ready wires state event → ⊥) → step wires state event ≡ None
no_step wires state event kept not_ready = ⊎_elim
    (λ enabled. absurd (not_ready (ready_from wires state event kept enabled)))
    (λ disabled. cond-false (is_enabled wires state event) (Some (happens wires state event)) None disabled)
    (cases_Bool (is_enabled wires state event))
