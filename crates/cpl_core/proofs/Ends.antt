-- Where some run ends, every run can be continued to that end, in as many events.
use Rattle.std.proofs.Common.{◌≡◌, sym, ◌∙◌, ap, subst, ℕ, ◌+◌, List, [], ◌∷◌, length, get_or, Some, None, arith, ⊎_elim}
use Rattle.std.proofs.lemmas.Bool.{cases_eq, cases_Bool, cond-false}
use Rattle.std.proofs.lemmas.List.{get_or-map}
use Rattle.std.proofs.lemmas.Option.{slice_get_within}
use Rattle.cpl_core.specs.declared.wiring.Wires.{Wires}
use Rattle.cpl_core.specs.declared.events.Event.{Event}
use Rattle.cpl_core.specs.Wires.{IsWired, script_of}
use Rattle.cpl_core.specs.Run.{State, start, done_of, is_enabled, actor_of, happens, step, run, Leads, IsEnd}
use Rattle.cpl_core.specs.Ready.{act_of}
use Rattle.cpl_core.proofs.Counts.{has_script}
use Rattle.cpl_core.proofs.Kept.{Kept, kept_start, ready_from}
use Rattle.cpl_core.proofs.Steps.{ready_step, after_step, kept_step, first_step, kept_reached}
use Rattle.cpl_core.proofs.Diamond.{same_actor, second_step, both_orders, run_first}

-- at the end nothing is enabled
none_at_end : (wires : Wires) (last : State) (event : Event) → Kept wires last → IsEnd wires last → step wires last event ≡ None
none_at_end wires last event kept is_end = ⊎_elim
    (λ enabled.
    let next = (ready_from wires last event kept enabled).next in
    let piece = actor_of wires event in
    let known = has_script wires piece (done_of last piece) (act_of event) next in
    let done : done_of last piece ≡ length (script_of wires piece) = ap (λ (l : List ℕ). get_or l piece 0) is_end ∙ get_or-map length wires.scripts piece [] 0 known in
    absurd (omega (arith, slice_get_within (script_of wires piece) (done_of last piece) (act_of event) next)))
    (λ disabled. cond-false (is_enabled wires last event) (Some (happens wires last event)) None disabled)
    (cases_Bool (is_enabled wires last event))

-- Where a run leads to a state in which nothing is enabled, a run of one event fewer leads there after any enabled event.
one_fewer : (wires : Wires) (all : List Event) (state last after : State) (event : Event) → IsWired wires → Kept wires state → run wires state all ≡ Some last → ((other : Event) → step wires last other ≡ None) → step wires state event ≡ Some after → (rest : List Event) × (run wires after rest ≡ Some last) × (length all ≡ length rest + 1)
one_fewer wires [] state last after event wired kept leads stuck is =
    let same : state ≡ last = cc in
    let none : step wires state event ≡ None = subst (λ (s : State). step wires s event ≡ None) (sym same) (stuck event) in
    let never : None ≡ Some after = sym none ∙ is in
    cc
one_fewer wires (first ∷ others) state last after event wired kept leads stuck is =
    let begin = first_step wires state last first others leads in
    let next = begin.0 in
    let ready_first = ready_step wires state next first kept begin.1 in
    let ready_event = ready_step wires state after event kept is in
    ⊎_elim
    (λ same.
    let one = same_actor wires state first event ready_first ready_event same in
    let taken : Some next ≡ Some after = sym begin.1 ∙ (ap (step wires state) one ∙ is) in
    let equal : next ≡ after = cc in (
      others,
      subst (λ (s : State). run wires s others ≡ Some last) equal begin.2,
      omega arith,
    ))
    (λ differ.
    let to_next = after_step wires state next first begin.1 in
    let to_after = after_step wires state after event is in
    let met = happens wires (happens wires state first) event in
    let met_here : step wires next event ≡ Some met = subst (λ (s : State). step wires s event ≡ Some met) to_next (second_step wires state first event wired kept ready_first ready_event differ) in
    let met_there : step wires after first ≡ Some met = subst (λ (s : State). step wires s first ≡ Some met) to_after (second_step wires state event first wired kept ready_event ready_first (λ same. differ (sym same)) ∙ ap (λ (s : State). Some s) (sym (both_orders wires state first event))) in
    let fewer = one_fewer wires others next last met event wired (kept_step wires state next first wired kept begin.1) begin.2 stuck met_here in (
      first ∷ fewer.0,
      run_first wires after met first fewer.0 met_there ∙ fewer.1,
      (let count = fewer.2 in omega arith),
    ))
    (cases_eq (actor_of wires first) (actor_of wires event))

-- So it does after any run.
rest_after : (wires : Wires) (events all : List Event) (state last now : State) → IsWired wires → Kept wires state → run wires state all ≡ Some last → ((other : Event) → step wires last other ≡ None) → run wires state events ≡ Some now → (rest : List Event) × (run wires now rest ≡ Some last) × (length events + length rest ≡ length all)
rest_after wires [] all state last now wired kept leads stuck is =
    let same : state ≡ now = cc in (all, subst (λ (s : State). run wires s all ≡ Some last) same leads, omega arith)
rest_after wires (event ∷ events) all state last now wired kept leads stuck is =
    let begin = first_step wires state now event events is in
    let fewer = one_fewer wires all state last begin.0 event wired kept leads stuck begin.1 in
    let rest = rest_after wires events fewer.0 begin.0 last now wired (kept_step wires state begin.0 event wired kept begin.1) fewer.1 stuck begin.2 in
    (rest.0, rest.1, let one = fewer.2 in let more = rest.2 in omega arith)

-- every run can be continued to the end that some run reaches
pub continues : (wires : Wires) (all events : List Event) (last now : State) → IsWired wires → Leads wires all last → IsEnd wires last → Leads wires events now → (rest : List Event) × (run wires now rest ≡ Some last) × (length events + length rest ≡ length all)
continues wires all events last now wired leads is_end is =
    let kept = kept_reached wires all last wired leads in
    rest_after wires events all (start wires) last now wired (kept_start wires) leads (λ other. none_at_end wires last other kept is_end) is

-- a run that can't be continued has arrived there
pub arrives : (wires : Wires) (all events : List Event) (last now : State) → IsWired wires → Leads wires all last → IsEnd wires last → Leads wires events now → ((event : Event) → step wires now event ≡ None) → (now ≡ last) × (length events ≡ length all)
arrives wires all events last now wired leads is_end is stuck =
    let rest = continues wires all events last now wired leads is_end is in
    nothing rest.0 rest.1 rest.2
  where
    nothing : (rest : List Event) → run wires now rest ≡ Some last → length events + length rest ≡ length all → (now ≡ last) × (length events ≡ length all)
    nothing [] goes count = ((let same : now ≡ last = cc in same), omega arith)
    nothing (event ∷ rest) goes count =
        let begin = first_step wires now last event rest goes in
        let never : None ≡ Some begin.0 = sym (stuck event) ∙ begin.1 in
        cc
