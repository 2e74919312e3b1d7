-- What every enabled event keeps.
use Rattle.std.proofs.Common.{◌≡◌, refl, sym, ◌∙◌, ap, subst, ℕ, ◌+◌, ◌/◌, ◌%◌, ◌<◌, Bool, true, false, eqb, ◌&&◌, List, take, length, get_or, replicate, Option, Some, None, count_by, arith, ⊎_elim}
use Rattle.std.specs.Prelude.{◌≢◌, slice_get}
use Rattle.std.proofs.lemmas.Bool.{cases_lt, cases_eq, eq-eqb, eqb-true, and_parts, and_from, true≢false, both_ways}
use Rattle.std.proofs.lemmas.List.{length-set, length-replicate, get_or-replicate, get_or-set_same, get_or-set_other, get_or_past}
use Rattle.cpl_core.specs.declared.wiring.Act.{Act}
use Rattle.cpl_core.specs.declared.wiring.Act.TheVariants as act
use Rattle.cpl_core.specs.declared.wiring.Wires.{Wires}
use Rattle.cpl_core.specs.declared.events.Event.{Event}
use Rattle.cpl_core.specs.declared.events.Event.TheVariants.{ClaimPost, Publish, ClaimTake, Release, Compute}
use Rattle.cpl_core.specs.Wires.{IsWired, poster_of, taker_of, script_of, is_post, is_take}
use Rattle.cpl_core.specs.Content.{posts_at, takes_at}
use Rattle.cpl_core.specs.Run.{State, start, word_of, done_of, next_of, made_by, posts_made, takes_made, is_compute, passes, is_enabled, one_more}
use Rattle.cpl_core.specs.Ready.{Ready}
use Rattle.cpl_core.proofs.Counts.{count_yes, count_no, posts_there, takes_there}

-- an edge's word and its two pieces agree
pub record KeptAt (wires : Wires) (state : State) (edge : ℕ) : Type 0 where
  pub posts : posts_made wires state edge ≡ posts_at (word_of state edge)
  pub takes : takes_made wires state edge ≡ takes_at (word_of state edge)
  pub posting : word_of state edge % 4 ≡ 1 → next_of wires state (poster_of wires edge) ≡ Some (act.Post edge)
  pub taking : word_of state edge % 4 ≡ 3 → next_of wires state (taker_of wires edge) ≡ Some (act.Take edge)

-- all edges' do, and there is a word for each edge and a number for each piece
pub record Kept (wires : Wires) (state : State) : Type 0 where
  pub words_len : length state.words ≡ length wires.channels
  pub done_len : length state.done ≡ length wires.scripts
  pub each : (edge : ℕ) → edge < length wires.channels → KeptAt wires state edge

-- the start

pub kept_start : (wires : Wires) → Kept wires (start wires)
kept_start wires =
    let edges = length wires.channels in
    let none : (piece : ℕ) → done_of (start wires) piece ≡ 0 = λ piece. ⊎_elim (λ below. get_or-replicate {A = ℕ} (length wires.scripts) piece 0 0 below) (λ past. get_or_past (replicate (length wires.scripts) 0) piece 0 (omega (arith, length-replicate {A = ℕ} (length wires.scripts) 0))) (cases_lt piece (length wires.scripts)) in
    record {
      words_len = length-replicate edges 0;
      done_len = length-replicate (length wires.scripts) 0;
      each = λ edge below.
          let word : word_of (start wires) edge ≡ 0 = get_or-replicate {A = ℕ} edges edge 0 0 below in
          record {
            posts = ap (λ (m : ℕ). count_by (is_post edge) (take m (script_of wires (poster_of wires edge)))) (none (poster_of wires edge)) ∙ sym (ap posts_at word);
            takes = ap (λ (m : ℕ). count_by (is_take edge) (take m (script_of wires (taker_of wires edge)))) (none (taker_of wires edge)) ∙ sym (ap takes_at word);
            posting = λ odd. absurd (omega arith);
            taking = λ odd. absurd (omega arith);
          };
    }

-- what an action that ends changes

ends_at : (state after : State) (piece : ℕ) → after.done ≡ one_more state.done piece → piece < length state.done → done_of after piece ≡ done_of state piece + 1
ends_at state after piece ended below = ap (λ (l : List ℕ). get_or l piece 0) ended ∙ get_or-set_same state.done piece (get_or state.done piece 0 + 1) 0 below

ends_elsewhere : (state after : State) (piece other : ℕ) → after.done ≡ one_more state.done piece → other ≢ piece → done_of after other ≡ done_of state other
ends_elsewhere state after piece other ended differ = ap (λ (l : List ℕ). get_or l other 0) ended ∙ get_or-set_other state.done piece other (get_or state.done piece 0 + 1) 0 differ

-- no other piece's next action changes
pub next_stays : (wires : Wires) (state after : State) (piece other : ℕ) → after.done ≡ one_more state.done piece → other ≢ piece → next_of wires after other ≡ next_of wires state other
next_stays wires state after piece other ended differ = ap (slice_get (script_of wires other)) (ends_elsewhere state after piece other ended differ)

pub made_more : (test : Act → Bool) (wires : Wires) (state after : State) (piece : ℕ) (action : Act) → after.done ≡ one_more state.done piece → piece < length state.done → next_of wires state piece ≡ Some action → test action ≡ true → made_by test wires after piece ≡ made_by test wires state piece + 1
made_more test wires state after piece action ended below next is_so =
    ap (λ (m : ℕ). count_by test (take m (script_of wires piece))) (ends_at state after piece ended below) ∙ count_yes test (script_of wires piece) (done_of state piece) action next is_so

pub made_stays : (test : Act → Bool) (wires : Wires) (state after : State) (piece other : ℕ) (action : Act) → after.done ≡ one_more state.done piece → piece < length state.done → next_of wires state piece ≡ Some action → test action ≡ false → made_by test wires after other ≡ made_by test wires state other
made_stays test wires state after piece other action ended below next no_such = ⊎_elim
    (λ same. subst (λ (q : ℕ). made_by test wires after q ≡ made_by test wires state q) (sym same)
    (ap (λ (m : ℕ). count_by test (take m (script_of wires piece))) (ends_at state after piece ended below) ∙ count_no test (script_of wires piece) (done_of state piece) action next no_such))
    (λ differ. ap (λ (m : ℕ). count_by test (take m (script_of wires other))) (ends_elsewhere state after piece other ended differ))
    (cases_eq other piece)

-- a piece whose next action passes the test isn't one whose next action doesn't
apart : (test : Act → Bool) (wires : Wires) (state : State) (piece other : ℕ) (action its : Act) → next_of wires state piece ≡ Some action → test action ≡ false → next_of wires state other ≡ Some its → test its ≡ true → other ≢ piece
apart test wires state piece other action its next no_such others is_so same =
    both_ways (test action) no_such (ap (passes test) (sym next ∙ (sym (ap (next_of wires state) same) ∙ others)) ∙ is_so)

-- an edge that the ended action doesn't name
pub kept_apart : (wires : Wires) (state after : State) (piece edge : ℕ) (action : Act) → after.done ≡ one_more state.done piece → piece < length state.done → next_of wires state piece ≡ Some action → is_post edge action ≡ false → is_take edge action ≡ false → word_of after edge ≡ word_of state edge → KeptAt wires state edge → KeptAt wires after edge
kept_apart wires state after piece edge action ended below next no_post no_take word kept = record {
  posts = made_stays (is_post edge) wires state after piece (poster_of wires edge) action ended below next no_post ∙ (kept.posts ∙ sym (ap posts_at word));
  takes = made_stays (is_take edge) wires state after piece (taker_of wires edge) action ended below next no_take ∙ (kept.takes ∙ sym (ap takes_at word));
  posting = λ phase.
      let was = kept.posting (omega arith) in
      next_stays wires state after piece (poster_of wires edge) ended (apart (is_post edge) wires state piece (poster_of wires edge) action (act.Post edge) next no_post was (eq-eqb edge edge refl)) ∙ was;
  taking = λ phase.
      let was = kept.taking (omega arith) in
      next_stays wires state after piece (taker_of wires edge) ended (apart (is_take edge) wires state piece (taker_of wires edge) action (act.Take edge) next no_take was (eq-eqb edge edge refl)) ∙ was;
}

-- a word that isn't the start's is a known edge's
word_known : (wires : Wires) (state : State) (edge : ℕ) → Kept wires state → 0 < word_of state edge → edge < length wires.channels
word_known wires state edge kept above = ⊎_elim
    (λ below. omega (arith, kept.words_len))
    (λ past. let none : word_of state edge ≡ 0 = get_or_past state.words edge 0 past in absurd (omega arith))
    (cases_lt edge (length state.words))

passes_post : (edge : ℕ) (next : Option Act) → passes (is_post edge) next ≡ true → next ≡ Some (act.Post edge)
passes_post edge None is = absurd (true≢false (sym is))
passes_post edge (Some (act.Post other)) is = ap (λ (e : ℕ). Some (act.Post e)) (eqb-true other edge is)
passes_post edge (Some (act.Take other)) is = absurd (true≢false (sym is))
passes_post edge (Some act.Compute) is = absurd (true≢false (sym is))

passes_take : (edge : ℕ) (next : Option Act) → passes (is_take edge) next ≡ true → next ≡ Some (act.Take edge)
passes_take edge None is = absurd (true≢false (sym is))
passes_take edge (Some (act.Take other)) is = ap (λ (e : ℕ). Some (act.Take e)) (eqb-true other edge is)
passes_take edge (Some (act.Post other)) is = absurd (true≢false (sym is))
passes_take edge (Some act.Compute) is = absurd (true≢false (sym is))

passes_compute : (next : Option Act) → passes is_compute next ≡ true → next ≡ Some act.Compute
passes_compute None is = absurd (true≢false (sym is))
passes_compute (Some (act.Post other)) is = absurd (true≢false (sym is))
passes_compute (Some (act.Take other)) is = absurd (true≢false (sym is))
passes_compute (Some act.Compute) is = refl

-- what is enabled is ready
pub ready_from : (wires : Wires) (state : State) (event : Event) → Kept wires state → is_enabled wires state event ≡ true → Ready wires state event
ready_from wires state (ClaimPost edge) kept enabled =
    let phase = eqb (word_of state edge % 4) 0 in
    let next = passes (is_post edge) (next_of wires state (poster_of wires edge)) in
    let all = and_parts (phase && next) (eqb (posts_made wires state edge) (word_of state edge / 4)) enabled in
    let both = and_parts phase next all.0 in
    record { next = passes_post edge (next_of wires state (poster_of wires edge)) both.1; phase = eqb-true (word_of state edge % 4) 0 both.0 }
ready_from wires state (Publish edge) kept enabled =
    let phase : word_of state edge % 4 ≡ 1 = eqb-true (word_of state edge % 4) 1 enabled in
    record { next = (kept.each edge (word_known wires state edge kept (omega arith))).posting phase; phase = phase }
ready_from wires state (ClaimTake edge) kept enabled =
    let phase = eqb (word_of state edge % 4) 2 in
    let next = passes (is_take edge) (next_of wires state (taker_of wires edge)) in
    let all = and_parts (phase && next) (eqb (takes_made wires state edge) (word_of state edge / 4)) enabled in
    let both = and_parts phase next all.0 in
    record { next = passes_take edge (next_of wires state (taker_of wires edge)) both.1; phase = eqb-true (word_of state edge % 4) 2 both.0 }
ready_from wires state (Release edge) kept enabled =
    let phase : word_of state edge % 4 ≡ 3 = eqb-true (word_of state edge % 4) 3 enabled in
    record { next = (kept.each edge (word_known wires state edge kept (omega arith))).taking phase; phase = phase }
ready_from wires state (Compute piece) kept enabled =
    record { next = passes_compute (next_of wires state piece) enabled; phase = tt }

-- what is ready is enabled
pub enabled_from : (wires : Wires) (state : State) (event : Event) → IsWired wires → Kept wires state → Ready wires state event → is_enabled wires state event ≡ true
enabled_from wires state (ClaimPost edge) wired kept ready =
    let below = (posts_there wires (poster_of wires edge) (done_of state (poster_of wires edge)) edge wired ready.next).0 in
    let made = (kept.each edge below).posts in
    let phase = ready.phase in
    let next : passes (is_post edge) (next_of wires state (poster_of wires edge)) ≡ true = ap (passes (is_post edge)) ready.next ∙ eq-eqb edge edge refl in
    and_from _ _ (and_from _ _ (eq-eqb (word_of state edge % 4) 0 phase) next) (eq-eqb (posts_made wires state edge) (word_of state edge / 4) (omega arith))
enabled_from wires state (Publish edge) wired kept ready = eq-eqb (word_of state edge % 4) 1 ready.phase
enabled_from wires state (ClaimTake edge) wired kept ready =
    let below = (takes_there wires (taker_of wires edge) (done_of state (taker_of wires edge)) edge wired ready.next).0 in
    let made = (kept.each edge below).takes in
    let phase = ready.phase in
    let next : passes (is_take edge) (next_of wires state (taker_of wires edge)) ≡ true = ap (passes (is_take edge)) ready.next ∙ eq-eqb edge edge refl in
    and_from _ _ (and_from _ _ (eq-eqb (word_of state edge % 4) 2 phase) next) (eq-eqb (takes_made wires state edge) (word_of state edge / 4) (omega arith))
enabled_from wires state (Release edge) wired kept ready = eq-eqb (word_of state edge % 4) 3 ready.phase
enabled_from wires state (Compute piece) wired kept ready = ap (passes is_compute) ready.next

-- what an event changes of its edge

pub raised_at : (state : State) (edge : ℕ) → edge < length state.words → get_or (one_more state.words edge) edge 0 ≡ word_of state edge + 1
raised_at state edge below = get_or-set_same state.words edge (word_of state edge + 1) 0 below

pub raised_elsewhere : (state : State) (edge other : ℕ) → other ≢ edge → get_or (one_more state.words edge) other 0 ≡ word_of state other
raised_elsewhere state edge other differ = get_or-set_other state.words edge other (word_of state edge + 1) 0 differ

-- a claim: the word was even, and its piece's next action is told
pub kept_claim : (wires : Wires) (state : State) (edge : ℕ) → Kept wires state → edge < length wires.channels → word_of state edge % 2 ≡ 0 → (word_of state edge % 4 ≡ 0 → next_of wires state (poster_of wires edge) ≡ Some (act.Post edge)) → (word_of state edge % 4 ≡ 2 → next_of wires state (taker_of wires edge) ≡ Some (act.Take edge)) → Kept wires (record { words = one_more state.words edge; done = state.done })
kept_claim wires state edge kept below even posting taking =
    let after : State = record { words = one_more state.words edge; done = state.done } in
    record {
      words_len = length-set state.words edge (word_of state edge + 1) ∙ kept.words_len;
      done_len = kept.done_len;
      each = λ other known. ⊎_elim
          (λ same. subst (KeptAt wires after) (sym same) (
          let word : word_of after edge ≡ word_of state edge + 1 = raised_at state edge (omega (arith, kept.words_len)) in
          let was = kept.each edge below in
          let posts = was.posts in
          let takes = was.takes in
          record {
            posts = omega arith;
            takes = omega arith;
            posting = λ phase. posting (omega arith);
            taking = λ phase. taking (omega arith);
          }))
          (λ differ.
          let word : word_of after other ≡ word_of state other = raised_elsewhere state edge other differ in
          let was = kept.each other known in
          record {
            posts = was.posts ∙ sym (ap posts_at word);
            takes = was.takes ∙ sym (ap takes_at word);
            posting = λ phase. was.posting (omega arith);
            taking = λ phase. was.taking (omega arith);
          })
          (cases_eq other edge);
    }
