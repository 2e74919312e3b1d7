-- A run of the core, in words and numbers of actions: its states, its events and what each event changes.
use Rattle.std.specs.Prelude.{◌≡◌, ℕ, ◌+◌, ◌*◌, ◌/◌, ◌%◌, ◌<◌, ◌≤◌, ◌==◌, ◌&&◌, Bool, true, false, List, [], ◌∷◌, length, map, take, count_by, replicate, slice_get, slice_index, slice_set, Option, Some, None, option_and_then, if◌then◌else◌}
use Rattle.cpl_core.specs.declared.wiring.Act.{Act}
use Rattle.cpl_core.specs.declared.wiring.Act.TheVariants as act
use Rattle.cpl_core.specs.declared.wiring.Wires.{Wires}
use Rattle.cpl_core.specs.declared.events.Event.{Event}
use Rattle.cpl_core.specs.declared.events.Event.TheVariants.{ClaimPost, Publish, ClaimTake, Release, Compute}
use Rattle.cpl_core.specs.Wires.{poster_of, taker_of, uses_of, script_of, is_post, is_take}
use Rattle.cpl_core.specs.Content.{posts_at, takes_at}

-- a word for each edge, and for each piece how many actions it has done
pub record State : Type 0 where
  pub words : List ℕ
  pub done : List ℕ

-- where every run starts
abbrev pub start : Wires → State
start wires = record { words = replicate (length wires.channels) 0; done = replicate (length wires.scripts) 0 }

abbrev pub word_of : State → ℕ → ℕ
word_of state edge = slice_index state.words edge

abbrev pub done_of : State → ℕ → ℕ
done_of state piece = slice_index state.done piece

-- the next action of a piece, and none at its script's end
abbrev pub next_of : Wires → State → ℕ → Option Act
next_of wires state piece = slice_get (script_of wires piece) (done_of state piece)

-- how many of a piece's actions so far pass the test
abbrev pub made_by : (Act → Bool) → Wires → State → ℕ → ℕ
made_by test wires state piece = count_by test (take (done_of state piece) (script_of wires piece))

-- how often the edge's poster has posted there
abbrev pub posts_made : Wires → State → ℕ → ℕ
posts_made wires state edge = made_by (is_post edge) wires state (poster_of wires edge)

-- how often the edge's taker has taken there
abbrev pub takes_made : Wires → State → ℕ → ℕ
takes_made wires state edge = made_by (is_take edge) wires state (taker_of wires edge)

abbrev pub is_compute : Act → Bool
is_compute (act.Post edge) = false
is_compute (act.Take edge) = false
is_compute act.Compute = true

-- whether there is a next action and it passes the test
abbrev pub passes : (Act → Bool) → Option Act → Bool
passes test None = false
passes test (Some action) = test action

-- whether the event may happen
abbrev pub is_enabled : Wires → State → Event → Bool
is_enabled wires state (ClaimPost edge) =
    (word_of state edge % 4 == 0) && passes (is_post edge) (next_of wires state (poster_of wires edge)) && (posts_made wires state edge == word_of state edge / 4)
is_enabled wires state (Publish edge) = word_of state edge % 4 == 1
is_enabled wires state (ClaimTake edge) =
    (word_of state edge % 4 == 2) && passes (is_take edge) (next_of wires state (taker_of wires edge)) && (takes_made wires state edge == word_of state edge / 4)
is_enabled wires state (Release edge) = word_of state edge % 4 == 3
is_enabled wires state (Compute piece) = passes is_compute (next_of wires state piece)

-- one more at a place
abbrev pub one_more : List ℕ → ℕ → List ℕ
one_more numbers place = slice_set numbers place (slice_index numbers place + 1)

-- the piece that acts
abbrev pub actor_of : Wires → Event → ℕ
actor_of wires (ClaimPost edge) = poster_of wires edge
actor_of wires (Publish edge) = poster_of wires edge
actor_of wires (ClaimTake edge) = taker_of wires edge
actor_of wires (Release edge) = taker_of wires edge
actor_of wires (Compute piece) = piece

-- What the event changes where this piece acts: a claim raises its edge's word, a publishing and a release do that and
-- end an action, and computing ends an action.
abbrev pub happens_by : ℕ → State → Event → State
happens_by piece state (ClaimPost edge) = record { words = one_more state.words edge; done = state.done }
happens_by piece state (Publish edge) = record { words = one_more state.words edge; done = one_more state.done piece }
happens_by piece state (ClaimTake edge) = record { words = one_more state.words edge; done = state.done }
happens_by piece state (Release edge) = record { words = one_more state.words edge; done = one_more state.done piece }
happens_by piece state (Compute own) = record { words = state.words; done = one_more state.done piece }

-- what the event changes
abbrev pub happens : Wires → State → Event → State
happens wires state event = happens_by (actor_of wires event) state event

-- the state after the event, where it is enabled
abbrev pub step : Wires → State → Event → Option State
step wires state event = if is_enabled wires state event then Some (happens wires state event) else None

-- the state after these events, one after the other, where each is enabled in its turn
abbrev pub run : Wires → State → List Event → Option State
run wires state [] = Some state
run wires state (event ∷ events) = option_and_then (λ after. run wires after events) (step wires state event)

-- these events, each enabled in its turn, lead from the start to the state
abbrev pub Leads : Wires → List Event → State → Type 0
Leads wires events state = run wires (start wires) events ≡ Some state

-- some enabled events lead there from the start
abbrev pub IsReached : Wires → State → Type 0
IsReached wires state = (events : List Event) × Leads wires events state

-- every script is done
abbrev pub IsEnd : Wires → State → Type 0
IsEnd wires state = state.done ≡ map length wires.scripts

-- the event names an edge or a piece of the wiring
abbrev pub IsInRange : Wires → Event → Type 0
IsInRange wires (ClaimPost edge) = edge < length wires.channels
IsInRange wires (Publish edge) = edge < length wires.channels
IsInRange wires (ClaimTake edge) = edge < length wires.channels
IsInRange wires (Release edge) = edge < length wires.channels
IsInRange wires (Compute piece) = piece < length wires.scripts

-- what a refused event tells: the edge's word, or how many actions the piece has done
abbrev pub number_at : State → Event → ℕ
number_at state (ClaimPost edge) = word_of state edge
number_at state (Publish edge) = word_of state edge
number_at state (ClaimTake edge) = word_of state edge
number_at state (Release edge) = word_of state edge
number_at state (Compute piece) = done_of state piece

-- An edge's word tells how often it was posted and taken, and stays within its uses. While the poster or the taker holds
-- the list, that Post or Take is its next action.
pub record KeepsWord (wires : Wires) (state : State) (edge : ℕ) : Type 0 where
  pub posts : posts_made wires state edge ≡ posts_at (word_of state edge)
  pub takes : takes_made wires state edge ≡ takes_at (word_of state edge)
  pub most : word_of state edge ≤ 4 * uses_of wires edge
  pub posting : word_of state edge % 4 ≡ 1 → next_of wires state (poster_of wires edge) ≡ Some (act.Post edge)
  pub taking : word_of state edge % 4 ≡ 3 → next_of wires state (taker_of wires edge) ≡ Some (act.Take edge)
