-- In a state that a run reaches, an event is enabled just where its action is next and its edge's word allows it.
use Rattle.std.specs.Prelude.{◌≡◌, ◌%◌, ◌<◌, length, Some}
use Rattle.cpl_core.specs.declared.wiring.Act.{Act}
use Rattle.cpl_core.specs.declared.wiring.Act.TheVariants as act
use Rattle.cpl_core.specs.declared.wiring.Wires.{Wires}
use Rattle.cpl_core.specs.declared.events.Event.{Event}
use Rattle.cpl_core.specs.declared.events.Event.TheVariants.{ClaimPost, Publish, ClaimTake, Release, Compute}
use Rattle.cpl_core.specs.Run.{State, word_of, next_of, actor_of}

-- the action that an event begins or ends
abbrev pub act_of : Event → Act
act_of (ClaimPost edge) = act.Post edge
act_of (Publish edge) = act.Post edge
act_of (ClaimTake edge) = act.Take edge
act_of (Release edge) = act.Take edge
act_of (Compute piece) = act.Compute

-- the word of its edge is the event's
abbrev pub IsPhase : State → Event → Type 0
IsPhase state (ClaimPost edge) = word_of state edge % 4 ≡ 0
IsPhase state (Publish edge) = word_of state edge % 4 ≡ 1
IsPhase state (ClaimTake edge) = word_of state edge % 4 ≡ 2
IsPhase state (Release edge) = word_of state edge % 4 ≡ 3
IsPhase state (Compute piece) = Unit {0}

-- its piece's next action is the event's, and the word allows it
pub record Ready (wires : Wires) (state : State) (event : Event) : Type 0 where
  pub next : next_of wires state (actor_of wires event) ≡ Some (act_of event)
  pub phase : IsPhase state event

-- there is a word for the event's edge, or a number for its piece
abbrev pub HasPlace : State → Event → Type 0
HasPlace state (ClaimPost edge) = edge < length state.words
HasPlace state (Publish edge) = edge < length state.words
HasPlace state (ClaimTake edge) = edge < length state.words
HasPlace state (Release edge) = edge < length state.words
HasPlace state (Compute piece) = piece < length state.done
