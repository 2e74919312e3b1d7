-- What the steps on the word of an edge tell the seat that makes them, and what a whole try tells.
use Rattle.std.specs.Prelude.{◌≡◌, ◌≢◌, ℕ, ◌+◌, ◌*◌, ◌/◌, ◌^◌, ◌<◌, ◌≤◌, [], ◌∷◌, ℤ, IsTrue, length, slice_index, Result, MatchResult, ⊤}
use Rattle.std.specs.Global.{Vec}
use Rattle.atomic_table.specs.Table.{Me, Step, rest}
use Rattle.atomic_table.specs.Seated.{TableId}
use Rattle.atomic_table.specs.declared.shared.Seat.{Seat}
use Rattle.cpl_core.specs.declared.boxes.NotYet.{NotYet}
use Rattle.cpl_core.specs.declared.wiring.Wires.{Wires}
use Rattle.cpl_core.specs.Wires.{len_of, uses_of, value_of}
use Rattle.cpl_core.specs.Content.{IsContent}
use Rattle.cpl_box.specs.declared.view.View.{View}
use Rattle.cpl_box.specs.Views.{IsSized, missed, claimed, published, released}

-- what a seat knows, and the lists that it has
abbrev Seated : Type 0
Seated = Me (Vec ℤ) View

-- the seat has the list of the edge, which is the box's content at this word
abbrev pub Has : Seated → ℕ → ℕ → Seated → Type 0
Has before edge word after = (list : Vec ℤ) × (after ≡ (claimed before.0 edge word, (edge, list) ∷ before.1)) × IsContent before.0.wires edge word list.items

-- A compare and exchange on the word of the edge found a word, and none below what was seen there. It went on from the awaited one.
abbrev pub Tries : ℕ → ℕ → Seated → ℕ → Seated → Type 0
Tries edge awaited before found after =
    (slice_index before.0.seen edge ≤ found)
    × (found ≡ awaited → Has before edge found after)
    × (found ≢ awaited → after ≡ (missed before.0 edge found, before.1))

abbrev pub claims : Step (Vec ℤ) → Seated → ℕ → Seated → Type 0
claims step before found after = Tries (step.word / 8) step.first before found after

-- the list goes back into the box, and a new word is left
abbrev pub publishes : Step (Vec ℤ) → Seated → ℕ → Seated → Type 0
publishes step before found after = after ≡ (published before.0 (step.word / 8) step.first, rest before.1)

abbrev pub releases : Step (Vec ℤ) → Seated → ℕ → Seated → Type 0
releases step before found after = after ≡ (released before.0 (step.word / 8) step.first, rest before.1)

-- it is a seat of the same table, with the same number
abbrev pub IsSame : Seat (Vec ℤ) View → Seat (Vec ℤ) View → Type 0
IsSame old new = (new.table_id ≡ old.table_id) × (new.id ≡ old.id)

-- The table has eight words and a slot for each edge. The seat is one of its seats, has numbers for each edge, and no list is with it.
abbrev pub IsAtRest : TableId → Seat (Vec ℤ) View → Type 0
IsAtRest table seat = (seat.table_id ≡ table) × (seat.me.1 ≡ []) × IsTrue seat.me.0.live × IsSized table.slots seat.me.0 × (table.words ≡ 8 * table.slots) × (0 < table.slots)

-- an edge is used at most 2^60 times, and each of its lists has its length
abbrev pub HasLists : Wires → Type 0
HasLists wires = (edge : ℕ) → edge < length wires.channels → (uses_of wires edge ≤ 2 ^ 60) × ((k : ℕ) → k < uses_of wires edge → length (value_of wires edge k) ≡ len_of wires edge)

-- a try found another word of the edge than the awaited one, and none below what was seen there; it is the one that it tells
abbrev pub Refuses : View → ℕ → ℕ → View → NotYet → Type 0
Refuses before edge awaited after refusal = (after ≡ missed before edge refusal.word) × (refusal.edge ≡ edge) × (refusal.word ≢ awaited) × (slice_index before.seen edge ≤ refusal.word)

-- what is known after a try to post the k-th list of the edge, and after a try to take it
abbrev pub HasPosted : View → ℕ → ℕ → View → Result ⊤ NotYet → Type 0
HasPosted before edge k after result = MatchResult result
    (λ done. (after ≡ published (claimed before edge (4 * k)) edge (4 * k + 2)) × (slice_index before.seen edge ≤ 4 * k))
    (Refuses before edge (4 * k) after)

abbrev pub HasTaken : View → ℕ → ℕ → View → Result ⊤ NotYet → Type 0
HasTaken before edge k after result = MatchResult result
    (λ done. (after ≡ released (claimed before edge (4 * k + 2)) edge (4 * k + 4)) × (slice_index before.seen edge ≤ 4 * k + 2))
    (Refuses before edge (4 * k + 2) after)
