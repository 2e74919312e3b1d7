-- What a try on a box tells and changes.
use Rattle.std.specs.Prelude.{◌≡◌, ◌≢◌, ℕ, ◌+◌, ◌-◌, ◌^◌, ◌≤◌, min, max, List, length, slice_index, slice_set, Result, Ok, Err}
use Rattle.cpl_core.specs.declared.boxes.NotYet.{NotYet}
use Rattle.cpl_core.specs.declared.wiring.Wires.{Wires}

-- one more, which stays at its last value, 2^64-1
abbrev pub raised : ℕ → ℕ
raised count = max count (min (count + 1) (2 ^ 64 - 1))

-- Ok exactly where the word found is the awaited one. A refusal tells the edge and the word found.
abbrev pub AnswersWord : {T : Type 0} → ℕ → ℕ → ℕ → Result T NotYet → Type 0
AnswersWord edge awaited found (Ok done) = found ≡ awaited
AnswersWord edge awaited found (Err refusal) = (refusal.edge ≡ edge) × (refusal.word ≡ found) × (found ≢ awaited)

-- After Ok a word from `least` on was seen, after a refusal the word that it tells.
abbrev pub SeesAtLast : {T : Type 0} → ℕ → ℕ → Result T NotYet → Type 0
SeesAtLast least word (Ok done) = least ≤ word
SeesAtLast least word (Err refusal) = word ≡ refusal.word

-- The holder saw one more word of the edge, none below what it had seen there, and no word of another edge.
abbrev pub SeesWord : {T : Type 0} → ℕ → ℕ → List ℕ → List ℕ → Result T NotYet → Type 0
SeesWord edge least old new result = (word : ℕ) × (new ≡ slice_set old edge word) × (slice_index old edge ≤ word) × SeesAtLast least word result

-- there is a number of posts, of takes and a word seen for each edge
pub record AreByEdge (wires : Wires) (posts takes seen : List ℕ) : Type 0 where
  pub posts_len : length posts ≡ length wires.channels
  pub takes_len : length takes ≡ length wires.channels
  pub seen_len : length seen ≡ length wires.channels
