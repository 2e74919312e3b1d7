-- Boxes for one thread.
use Rattle.std.specs.Prelude.{◌≡◌, ℕ, ℤ, ◌*◌, ◌<◌, List, [], length, map, slice_index, slice_index_or}
use Rattle.cpl_core.specs.declared.wiring.Wires.{Wires}
use Rattle.cpl_core.specs.Wires.{IsWired}
use Rattle.cpl_core.specs.Content.{IsContent, posts_at, takes_at}

-- how often each box was posted to and taken from, and what was tried
pub record Plain : Type 0 where
  pub wires : Wires
  pub turns : List ℕ
  pub tries : ℕ
  pub last_edge : ℕ
  pub last_word : ℕ

-- the words of the boxes
abbrev pub words_of : Plain → List ℕ
words_of plain = map (λ n. 2 * n) plain.turns

abbrev pub posts_of : Plain → List ℕ
posts_of plain = map posts_at (words_of plain)

abbrev pub takes_of : Plain → List ℕ
takes_of plain = map takes_at (words_of plain)

-- each box has a list, which is its content at its word
pub record IsPlain (wires : Wires) (turns : List ℕ) (lists : List (List ℤ)) : Type 0 where
  pub wired : IsWired wires
  pub turns_len : length turns ≡ length wires.channels
  pub lists_len : length lists ≡ length wires.channels
  pub contents : (edge : ℕ) → edge < length wires.channels → IsContent wires edge (2 * slice_index turns edge) (slice_index_or lists edge [])
