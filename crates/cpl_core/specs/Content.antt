-- What a box holds at a word.
use Rattle.std.specs.Prelude.{◌≡◌, ℕ, ℤ, ◌+◌, ◌*◌, ◌/◌, ◌%◌, ◌≤◌, List, length}
use Rattle.cpl_core.specs.declared.wiring.Wires.{Wires}
use Rattle.cpl_core.specs.Wires.{len_of, uses_of, value_of}

-- At a word 4k a box holds some list of its edge's length, and at 4k+2 the list that the k-th use carries. At 4k+1 its
-- list is with the poster, at 4k+3 with the taker. A word is at most four times the uses.
pub record IsContent (wires : Wires) (edge word : ℕ) (list : List ℤ) : Type 0 where
  pub most : word ≤ 4 * uses_of wires edge
  pub len : word % 2 ≡ 0 → length list ≡ len_of wires edge
  pub value : word % 4 ≡ 2 → list ≡ value_of wires edge (word / 4)

-- how many posts were made where a box is at this word
abbrev pub posts_at : ℕ → ℕ
posts_at word = (word + 2) / 4

-- how many takes were made where a box is at this word
abbrev pub takes_at : ℕ → ℕ
takes_at word = word / 4
