-- The rule of the boxes, which each step of each thread keeps.
-- The word of an edge stands at eight times its number in the table, so that no two of them share a cache line of 64 bytes.
use Rattle.std.specs.Prelude.{◌≡◌, ℕ, ◌+◌, ◌*◌, ◌%◌, ◌<◌, ◌≤◌, List, length, ℤ, IsTrue, IsFalse, Some, slice_index}
use Rattle.std.specs.Global.{Vec}
use mathlib.Core.Option.{Option, some}
use lib.ListN.{get_elem?}
use Rattle.atomic_table.specs.Table.{State}
use Rattle.cpl_core.specs.declared.wiring.Wires.{Wires}
use Rattle.cpl_core.specs.Wires.{uses_of}
use Rattle.cpl_core.specs.Content.{IsContent}
use Rattle.cpl_box.specs.declared.view.View.{View}
use Rattle.cpl_box.specs.Views.{spent}

abbrev pub word_of : List ℕ → ℕ → ℕ
word_of words edge = slice_index words (8 * edge)

-- At an even word the box's list is at home, and it is the box's content at this word.
pub record IsBox (wires : Wires) (words : List ℕ) (homes : List (Option (Vec ℤ))) (edge : ℕ) : Type 0 where
  pub most : word_of words edge ≤ 4 * uses_of wires edge
  pub home : word_of words edge % 2 ≡ 0 → (list : Vec ℤ) × (get_elem? homes edge ≡ some (some list)) × IsContent wires edge (word_of words edge) list.items

-- What a view says of the words. No more was posted, taken or seen than there is: a box was posted to (word + 2) / 4
-- times, and taken from word / 4 times. An edge that the view holds stands at the odd word that it says.
pub record Knows (wires : Wires) (words : List ℕ) (view : View) : Type 0 where
  pub wiring : IsTrue view.live → view.wires ≡ wires
  pub gone : IsFalse view.live → view ≡ spent
  pub posts : (edge : ℕ) → 4 * slice_index view.posts edge ≤ word_of words edge + 2
  pub takes : (edge : ℕ) → 4 * slice_index view.takes edge ≤ word_of words edge
  pub seen : (edge : ℕ) → slice_index view.seen edge ≤ word_of words edge
  pub last : view.last_word ≤ slice_index view.seen view.last_edge
  pub holds : (edge word : ℕ) → view.held ≡ Some (edge, word) → (word_of words edge ≡ word) × (word % 2 ≡ 1)

-- No two seats hold one edge.
pub record Kept (wires : Wires) (table : State (Vec ℤ) View) : Type 0 where
  pub wide : length table.words ≡ 8 * length table.homes
  pub boxes : (edge : ℕ) → edge < length table.homes → IsBox wires table.words table.homes edge
  pub seats : (seat : ℕ) (view : View) → get_elem? table.views seat ≡ some view → Knows wires table.words view
  pub alone : (seat other : ℕ) (one two : View) → get_elem? table.views seat ≡ some one → get_elem? table.views other ≡ some two
      → (edge word again : ℕ) → one.held ≡ Some (edge, word) → two.held ≡ Some (edge, again) → seat ≡ other
