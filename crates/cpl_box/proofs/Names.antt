-- A table's name tells it from every other.
use Rattle.std.proofs.Common.{◌≡◌, ℕ, List, get_or, drop}
use Rattle.atomic_table.specs.Seated.{TableId}
use Rattle.cpl_box.specs.Passes.{name_of}

abbrev number_at : List ℕ → ℕ → ℕ
number_at l i = get_or l i 0

pub name_tells : (a b : TableId) → name_of a ≡ name_of b → a ≡ b
name_tells a b is i = record {
  words = number_at (is i) 0;
  slots = number_at (is i) 1;
  views_name = number_at (is i) 2;
  atom = number_at (is i) 3;
  block = number_at (is i) 4;
  offset = number_at (is i) 5;
  slot_names = drop 6 (is i);
}
