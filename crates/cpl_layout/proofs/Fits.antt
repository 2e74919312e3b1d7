-- What no fault says of a layout.
use Rattle.std.proofs.Common.{◌≡◌, ℕ, ◌*◌, ◌<◌, ◌≤◌, arith, Bool, false, ltb, List, length, get_or, Some, None, inl, inr}
use Rattle.std.specs.Prelude.{position}
use Rattle.std.specs.List.{position_or_len}
use Rattle.std.proofs.lemmas.Bool.{cases_lt, lt-ltb, cond-true, or_parts, ltb-false}
use Rattle.std.proofs.lemmas.List.Sums.{fails_before_first}
use Rattle.cpl_mosaic.specs.declared.parts.Tile.{Tile}
use Rattle.cpl_mosaic.specs.Contacts.{AreTiles}
use Rattle.cpl_layout.specs.Layouts.{is_too_fine, IsLayout}

-- where no element passes, each fails
none_passes : {X : Type 0} (p : X → Bool) (xs : List X) (k : ℕ) (d : X) → position p xs ≡ None → k < length xs → p (get_or xs k d) ≡ false
none_passes p xs k d none below = elim (cases_lt (position_or_len p xs) (length xs)) [
  | inl found ↦ absurd (let some = cond-true (ltb (position_or_len p xs) (length xs)) (Some (position_or_len p xs)) None (lt-ltb (position_or_len p xs) (length xs) found) in cc)
  | inr past ↦ fails_before_first p xs k d (omega arith)
]

pub layout_is : (tiles : List Tile) (px py : ℕ) → AreTiles tiles → 1 ≤ px → 1 ≤ py → length tiles * px * py ≤ 64 → position (is_too_fine px py) tiles ≡ None → IsLayout (record { tiles = tiles; px = px; py = py })
layout_is tiles px py sizes columns rows few fine = record {
  sizes = sizes;
  columns = columns;
  rows = rows;
  few = few;
  wide = λ k d below. ltb-false (get_or tiles k d).nx px (or_parts (ltb (get_or tiles k d).nx px) (ltb (get_or tiles k d).ny py) (none_passes (is_too_fine px py) tiles k d fine below)).0;
  high = λ k d below. ltb-false (get_or tiles k d).ny py (or_parts (ltb (get_or tiles k d).nx px) (ltb (get_or tiles k d).ny py) (none_passes (is_too_fine px py) tiles k d fine below)).1;
}
