-- How long the parts of a script are, and where its coupling steps begin.
use Rattle.std.specs.Prelude.{ℕ, zero, suc, ◌+◌, ◌*◌, ◌≤◌, ◌==◌, Bool, true, false, List, length, map, if◌then◌else◌}
use Rattle.std.specs.List.{sum_by}
use Rattle.cpl_namelist.specs.declared.names.Names.{Names}
use Rattle.cpl_wires.specs.declared.parts.Move.{Move}
use Rattle.cpl_wires.specs.declared.parts.Move.TheVariants.{Posts, Takes, Does}
use Rattle.cpl_wires.specs.declared.parts.Lengths.{Lengths}
use Rattle.cpl_wires.specs.Settings.{Setting, component_of, all_pieces}
use Rattle.cpl_wires.specs.Edges.{posted_by, taken_by}
use Rattle.cpl_wires.specs.Turns.{opening, fast_moves, ocean_moves, closing, summing}
use Rattle.cpl_wires.specs.Stops.{stops}

-- how many actions a move of a piece has, and how many moves have
abbrev pub move_length : Setting → ℕ → Move → ℕ
move_length setting piece (Posts purpose) = length (posted_by setting piece purpose)
move_length setting piece (Takes purpose) = length (taken_by setting piece purpose)
move_length setting piece (Does job) = 1

unfoldable pub moves_length : Setting → ℕ → List Move → ℕ
moves_length setting piece moves = sum_by (move_length setting piece) moves

-- how long the parts of a piece's script are
abbrev pub lengths_of : Setting → ℕ → Lengths
lengths_of setting piece = record {
  component = component_of setting piece;
  summing = moves_length setting piece (summing (piece == 0));
  first_opening = moves_length setting piece (opening (component_of setting piece) true);
  opening = moves_length setting piece (opening (component_of setting piece) false);
  fast = moves_length setting piece (fast_moves (component_of setting piece));
  ocean = moves_length setting piece (ocean_moves (component_of setting piece));
  closing = moves_length setting piece (closing (component_of setting piece) false);
  last_closing = moves_length setting piece (closing (component_of setting piece) true);
  actions = length (stops setting piece);
}

abbrev pub all_lengths : Setting → List Lengths
all_lengths setting = map (lengths_of setting) (all_pieces setting)

-- at most nine moves of at most 37,120 actions each; a fast step or an ocean step has some
pub record AreShort (lengths : Lengths) : Type 0 where
  pub some : 1 ≤ lengths.fast + lengths.ocean
  pub summing : lengths.summing ≤ 334_080
  pub first_opening : lengths.first_opening ≤ 334_080
  pub opening : lengths.opening ≤ 334_080
  pub fast : lengths.fast ≤ 334_080
  pub ocean : lengths.ocean ≤ 334_080
  pub closing : lengths.closing ≤ 334_080
  pub last_closing : lengths.last_closing ≤ 334_080

abbrev pub opens_by : Lengths → (is_first : Bool) → ℕ
opens_by lengths first = if first then lengths.first_opening else lengths.opening

abbrev pub closes_by : Lengths → (is_last : Bool) → ℕ
closes_by lengths last = if last then lengths.last_closing else lengths.closing

-- how long a coupling step is, with the sums after it
abbrev pub step_size : Names → Lengths → (is_first is_last : Bool) → ℕ
step_size names lengths first last =
    opens_by lengths first + names.fast * lengths.fast + names.ocean_steps * lengths.ocean + closes_by lengths last + lengths.summing

-- how many actions of coupling steps come before a coupling step
abbrev pub begin_of : Names → Lengths → ℕ → ℕ
begin_of names lengths zero = 0
begin_of names lengths (suc n) = step_size names lengths true false + n * step_size names lengths false false

-- how many actions there are in all
abbrev pub actions_in : Names → Lengths → ℕ → ℕ
actions_in names lengths zero = lengths.summing
actions_in names lengths (suc last) = lengths.summing + begin_of names lengths last + step_size names lengths (last == 0) true

abbrev pub actions_of : Names → Lengths → ℕ
actions_of names lengths = actions_in names lengths names.steps
