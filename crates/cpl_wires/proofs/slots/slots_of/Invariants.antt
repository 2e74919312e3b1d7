use Rattle.std.proofs.Common.{◌≡◌, map}
use Rattle.std.specs.List.{range_with_len}
use Rattle.cpl_wires.specs.Tables.{slot_in}
use Rattle.cpl_wires.proofs.Slotted.{AreCounts}
use Rattle.cpl_wires.proofs.slots.slots_of.Given as goal

abbrev pub invariant-loop-key : goal.invariant-loop-key
invariant-loop-key l = record {
  counts : AreCounts l.count l.keys l.key-index l.counts.items;
  slots : l.slots.items ≡ map (slot_in l.keys) (range_with_len 0 l.key-index);
}
