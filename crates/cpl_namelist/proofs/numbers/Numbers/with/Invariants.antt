use Rattle.std.proofs.Common.{◌≡◌, ◌+◌, ◌++◌, replicate, length}
use Rattle.cpl_namelist.specs.Numbers.{listed}
use Rattle.cpl_namelist.proofs.numbers.Numbers.with.Given as goal

abbrev pub invariant-loop : goal.invariant-loop
invariant-loop l = record {
  value : listed l.next ≡ listed l.fn.self ++ replicate l.counter l.number;
  count : l.next.count ≡ l.fn.self.count + l.counter;
  places : length l.next.places ≡ 12;
}
