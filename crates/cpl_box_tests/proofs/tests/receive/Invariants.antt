use Rattle.std.proofs.Common.{◌≡◌, [], ◌∷◌, length}
use Rattle.cpl_box.specs.Passes.{view_of}
use Rattle.cpl_box_tests.specs.Tiny.{tiny_wires}
use Rattle.cpl_box_tests.proofs.tests.receive.Given as goal

abbrev pub invariant-loop : goal.invariant-loop
invariant-loop l = record {
  wires : (view_of l.user.pass).wires ≡ tiny_wires;
  takes : (view_of l.user.pass).takes ≡ 0 ∷ [];
  list : length l.list.items ≡ 1;
}
