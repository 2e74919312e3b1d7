use Rattle.std.proofs.Common.{subst, Contains}
use Rattle.cpl_io.proofs.Fronts.{none_appended}
use Rattle.cpl_io.proofs.memory.MemSinkSink.put.Goals as goal

pub returns-then-next_fails-clause-only_due : goal.returns-then-next_fails-clause-only_due
returns-then-next_fails-clause-only_due c failed =
    subst (λ now. Contains now.fail now.calls) c.self.view_is (c.next_fails.ensures.due.0 c.if-next_fails.true)

pub returns-clause-err : goal.returns-clause-err
returns-clause-err c =
    none_appended c.extend_from_slice.result c.map_err.result c.args.self.now.written c.extend_from_slice.new.self.items c.args.bytes.now c.map_err.ensures.variant (rw (← c.self.view_is) c.extend_from_slice.ensures.items)
