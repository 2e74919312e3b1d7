-- What the top call needs to know of what was prepared, before anything is written.
use Rattle.std.specs.Prelude.{◌≡◌, ◌↔◌, ℕ, Bool, IsTrue, Option, None, Result, IfOk, IfErr, IsErrOf}
use Rattle.cpl_io.specs.Causes.{Call}
use Rattle.cpl_io.specs.Files.{Files}
use Rattle.cpl_top.specs.Causes.{Prepares, IsRefusal, ShelfFaults}
use Rattle.cpl_top.specs.Commands.{answer_to}
use Rattle.cpl_top.specs.Failures.{FailedReading, ComesToReply}
use Rattle.cpl_top.specs.Reads.{Reads, NoneFailed, OnlyReads}
use Rattle.cpl_top.specs.Replies.{AreApart}
use Rattle.cpl_top.specs.declared.output.Reply.{Reply}
use Rattle.cpl_top.specs.declared.status.Which.{Which}
use Rattle.cpl_top.specs.declared.status.Status.{Status}
use Rattle.cpl_top.specs.declared.status.Status.TheVariants as status

-- A reply or a refusal of this command on a shelf that was only read. A refusal is the answer, and where it blames the shelf a
-- reading failed; no other result leaves a fault.
pub record IsPrepared {S : Type 0} (told : S → Bool) (files : S → Files) (faults : S → ℕ) (failed : S → Option Call) (command : Option Reads) (old new : S) (result : Result Reply Status) : Type 0 where
  pub only_reads : OnlyReads told files faults old new
  pub answer : IsTrue (told old) → Prepares result (answer_to (files old) command)
  pub usage : IsErrOf result status.Usage ↔ (command ≡ None)
  pub read : (file : Which) → IsErrOf result (status.Read file) → FailedReading (told old) (files old) command file (faults old) (faults new) (failed new)
  pub shelf_faults : IfErr result (λ s. ShelfFaults s (faults old) (faults new) (failed old) (failed new))
  pub quiet : IfOk result (λ reply. NoneFailed (faults old) (faults new) (failed old) (failed new))
  pub reply : IfOk result (ComesToReply (told old) (files old) command)
  pub apart : IfOk result (λ reply. AreApart reply.outputs)
  pub only_refusals : IfErr result IsRefusal
