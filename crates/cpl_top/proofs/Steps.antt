-- A walk step by step: each lemma is one call of the code. A function that reads more files than two is answered by a chain of
-- these, one for each call.
use Rattle.std.proofs.Common.{◌∙◌, sym, refl, subst, ℕ, List, arith, Bool, Option, Result, Ok, Err, inl, inr}
use Rattle.std.specs.Prelude.{IfOk, IfErr, IsErr}
use Rattle.cpl_io.specs.Causes.{Call}
use Rattle.cpl_io.specs.Files.{Files}
use Rattle.cpl_top.specs.Causes.{Answers}
use Rattle.cpl_top.specs.Replies.{AreApart}
use Rattle.cpl_top.specs.Reads.{Reads, Ask, End, Leads, AreBytes, ComesTo, IsUnread, StopsWith, NoneFailed, OnlyReads, Walks}
use Rattle.cpl_top.specs.Inputs.{AreInputs, ask_inputs}
use Rattle.cpl_top.specs.declared.inputs.Inputs.{Inputs}
use Rattle.cpl_top.specs.declared.output.Reply.{Reply}
use Rattle.cpl_top.specs.declared.status.Which.{Which}
use Rattle.cpl_top.specs.declared.status.Status.{Status}
use Rattle.cpl_top.specs.declared.status.Status.TheVariants as status

pub reads_on : {S : Type 0} {told : S → Bool} {files : S → Files} {faults : S → ℕ} {old mid new : S}
    → OnlyReads told files faults old mid → OnlyReads told files faults mid new → OnlyReads told files faults old new
reads_on a b = record { tells = b.tells ∙ a.tells; stands = b.stands ∙ a.stands; grows = omega (arith, a.grows, b.grows) }

module _ {S : Type 0} {told : S → Bool} {files : S → Files} {faults : S → ℕ} {failed : S → Option Call} where
  -- a file was read, and the walk goes on
  pub walks_on : {file : Which} {name : List ℕ} {limit : ℕ} {rest : List ℕ → Reads} {bytes : List ℕ} {old mid new : S} {result : Result Reply Status}
      → OnlyReads told files faults old mid → AreBytes (told old) (files old) name limit bytes
      → NoneFailed (faults old) (faults mid) (failed old) (failed mid)
      → Walks told files faults failed (rest bytes) mid new result → Walks told files faults failed (Ask file name limit rest) old new result
  walks_on {file} {name} {limit} {rest} {bytes} {old} {mid} {new} {result} only are quiet walks = go result walks
    where
      go : (result : Result Reply Status) → Walks told files faults failed (rest bytes) mid new result → Walks told files faults failed (Ask file name limit rest) old new result
      go (Ok reply) w = record {
        only = reads_on only w.only;
        reply = (bytes, are, subst (λ t. ComesTo t (files old) (rest bytes) reply) only.tells (subst (λ f. ComesTo (told mid) f (rest bytes) reply) only.stands w.reply));
        quiet = (w.quiet.0 ∙ quiet.0, w.quiet.1 ∙ quiet.1);
        stop = tt;
        apart = w.apart;
      }
      go (Err s) w = record {
        only = reads_on only w.only;
        reply = tt;
        quiet = tt;
        stop = inr (
          bytes,
          are,
          subst (λ n. StopsWith (told old) (files old) n (faults new) (failed old) (failed new) (rest bytes) s) quiet.0
              (subst (λ c. StopsWith (told old) (files old) (faults mid) (faults new) c (failed new) (rest bytes) s) quiet.1
              (subst (λ t. StopsWith t (files old) (faults mid) (faults new) (failed mid) (failed new) (rest bytes) s) only.tells
              (subst (λ f. StopsWith (told mid) f (faults mid) (faults new) (failed mid) (failed new) (rest bytes) s) only.stands w.stop))),
        );
        apart = tt;
      }

  -- a file wasn't read
  pub walks_unread : {file : Which} {name : List ℕ} {limit : ℕ} {rest : List ℕ → Reads} {old new : S} {result : Result Reply Status}
      → IsErr result → OnlyReads told files faults old new
      → IfErr result (IsUnread (told old) (files old) file name limit (faults old) (faults new) (failed old) (failed new))
      → Walks told files faults failed (Ask file name limit rest) old new result
  walks_unread {file} {name} {limit} {rest} {old} {new} {result} err only unread = go result err unread
    where
      go : (result : Result Reply Status) → IsErr result → IfErr result (IsUnread (told old) (files old) file name limit (faults old) (faults new) (failed old) (failed new))
          → Walks told files faults failed (Ask file name limit rest) old new result
      go (Ok reply) err unread = absurd (cc)
      go (Err s) err unread = record { only = only; reply = tt; quiet = tt; stop = inl unread; apart = tt }

  -- nothing more was read, after files that were
  pub walks_end : {answer : Result Reply Status} {old new : S} {result : Result Reply Status}
      → OnlyReads told files faults old new → NoneFailed (faults old) (faults new) (failed old) (failed new)
      → Answers (λ reply. reply) result answer → IfOk result (λ reply. AreApart reply.outputs)
      → Walks told files faults failed (End answer) old new result
  walks_end {answer} {old} {new} {result} only quiet answers apart = go result answers apart
    where
      go : (result : Result Reply Status) → Answers (λ reply. reply) result answer → IfOk result (λ reply. AreApart reply.outputs) → Walks told files faults failed (End answer) old new result
      go (Ok reply) answers apart = record { only = only; reply = answers; quiet = quiet; stop = tt; apart = apart }
      go (Err s) answers apart = record { only = only; reply = tt; quiet = tt; stop = (answers, quiet); apart = tt }

module _ {S : Type 0} {told : S → Bool} {files : S → Files} {faults : S → ℕ} {failed : S → Option Call} where
  -- a file was read in a call before, whose bytes are told of the shelf as it was
  pub walks_read : {file : Which} {name : List ℕ} {limit : ℕ} {rest : List ℕ → Reads} {bytes : List ℕ} {old new : S} {result : Result Reply Status}
      → AreBytes (told old) (files old) name limit bytes
      → Walks told files faults failed (rest bytes) old new result → Walks told files faults failed (Ask file name limit rest) old new result
  walks_read are walks = walks_on (record { tells = refl; stands = refl; grows = omega arith }) are (refl, refl) walks

  -- the three files of the coupled run were
  pub walks_inputs : {grid names start : List ℕ} {inputs : Inputs} {rest : List ℕ → List ℕ → List ℕ → Reads} {old new : S} {result : Result Reply Status}
      → AreInputs (told old) (files old) grid names start inputs
      → Walks told files faults failed (rest inputs.grid.items inputs.names.items inputs.start.items) old new result
      → Walks told files faults failed (ask_inputs grid names start rest) old new result
  walks_inputs are walks = walks_read are.grid_bytes (walks_read are.names_bytes (walks_read are.start_bytes walks))

  -- a command that reads no file
  pub walks_nowhere : {answer : Result Reply Status} {shelf : S} {result : Result Reply Status}
      → Answers (λ reply. reply) result answer → IfOk result (λ reply. AreApart reply.outputs)
      → Walks told files faults failed (End answer) shelf shelf result
  walks_nowhere answers apart = walks_end (record { tells = refl; stands = refl; grows = omega arith }) (refl, refl) answers apart

-- A loop that reads: where one tree leads to another, what comes of the second comes of the first.
module _ (told : Bool) (files : Files) where
  pub leads_here : (reads : Reads) → Leads told files reads reads
  leads_here (Ask file name limit rest) = inl refl
  leads_here (End answer) = refl

  -- one file more
  pub leads_on : (from : Reads) (file : Which) (name : List ℕ) (limit : ℕ) (rest : List ℕ → Reads) (bytes : List ℕ)
      → Leads told files from (Ask file name limit rest) → AreBytes told files name limit bytes → Leads told files from (rest bytes)
  leads_on (Ask first first_name first_limit first_rest) file name limit rest bytes (inl same) are =
      subst (λ reads. Leads told files reads (rest bytes)) (sym same) (inr (bytes, are, leads_here (rest bytes)))
  leads_on (Ask first first_name first_limit first_rest) file name limit rest bytes (inr on) are =
      inr (on.0, on.1, leads_on (first_rest on.0) file name limit rest bytes on.2 are)
  leads_on (End answer) file name limit rest bytes same are = absurd (cc)

  pub leads_comes : (from to : Reads) (reply : Reply) → Leads told files from to → ComesTo told files to reply → ComesTo told files from reply
  leads_comes (Ask file name limit rest) to reply (inl same) comes = subst (λ reads. ComesTo told files reads reply) (sym same) comes
  leads_comes (Ask file name limit rest) to reply (inr on) comes = (on.0, on.1, leads_comes (rest on.0) to reply on.2 comes)
  leads_comes (End answer) to reply same comes = subst (λ reads. ComesTo told files reads reply) (sym same) comes

module _ (told : Bool) (files : Files) (before now : ℕ) (was last : Option Call) where
  pub leads_stops : (from to : Reads) (s : Status) → Leads told files from to → StopsWith told files before now was last to s → StopsWith told files before now was last from s
  leads_stops (Ask file name limit rest) to s (inl same) stops = subst (λ reads. StopsWith told files before now was last reads s) (sym same) stops
  leads_stops (Ask file name limit rest) to s (inr on) stops = inr (on.0, on.1, leads_stops (rest on.0) to s on.2 stops)
  leads_stops (End answer) to s same stops = subst (λ reads. StopsWith told files before now was last reads s) (sym same) stops

  -- memory may run out anywhere
  pub memory_stops : (reads : Reads) → NoneFailed before now was last → StopsWith told files before now was last reads status.Memory
  memory_stops (Ask file name limit rest) quiet = inl (inr (inr (refl, quiet)))
  memory_stops (End answer) quiet = (tt, quiet)
