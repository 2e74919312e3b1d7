-- What follows, for every tree, from a walk of it.
use Rattle.std.proofs.Common.{◌≡◌, ◌∙◌, sym, ap, refl, subst, ℕ, ◌≤◌, ◌<◌, List, length, nat_lt, arith, Bool, true, false, cond, IsTrue, Option, Some, None, Result, Ok, Err, inl, inr, ◌⊎◌}
use Rattle.std.specs.Prelude.{IfOk, IfErr}
use Rattle.std.proofs.lemmas.Bool.Decides.{nat_tests}
use Rattle.cpl_io.specs.Causes.{Call, Reading, Rose}
use Rattle.cpl_io.specs.Files.{Files, bytes_of}
use Rattle.cpl_top.specs.Causes.{Refuses, Prepares, Stops, IsRefusal, ShelfFaults}
use Rattle.cpl_top.specs.Replies.{status_of}
use Rattle.cpl_top.specs.Failures.{FailedReading}
use Rattle.cpl_top.specs.Prepared.{IsPrepared}
use Rattle.cpl_top.specs.Reads.{Reads, Ask, End, answer_from, AreBytes, Asks, ComesTo, IsUnread, StopsWith, NoneFailed, Runs}
use Rattle.cpl_top.specs.declared.output.Reply.{Reply}
use Rattle.cpl_top.specs.declared.status.Which.{Which}
use Rattle.cpl_top.specs.declared.status.Status.{Status}
use Rattle.cpl_top.specs.declared.status.Status.TheVariants as status

-- a test of two numbers, by its value
within_passes : {A : Type 0} (limit n : ℕ) (a b : A) → n ≤ limit → cond (nat_lt limit n) a b ≡ b
within_passes limit n a b h = grind (arith, nat_tests)

beyond_fails : {A : Type 0} (limit n : ℕ) (a b : A) → limit < n → cond (nat_lt limit n) a b ≡ a
beyond_fails limit n a b h = grind (arith, nat_tests)

module _ (files : Files) where
  -- where files are told, the walk goes on as the answer does
  goes_on : (file : Which) (name : List ℕ) (limit : ℕ) (rest : List ℕ → Reads) (bytes : List ℕ) → AreBytes true files name limit bytes
      → answer_from files (Ask file name limit rest) ≡ answer_from files (rest bytes)
  goes_on file name limit rest bytes are =
      let same : bytes ≡ bytes_of files name = are.same refl in
      within_passes limit (length (bytes_of files name)) _ _ (omega (arith, are.within, ap length same))
      ∙ ap (λ b. answer_from files (rest b)) (sym same)

  reply_answers : (reads : Reads) (reply : Reply) → ComesTo true files reads reply → answer_from files reads ≡ Ok reply
  reply_answers (Ask file name limit rest) reply on = goes_on file name limit rest on.0 on.1 ∙ reply_answers (rest on.0) reply on.2
  reply_answers (End answer) reply is = is

  unread_stops : (file : Which) (name : List ℕ) (limit : ℕ) (rest : List ℕ → Reads) (before now : ℕ) (was last : Option Call) (s : Status)
      → IsUnread true files file name limit before now was last s → Stops s (answer_from files (Ask file name limit rest))
  unread_stops file name limit rest before now was last s (inl failing) = subst (λ s. Stops s (answer_from files (Ask file name limit rest))) (sym failing.0) tt
  unread_stops file name limit rest before now was last s (inr (inl long)) =
      subst (λ s. Stops s (answer_from files (Ask file name limit rest))) (sym long.0) (beyond_fails limit (length (bytes_of files name)) _ _ (long.1 refl))
  unread_stops file name limit rest before now was last s (inr (inr memory)) = subst (λ s. Stops s (answer_from files (Ask file name limit rest))) (sym memory.0) tt

  stop_answers : (before now : ℕ) (was last : Option Call) (reads : Reads) (s : Status) → StopsWith true files before now was last reads s → Stops s (answer_from files reads)
  stop_answers before now was last (Ask file name limit rest) s (inl unread) = unread_stops file name limit rest before now was last s unread
  stop_answers before now was last (Ask file name limit rest) s (inr on) =
      subst (Stops s) (sym (goes_on file name limit rest on.0 on.1)) (stop_answers before now was last (rest on.0) s on.2)
  stop_answers before now was last (End answer) s refuses = end_stops s refuses.0
    where
      end_stops : (s : Status) → Refuses s answer → Stops s answer
      end_stops (status.Read this) is = tt
      end_stops (status.TooLong this) is = absurd is
      end_stops status.Usage is = absurd is
      end_stops _ is = is

module _ (told : Bool) (files : Files) (before now : ℕ) (was last : Option Call) where
  stop_reads : (reads : Reads) (file : Which) → StopsWith told files before now was last reads (status.Read file)
      → Rose before now × ((name : List ℕ) × Asks told files reads file name × (last ≡ Some (Reading name)))
  stop_reads (Ask next name limit rest) file (inl (inl failing)) =
      let same : file ≡ next = cc in
      (failing.1, (name, inl (same, refl), failing.2))
  stop_reads (Ask next name limit rest) file (inl (inr (inl long))) = absurd (cc)
  stop_reads (Ask next name limit rest) file (inl (inr (inr memory))) = absurd (cc)
  stop_reads (Ask next name limit rest) file (inr on) =
      let then = stop_reads (rest on.0) file on.2 in
      (then.0, (then.1.0, inr (on.0, on.1, then.1.1), then.1.2))
  stop_reads (End answer) file refuses = absurd refuses.0

  stop_refuses : (reads : Reads) (s : Status) → StopsWith told files before now was last reads s → IsRefusal s
  stop_refuses (Ask next name limit rest) s (inl (inl failing)) = subst IsRefusal (sym failing.0) tt
  stop_refuses (Ask next name limit rest) s (inl (inr (inl long))) = subst IsRefusal (sym long.0) tt
  stop_refuses (Ask next name limit rest) s (inl (inr (inr memory))) = subst IsRefusal (sym memory.0) tt
  stop_refuses (Ask next name limit rest) s (inr on) = stop_refuses (rest on.0) s on.2
  stop_refuses (End answer) s refuses = end_refuses s refuses.0
    where
      end_refuses : (s : Status) → Refuses s answer → IsRefusal s
      end_refuses status.Done is = is
      end_refuses (status.Write this) is = is
      end_refuses status.Print is = is
      end_refuses _ is = tt

  stop_faults : (reads : Reads) (s : Status) → StopsWith told files before now was last reads s → ShelfFaults s before now was last
  stop_faults (Ask next name limit rest) s (inl (inl failing)) = subst (λ s. ShelfFaults s before now was last) (sym failing.0) tt
  stop_faults (Ask next name limit rest) s (inl (inr (inl long))) = subst (λ s. ShelfFaults s before now was last) (sym long.0) long.2
  stop_faults (Ask next name limit rest) s (inl (inr (inr memory))) = subst (λ s. ShelfFaults s before now was last) (sym memory.0) memory.1
  stop_faults (Ask next name limit rest) s (inr on) = stop_faults (rest on.0) s on.2
  stop_faults (End answer) s refuses = end_faults s refuses.1
    where
      end_faults : (s : Status) → NoneFailed before now was last → ShelfFaults s before now was last
      end_faults (status.Read this) none = tt
      end_faults (status.Write this) none = tt
      end_faults _ none = none

  -- a command's tree ends in no usage
  stop_serves : (reads : Reads) → StopsWith told files before now was last reads status.Usage → ⊥
  stop_serves (Ask next name limit rest) (inl (inl failing)) = cc
  stop_serves (Ask next name limit rest) (inl (inr (inl long))) = cc
  stop_serves (Ask next name limit rest) (inl (inr (inr memory))) = cc
  stop_serves (Ask next name limit rest) (inr on) = stop_serves (rest on.0) on.2
  stop_serves (End answer) refuses = refuses.0

-- What follows from a run of words, which may be no command.
module _ {S : Type 0} (told : S → Bool) (files : S → Files) (faults : S → ℕ) (failed : S → Option Call) (old new : S) where
  walks_answer : (reads : Reads) (t : Bool) → IsTrue t → (result : Result Reply Status) → IfOk result (ComesTo t (files old) reads)
      → IfErr result (StopsWith t (files old) (faults old) (faults new) (failed old) (failed new) reads) → Prepares result (answer_from (files old) reads)
  walks_answer reads false is result comes stops = absurd (cc)
  walks_answer reads true is (Ok reply) comes stops = reply_answers (files old) reads reply comes
  walks_answer reads true is (Err s) comes stops = stop_answers (files old) (faults old) (faults new) (failed old) (failed new) reads s stops

  walks_usage : (reads : Reads) (s : Status) → StopsWith (told old) (files old) (faults old) (faults new) (failed old) (failed new) reads s → s ≡ status.Usage → ⊥
  walks_usage reads s stops e =
      stop_serves (told old) (files old) (faults old) (faults new) (failed old) (failed new) reads
      (subst (StopsWith (told old) (files old) (faults old) (faults new) (failed old) (failed new) reads) e stops)

  walks_read : (reads : Reads) (s : Status) → StopsWith (told old) (files old) (faults old) (faults new) (failed old) (failed new) reads s → (file : Which) → s ≡ status.Read file
      → FailedReading (told old) (files old) (Some reads) file (faults old) (faults new) (failed new)
  walks_read reads s stops file e =
      stop_reads (told old) (files old) (faults old) (faults new) (failed old) (failed new) reads file
      (subst (StopsWith (told old) (files old) (faults old) (faults new) (failed old) (failed new) reads) e stops)

  -- words that are no command
  none_prepared : old ≡ new → IsPrepared told files faults failed None old new (Err status.Usage)
  none_prepared same = record {
    only_reads = record { tells = ap told (sym same); stands = ap files (sym same); grows = omega (arith, ap faults same) };
    answer = λ tells. refl;
    usage = (λ e. refl, λ e. refl);
    read = λ file e. absurd (cc);
    shelf_faults = (ap faults (sym same), ap failed (sym same));
    quiet = tt;
    reply = tt;
    apart = tt;
    only_refusals = tt;
  }

  pub runs_prepared : (command : Option Reads) (result : Result Reply Status) → Runs told files faults failed command old new result
      → IsPrepared told files faults failed command old new result
  runs_prepared None result is = subst (IsPrepared told files faults failed None old new) (sym is.1) (none_prepared (sym is.0))
  runs_prepared (Some reads) (Ok reply) walks = record {
    only_reads = walks.only;
    answer = λ tells. walks_answer reads (told old) tells (Ok reply) walks.reply walks.stop;
    usage = (λ e. absurd (cc), λ e. absurd (cc));
    read = λ file e. absurd (cc);
    shelf_faults = tt;
    quiet = walks.quiet;
    reply = walks.reply;
    apart = walks.apart;
    only_refusals = tt;
  }
  runs_prepared (Some reads) (Err s) walks = record {
    only_reads = walks.only;
    answer = λ tells. walks_answer reads (told old) tells (Err s) walks.reply walks.stop;
    usage = (λ e. absurd (walks_usage reads s walks.stop (cc)), λ e. absurd (cc));
    read = λ file e. walks_read reads s walks.stop file (cc);
    shelf_faults = stop_faults (told old) (files old) (faults old) (faults new) (failed old) (failed new) reads s walks.stop;
    quiet = tt;
    reply = tt;
    apart = tt;
    only_refusals = stop_refuses (told old) (files old) (faults old) (faults new) (failed old) (failed new) reads s walks.stop;
  }

-- where no reading failed, a refusal is the answer's, unless memory ran out
pub refusal_complete : (s : Status) (answer : Result Reply Status) → Stops s answer → ((file : Which) → s ≡ status.Read file → ⊥) → (s ≡ status_of answer) ⊎ (s ≡ status.Memory)
refusal_complete status.Done answer is none = absurd is
refusal_complete (status.Write file) answer is none = absurd is
refusal_complete status.Print answer is none = absurd is
refusal_complete (status.Read file) answer is none = absurd (none file refl)
refusal_complete status.Memory answer is none = inr refl
refusal_complete s answer is none = inl (sym (ap status_of is))

pub reading_rose : (told : Bool) (files : Files) (command : Option Reads) (file : Which) (before now : ℕ) (last : Option Call) → FailedReading told files command file before now last → Rose before now
reading_rose told files None file before now last is = absurd is
reading_rose told files (Some reads) file before now last is = is.0
