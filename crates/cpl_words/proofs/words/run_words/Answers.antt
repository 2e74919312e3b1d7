use Rattle.std.proofs.Common.{◌≡◌, ◌∙◌, ap, sym, true, false, inl, inr, rules, None, string_bytes}
use Rattle.std.proofs.lemmas.Result.{IfOk-weaker}
use Rattle.std.specs.List.{list_any}
use denote.Enum.Bare.{same_false}
use Rattle.clap.specs.contracts.error.kind.ErrorKind.{the_type}
use Rattle.clap.specs.declared.error.kind.ErrorKind.TheVariants.{OutOfMemory}
use Rattle.clap.specs.Words.{app_of, is_simple_and_free, kind_of}
use Rattle.cpl_words.specs.Arguments.{texts}
use Rattle.cpl_words.specs.Words.{run_words_of}
use Rattle.cpl_words.specs.Found.{begins_with_run, is_separator}
use Rattle.cpl_words.proofs.Agrees.{are_words}
use Rattle.cpl_words.proofs.Answered.{any_text, not_run, read_right, read_wrong, separator_refused}
use Rattle.cpl_words.proofs.Steps.{run_is_simple}
use Rattle.cpl_words.proofs.words.run_words.Goals as goal
use Rattle.cpl_words.proofs.words.run_words.Goals.{then-not-begins_with_run-via-then-not-begins_with_run, then-not-begins_with_run-via-else-not-begins_with_run+then-has_separator}

-- what the reader found
pub returns-in-Ok : goal.returns-in-Ok
returns-in-Ok c =
    let command = c.in_ok-run_command.field-0 in
    let is = c.in_ok-run_command.ensures in
    let begins : begins_with_run (texts c.args.words.now) ≡ true = search rules in
    let apart : list_any (λ word. is_separator (string_bytes word)) c.args.words.now ≡ false = search rules in
    let are = are_words c.args.words.now (sym (any_text c.args.words.now) ∙ apart) in
    let read = read_right (app_of command) (texts c.args.words.now) c.in-Ok.matches is begins are
    (c.in-Ok.ensures.kinds (ap is_simple_and_free is ∙ run_is_simple)) c.in-Ok.ensures.matches in
    record { exact = IfOk-weaker c.run_in.result _ _ (λ run e. e ∙ read) c.run_in.ensures.exact; range = c.run_in.ensures.range }

-- what the reader refused
pub returns-in-Err-2 : goal.returns-in-Err-2
returns-in-Err-2 c =
    let command = c.in_ok-run_command.field-0 in
    let is = c.in_ok-run_command.ensures in
    let begins : begins_with_run (texts c.args.words.now) ≡ true = search rules in
    let apart : list_any (λ word. is_separator (string_bytes word)) c.args.words.now ≡ false = search rules in
    let are = are_words c.args.words.now (sym (any_text c.args.words.now) ∙ apart) in
    let same : c.in-Err-2.field-0 ≡ c.in-Err.error = cc (c.in-Err.is, c.in-Err-2.is) in
    let none : run_words_of (texts c.args.words.now) ≡ None = elim (c.in-Err-2.ensures.kinds (ap is_simple_and_free is ∙ run_is_simple)) [
      | inl memory ↦ absurd (same_false the_type c.kind.result OutOfMemory (sym c.eq.ensures ∙ c.if-eq.false) (c.kind.ensures ∙ sym (ap kind_of same) ∙ memory))
      | inr among ↦ read_wrong (app_of command) (texts c.args.words.now) (kind_of c.in-Err-2.field-0) is begins are among
    ] in
    record { exact = sym none; range = tt }

-- other words
pub returns-then-not-begins_with_run : goal.returns-then-not-begins_with_run
returns-then-not-begins_with_run c =
    let none : run_words_of (texts c.args.words.now) ≡ None = elim c.then-not-begins_with_run.branch [
      | then-not-begins_with_run-via-then-not-begins_with_run w ↦
          let other : begins_with_run (texts c.args.words.now) ≡ false = search rules in not_run (texts c.args.words.now) other
      | then-not-begins_with_run-via-else-not-begins_with_run+then-has_separator w ↦
          let begins : begins_with_run (texts c.args.words.now) ≡ true = search rules in
          let marked : list_any (λ word. is_separator (string_bytes word)) c.args.words.now ≡ true = search rules in
          separator_refused (texts c.args.words.now) begins (sym (any_text c.args.words.now) ∙ marked)
    ] in
    record { exact = sym none; range = tt }
