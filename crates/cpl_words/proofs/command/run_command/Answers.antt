use Rattle.std.proofs.Common.{◌≡◌, ◌∙◌, ap, ap₂, codes, false, rules}
use Rattle.std.proofs.lemmas.Result.{IfOk-weaker}
use Rattle.clap.specs.Words.{AddsArg, app_of, new_app, rule_of, with_rule}
use Rattle.clap.specs.Simple.{app_of_fields}
use Rattle.clap.specs.declared.builder.command.Command.{Command}
use Rattle.cpl_words.specs.Command.{without_help, workers_rule}
use Rattle.cpl_words.proofs.command.run_command.Goals as goal

pub returns : goal.returns
returns c =
    let bare : app_of c.disable_help_flag.result ≡ without_help (new_app (codes "run")) = ap app_of_fields c.disable_help_flag.ensures ∙ ap without_help c.new-2.ensures.app in
    let grid = c.in_ok-arg.ensures.shape c.argument.ensures.local ∙ ap₂ with_rule bare c.argument.ensures.rule in
    let names = c.in_ok-arg-2.ensures.shape c.argument-2.ensures.local ∙ ap₂ with_rule grid c.argument-2.ensures.rule in
    let start = c.in_ok-arg-3.ensures.shape c.argument-3.ensures.local ∙ ap₂ with_rule names c.argument-3.ensures.rule in
    let out = c.in_ok-arg-4.ensures.shape c.argument-4.ensures.local ∙ ap₂ with_rule start c.argument-4.ensures.rule in
    let workers : rule_of c.action-workers.result ≡ workers_rule = search rules in
    let local : c.action-workers.result.global ≡ false = search rules in
    IfOk-weaker c.arg-5.result _ _ (λ (r : Command) (e : AddsArg c.in_ok-arg-4.field-0 c.action-workers.result r). e.shape local ∙ ap₂ with_rule out workers) c.arg-5.ensures
