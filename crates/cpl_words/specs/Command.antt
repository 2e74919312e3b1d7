-- What the reader of command lines is told of the command `run`.
use Rattle.std.specs.Prelude.{codes, Some, true}
use Rattle.clap.specs.Words.{App, Rule, new_app, new_rule, with_rule}
use Rattle.clap.specs.declared.builder.action.ArgAction.TheVariants.{Set}
use Rattle.cpl_words.specs.Arguments.{Text}

-- an argument that must be given
abbrev pub argument_rule : Text → Rule
argument_rule id = record (new_rule id) { required = true }

-- an option with one value, which may be given once
abbrev pub workers_rule : Rule
workers_rule = record (new_rule (codes "workers")) { long = Some (codes "workers"); action = Some Set }

-- without `--help`
abbrev pub without_help : App → App
without_help app = record app { top = record app.top { disable_help_flag = true } }

-- four arguments and the option
abbrev pub run_app : App
run_app = with_rule (with_rule (with_rule (with_rule (with_rule (without_help (new_app (codes "run"))) (argument_rule (codes "grid"))) (argument_rule (codes "names")))
    (argument_rule (codes "start"))) (argument_rule (codes "out"))) workers_rule
