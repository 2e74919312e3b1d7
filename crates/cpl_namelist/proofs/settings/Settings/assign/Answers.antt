use Rattle.std.proofs.Common.{List, Option, Some, Result, Ok, ℕ, sym, ap, ◌∙◌}
use Rattle.std.specs.Prelude.{option_map}
use Rattle.std.proofs.lemmas.List.{map-set}
use Rattle.cpl_namelist.specs.declared.fault.NamesError.{NamesError}
use Rattle.cpl_namelist.specs.declared.numbers.Numbers.{Numbers}
use Rattle.cpl_namelist.specs.declared.table.Row.{Row}
use Rattle.cpl_namelist.specs.Tokens.{tokens_from}
use Rattle.cpl_namelist.specs.Table.{name_in_group}
use Rattle.cpl_namelist.specs.Numbers.{listed, fitting}
use Rattle.cpl_namelist.specs.Settings.{Choices, choices}
use Rattle.cpl_namelist.proofs.Judged.{assigned_ok}
use Rattle.cpl_namelist.proofs.settings.Settings.assign.Goals as goal

abbrev with_given : Choices → List (Option (List ℕ)) → Result Choices NamesError
with_given chosen given = Ok (record { group = chosen.group; groups = chosen.groups; given = given })

pub returns : goal.returns
returns c =
    let chosen = choices c.args.self.now in
    let others = tokens_from 0 c.args.line c.args.rest.now in
    let numbers = c.in-Some-numbers_in.numbers in
    let fits = sym c.in-Some-numbers_in.ensures in
    assigned_ok chosen c.args.token.line others (name_in_group chosen.group c.args.token.text.now) c.in-Some.place (listed numbers) (sym c.in-Some.ensures.value)
    (sym c.is_given.ensures ∙ c.if-is_given.false)
    (ap (λ (row : Row). fitting row others) (sym c.row_at.ensures.value) ∙ fits)
    ∙ ap (with_given chosen) (sym (map-set (λ (n : Option Numbers). option_map listed n) c.args.self.now.given c.in-Some.place (Some numbers)))
