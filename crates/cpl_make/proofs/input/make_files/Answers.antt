use Rattle.std.proofs.Common.{◌≡◌, ◌∙◌, sym, ap, subst, arith, ℕ, List, length, Ok}
use Rattle.cpl_xgrid.specs.declared.grid.Grid.{Grid}
use Rattle.cpl_xgrid.specs.Grids.{IsGrid}
use Rattle.cpl_gridfile.specs.CoupledGrid.{grid_text, IsCoupledGrid}
use Rattle.cpl_namelist.specs.Names.{reading}
use Rattle.cpl_made_grid.specs.Grids.{made_grid}
use Rattle.cpl_made_grid.proofs.GridLaws.{made_lawful}
use Rattle.cpl_make.proofs.Spelled.{made_spelled}
use Rattle.cpl_make.proofs.TextSizes.{grid_most}
use Rattle.cpl_make.proofs.NamesLaws.{names_read, names_most}
use Rattle.cpl_make.proofs.BudgetLaws.{plan_none}
use Rattle.cpl_make.proofs.input.make_files.Goals as goal

pub print_grid-requires : goal.print_grid-requires
print_grid-requires c =
    let lawful = subst IsGrid (sym c.requires.grid) (made_lawful c.args.recipe c.requires.size) in
    record { air = lawful.air; land = lawful.land; ocean = lawful.ocean }

pub start_bytes-requires-clause-lawful : goal.start_bytes-requires-clause-lawful
start_bytes-requires-clause-lawful c = subst IsGrid (sym c.requires.grid) (made_lawful c.args.recipe c.requires.size)

pub returns : goal.returns
returns c =
    let recipe = c.args.recipe in
    let sized = c.requires.size in
    let few = c.requires.steps in
    let is = c.requires.grid in
    let text : c.in_ok-print_grid.field-0.items ≡ grid_text (made_grid recipe) = c.in_ok-print_grid.ensures.text ∙ ap grid_text is in
    let names = c.in_ok-names_text.ensures in
    let grid_length = ap (λ (bytes : List ℕ). length bytes) text in
    let names_length = ap (λ (bytes : List ℕ). length bytes) names in
    let grid_few = grid_most recipe sized in
    let names_few = names_most c.args.steps few in
    let start = c.in_ok-start_bytes.ensures in
    record {
      grid = text;
      names = names;
      start = start.spelled;
      grid_limit = omega arith;
      names_limit = omega arith;
      start_limit = start.limit;
      grid_read = c.in_ok-print_grid.ensures.again (subst IsCoupledGrid (sym is) (made_spelled recipe sized)) ∙ ap (λ (grid : Grid). Ok grid) is;
      names_read = ap reading names ∙ names_read c.args.steps few;
      start_read = start.back;
      lawful = plan_none recipe c.args.steps sized few;
    }
