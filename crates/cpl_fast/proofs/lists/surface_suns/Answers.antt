use Rattle.cpl_fast.specs.Stages.{step_of}
use Rattle.cpl_fast.proofs.ToSuns.{airs_seen, in_cells, some, strength_natural, sun_in_range, sun_natural, suns_are, suns_clear}
use Rattle.cpl_fast.proofs.lists.surface_suns.Goals as goal

pub list_suns-requires-clause-strength : goal.list_suns-requires-clause-strength
list_suns-requires-clause-strength c = strength_natural (step_of c.args.view.now) c.step_law.ensures _ _ c.as_slice-sun.ensures c.as_slice-area.ensures

pub list_suns-requires-clause-airs : goal.list_suns-requires-clause-airs
list_suns-requires-clause-airs c = airs_seen (step_of c.args.view.now) c.step_law.ensures _ _ c.as_slice-sun.ensures c.as_slice-area.ensures c.args.list c.args.tables.now c.requires.tables c.requires.elements

pub list_suns-requires-clause-least : goal.list_suns-requires-clause-least
list_suns-requires-clause-least c = sun_natural (step_of c.args.view.now) c.step_law.ensures _ _ c.as_slice-sun.ensures c.as_slice-area.ensures

pub list_suns-requires-clause-most : goal.list_suns-requires-clause-most
list_suns-requires-clause-most c = sun_in_range (step_of c.args.view.now) c.step_law.ensures _ _ c.as_slice-sun.ensures c.as_slice-area.ensures

pub list_suns-requires-clause-can : goal.list_suns-requires-clause-can
list_suns-requires-clause-can c = in_cells (step_of c.args.view.now) c.step_law.ensures _ _ c.as_slice-sun.ensures c.as_slice-area.ensures c.args.list c.args.tables.now c.requires.tables c.requires.elements

pub list_suns-requires-clause-some : goal.list_suns-requires-clause-some
list_suns-requires-clause-some c = some (step_of c.args.view.now) c.step_law.ensures _ _ c.as_slice-sun.ensures c.as_slice-area.ensures c.args.list c.args.tables.now c.requires.tables c.requires.elements

pub returns-clause-suns : goal.returns-clause-suns
returns-clause-suns c = suns_are (step_of c.args.view.now) c.step_law.ensures _ _ c.as_slice-sun.ensures c.as_slice-area.ensures c.args.list c.args.tables.now c.requires.tables c.requires.elements c.list_suns.new.flows c.list_suns.ensures

pub returns-clause-clear : goal.returns-clause-clear
returns-clause-clear c = suns_clear (step_of c.args.view.now) c.step_law.ensures _ _ c.as_slice-sun.ensures c.as_slice-area.ensures c.args.list c.args.tables.now c.requires.tables c.requires.elements c.list_suns.new.flows c.list_suns.ensures
