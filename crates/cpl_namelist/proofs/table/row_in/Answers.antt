use Rattle.std.proofs.Common.{sym}
use Rattle.std.proofs.lemmas.List.{get_or-map}
use Rattle.cpl_namelist.specs.declared.table.Entry.{Entry}
use Rattle.cpl_namelist.specs.Table.{no_row}
use Rattle.cpl_namelist.proofs.table.row_in.Goals as goal

pub returns : goal.returns
returns c = sym (get_or-map (λ (entry : Entry). entry.row) c.args.table.now c.args.place _ no_row c.requires)
