use Rattle.std.proofs.Common.{◌≡◌, ◌∙◌, ◌++◌, [], ap, codes, map, rules}
use Rattle.std.specs.List.{flat_map}
use Rattle.cpl_lines.specs.Lines.{line_text, row}
use Rattle.cpl_gridfile.specs.declared.next_line.GridMesh.TheVariants as mesh
use Rattle.cpl_gridfile.specs.declared.next_line.GridList.TheVariants as list
use Rattle.cpl_gridfile.specs.MeshFormat.{mesh_lines}
use Rattle.cpl_gridfile.specs.CoupledGrid.{row_line, outlet_line, column_line, list_lines, coupled_grids, grid_text, parts_of_grid}
use Rattle.cpl_gridfile.specs.Reading.{coupled_grid_of}
use Rattle.cpl_gridfile.proofs.PrintedLines.{chain, grid_printed}
use Rattle.cpl_gridfile.proofs.Laws.{grid_reads}
use Rattle.cpl_gridfile.proofs.CoupledLaws.{coupled_agrees}
use Rattle.cpl_gridfile.proofs.print.print_grid.Goals.{In_ok-print_row-3}
use Rattle.cpl_gridfile.proofs.print.print_grid.Goals as goal

text_is : (c : In_ok-print_row-3) → c.print_row-3.new.text.items ≡ grid_text c.args.grid.now
text_is c =
    let head : c.print_row.new.text.items ≡ line_text (row (codes "grid 1 coupled") []) = search rules in
    let air : c.print_mesh.new.text.items ≡ c.print_row.new.text.items ++ flat_map line_text (mesh_lines mesh.Atmos c.args.grid.now.air) = search rules in
    let land : c.print_mesh-2.new.text.items ≡ c.print_mesh.new.text.items ++ flat_map line_text (mesh_lines mesh.Land c.args.grid.now.land) = search rules in
    let ocean : c.print_mesh-3.new.text.items ≡ c.print_mesh-2.new.text.items ++ flat_map line_text (mesh_lines mesh.Ocean c.args.grid.now.ocean) = search rules in
    let column : c.print_row-2.new.text.items ≡ c.print_mesh-3.new.text.items ++ line_text (column_line c.args.grid.now.column) = search rules in
    let land_list : c.print_exchange_cells.new.text.items ≡ c.print_row-2.new.text.items ++ flat_map line_text (list_lines list.Land (map row_line c.args.grid.now.xgrid.land_rows)) = search rules in
    let ocean_list : c.print_exchange_cells-2.new.text.items ≡ c.print_exchange_cells.new.text.items
    ++ flat_map line_text (list_lines list.Ocean (map row_line c.args.grid.now.xgrid.ocean_rows)) = search rules in
    let outlets : c.print_outlets.new.text.items ≡ c.print_exchange_cells-2.new.text.items
    ++ flat_map line_text (list_lines list.Outlets (map outlet_line c.args.grid.now.xgrid.outlets)) = search rules in
    let last : c.print_row-3.new.text.items ≡ c.print_outlets.new.text.items ++ line_text (row (codes "end") []) = search rules in
    chain _ _ _ _ _ _ _ _ _ _ _ _ _ _ _ _ _ _ head air land ocean column land_list ocean_list outlets last
    ∙ grid_printed (parts_of_grid c.args.grid.now)

pub returns-clause-text : goal.returns-clause-text
returns-clause-text c = text_is c

pub returns-clause-again : goal.returns-clause-again
unfolding coupled_grid_of
returns-clause-again c = λ is. ap coupled_grid_of (text_is c) ∙ grid_reads coupled_grids coupled_agrees c.args.grid.now is
