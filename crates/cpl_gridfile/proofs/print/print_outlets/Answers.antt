use Rattle.std.proofs.Common.{◌≡◌, ◌++◌, ◌∷◌, [], length, get_or, codes, rules}
use Rattle.cpl_lines.specs.Lines.{line_text, row}
use Rattle.cpl_lines.proofs.Printed.{nothing_yet, one_more, all_printed}
use Rattle.cpl_gridfile.proofs.PrintedLines.{outlet_text, no_outlet, outlets_are_printed}
use Rattle.cpl_gridfile.proofs.print.print_outlets.Goals as goal

pub loop-outlet-init : goal.loop-outlet-init
loop-outlet-init c = nothing_yet outlet_text c.args.outlets.now c.print_row.new.text.items

pub loop-outlet-preserved : goal.loop-outlet-preserved
loop-outlet-preserved c =
    let grown : c.print_outlet.new.text.items ≡ c.loop-outlet.text.items ++ outlet_text (get_or c.args.outlets.now c.loop-outlet.outlet-index no_outlet) = c.in_ok-print_outlet.ensures {u = tt} in
    one_more outlet_text c.args.outlets.now c.print_row.new.text.items c.loop-outlet.outlet-index no_outlet c.loop-outlet.text.items c.print_outlet.new.text.items
    c.loop-outlet-test.true c.loop-outlet.invariant grown

pub returns : goal.returns
returns c =
    let counted : c.print_row.new.text.items ≡ c.args.text.now.items ++ line_text (row (codes "outlets") (length c.args.outlets.now ∷ [])) = search rules in
    outlets_are_printed c.args.outlets.now c.args.text.now.items c.print_row.new.text.items c.loop-outlet.text.items counted
    (all_printed outlet_text c.args.outlets.now c.print_row.new.text.items c.loop-outlet.outlet-index c.loop-outlet.text.items c.loop-outlet-test.false c.loop-outlet.invariant)
