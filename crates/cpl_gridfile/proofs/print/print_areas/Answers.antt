use Rattle.std.proofs.Common.{◌≡◌, ◌∙◌, ap, ◌++◌, List, ℕ, codes, rules, get_or, pos}
use Rattle.std.specs.List.{flat_map}
use Rattle.cpl_lines.proofs.Printed.{nothing_yet, one_more, all_printed, on_ok}
use Rattle.cpl_gridfile.proofs.PrintedLines.{area_text, areas_printed}
use Rattle.cpl_gridfile.proofs.print.print_areas.Goals as goal

pub loop-area-init : goal.loop-area-init
loop-area-init c = nothing_yet area_text c.args.areas.now c.extend_from_slice.new.self.items

pub loop-area-preserved : goal.loop-area-preserved
loop-area-preserved c =
    let grown : c.print_number.new.text.items ≡ c.loop-area.text.items ++ area_text (get_or c.args.areas.now c.loop-area.area-index (pos 0)) = search rules in
    one_more area_text c.args.areas.now c.extend_from_slice.new.self.items c.loop-area.area-index (pos 0) c.loop-area.text.items c.print_number.new.text.items
    c.loop-area-test.true c.loop-area.invariant grown

pub returns : goal.returns
returns c =
    let printed = all_printed area_text c.args.areas.now c.extend_from_slice.new.self.items c.loop-area.area-index c.loop-area.text.items c.loop-area-test.false c.loop-area.invariant in
    let word : c.extend_from_slice.new.self.items ≡ c.args.text.now.items ++ codes "area" = search rules in
    let with_word = printed ∙ ap (λ (l : List ℕ). l ++ flat_map area_text c.args.areas.now) word in
    on_ok c.print_end.result (λ ended. ended ∙ areas_printed c.args.text.now.items c.loop-area.text.items c.args.areas.now with_word) c.print_end.ensures
