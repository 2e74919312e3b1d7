use Rattle.std.proofs.Common.{◌≡◌, ◌∙◌, ap, ◌++◌, List, ℕ, rules}
use Rattle.std.specs.List.{flat_map}
use Rattle.cpl_lines.proofs.Printed.{nothing_yet, one_more, all_printed, number_text, row_printed, on_ok}
use Rattle.cpl_lines.proofs.print.print_row.Goals as goal

pub loop-n-init : goal.loop-n-init
loop-n-init c = nothing_yet number_text c.args.numbers.now c.extend_from_slice.new.self.items

pub loop-n-preserved : goal.loop-n-preserved
loop-n-preserved c =
    one_more number_text c.args.numbers.now c.extend_from_slice.new.self.items c.loop-n.n-index 0 c.loop-n.text.items c.print_number.new.text.items
    c.loop-n-test.true c.loop-n.invariant c.in_ok-print_number.ensures

pub returns : goal.returns
returns c =
    let printed = all_printed number_text c.args.numbers.now c.extend_from_slice.new.self.items c.loop-n.n-index c.loop-n.text.items c.loop-n-test.false c.loop-n.invariant in
    let word : c.extend_from_slice.new.self.items ≡ c.args.text.now.items ++ c.args.word.now = search rules in
    let with_word = printed ∙ ap (λ (l : List ℕ). l ++ flat_map number_text c.args.numbers.now) word in
    on_ok c.print_end.result (λ ended. ended ∙ row_printed c.args.text.now.items c.args.word.now c.args.numbers.now c.loop-n.text.items with_word) c.print_end.ensures
