use Rattle.std.proofs.Common.{◌≡◌, ◌≤◌, ◌+◌, ◌*◌, ℕ, true, false, length, take, drop, ap, sym, ◌∙◌, arith, below_more}
use Rattle.std.proofs.lemmas.List.{drop-drop, length-drop}
use Rattle.cpl_restart.specs.Lawful.{are_other_parts, has_other_parts, if_none}
use Rattle.cpl_state.specs.States.{all_of_cell, cells_in}
use Rattle.cpl_restart.specs.declared.start_error.StartError.TheVariants.{Parts}
use Rattle.cpl_restart.proofs.Cells.{all_is_front, cell_room}
use Rattle.cpl_restart.proofs.Least.{least_none, least_some}
use Rattle.cpl_restart.proofs.lawful.refuse_other_parts.Goals as goal

pub split_at-requires : goal.split_at-requires
split_at-requires c =
    let room : c.loop-n.n * c.args.width + c.args.width ≤ length c.args.parts.now = cell_room c.args.width c.loop-n.n (cells_in c.args.ocean.now) (length c.args.parts.now) (omega (arith, c.cells-n-end.ensures.count)) c.requires.count in
    rw c.loop-n.invariant.rest (omega (arith, length-drop (c.loop-n.n * c.args.width) c.args.parts.now))

pub returns-then-are_other_parts : goal.returns-then-are_other_parts
returns-then-are_other_parts c =
    let ocean = c.args.ocean.now in
    let width = c.args.width in
    let parts = c.args.parts.now in
    let n = c.loop-n.n in
    let room : n * width + width ≤ length parts = cell_room width n (cells_in ocean) (length parts) (omega (arith, c.cells-n-end.ensures.count)) (c.requires.count) in
    let front : all_of_cell width n parts ≡ c.split_at.result.0.now = all_is_front width n parts room ∙ ap (take width) (sym c.loop-n.invariant.rest) ∙ sym c.split_at.ensures.front in
    let here : has_other_parts ocean width parts n ≡ true = ap (are_other_parts ocean n) front ∙ sym c.are_other_parts.ensures ∙ c.if-are_other_parts.true in
    ap (if_none Parts) (least_some (has_other_parts ocean width parts) (cells_in ocean) n (omega (arith, c.cells-n-end.ensures.count)) c.loop-n.invariant.before here)

pub loop-n-preserved : goal.loop-n-preserved
loop-n-preserved c =
    let ocean = c.args.ocean.now in
    let width = c.args.width in
    let parts = c.args.parts.now in
    let n = c.loop-n.n in
    let room : n * width + width ≤ length parts = cell_room width n (cells_in ocean) (length parts) (omega (arith, c.cells-n-end.ensures.count)) (c.requires.count) in
    let front : all_of_cell width n parts ≡ c.split_at.result.0.now = all_is_front width n parts room ∙ ap (take width) (sym c.loop-n.invariant.rest) ∙ sym c.split_at.ensures.front in
    let here : has_other_parts ocean width parts n ≡ false = ap (are_other_parts ocean n) front ∙ sym c.are_other_parts.ensures ∙ c.if-are_other_parts.false in
    let more : n * width + width ≡ (n + 1) * width = omega arith in
    record {
      rest = c.split_at.ensures.back ∙ ap (drop width) c.loop-n.invariant.rest ∙ drop-drop width (n * width) parts ∙ ap (λ (k : ℕ). drop k parts) more;
      before = below_more (λ k. has_other_parts ocean width parts k ≡ false) n c.loop-n.invariant.before here;
    }

pub returns : goal.returns
returns c =
    let ocean = c.args.ocean.now in
    ap (if_none Parts) (least_none (has_other_parts ocean c.args.width c.args.parts.now) (cells_in ocean) (λ k lt. c.loop-n.invariant.before k (omega (arith, c.cells-n-end.ensures.count))))
