-- How many lines are still to come at most, so that the number of a line fits.
use Rattle.std.proofs.Common.{◌≡◌, ap, ℕ, zero, suc, ◌+◌, ◌^◌, ◌≤◌, List, true, Ok, arith}
use Rattle.cpl_fixed.specs.declared.limits.TheConstants.{LONGEST_SIDE}
use Rattle.cpl_lines.specs.Lines.{Line, IsOfForm, at}
use Rattle.cpl_lines.specs.Steps.{step_of}
use Rattle.cpl_lines.proofs.Progress.{step_taken}
use Rattle.cpl_mkx.specs.declared.boxes.BoxPair.{BoxPair}
use Rattle.cpl_mkx.specs.declared.next_line.Parent.{Parent}
use Rattle.cpl_mkx.specs.declared.next_line.Parent.TheVariants as parent
use Rattle.cpl_mkx.specs.declared.next_line.NextLine.{NextLine}
use Rattle.cpl_mkx.specs.declared.next_line.NextLine.TheVariants as next
use Rattle.cpl_mkx.specs.BoxFormat.{box_format, box_form, box_keeps, box_after, next_wet, after_rows}
use Rattle.cpl_mkx.specs.Readers.{IsSmall}
use Rattle.cpl_mkx.proofs.Sizes.{size_within}

-- lines from the rows of digits on, and those after a grid
abbrev wet_left : ℕ → ℕ
wet_left rows = rows + 2

abbrev left_after : Parent → ℕ
left_after parent.Air = LONGEST_SIDE + 5
left_after parent.Ocean = LONGEST_SIDE + 2

-- the size of a grid bounds its rows
abbrev pub AreFew : NextLine → Type 0
AreFew (next.Columns of nx ny) = (nx ≤ LONGEST_SIDE) × (ny ≤ LONGEST_SIDE)
AreFew (next.Rows of nx ny) = (nx ≤ LONGEST_SIDE) × (ny ≤ LONGEST_SIDE)
AreFew line = Unit {0}

abbrev pub box_left : NextLine → ℕ
box_left next.Head = LONGEST_SIDE + 9
box_left (next.Size of) = left_after of + 3
box_left (next.Columns of nx ny) = left_after of + 2
box_left (next.Rows of nx ny) = left_after of + 1
box_left (next.Wet nx more) = more + 3
box_left next.Column = 2
box_left next.End = 1
box_left next.Nothing = 0

wet_less : (nx rows : ℕ) → box_left (next_wet nx rows) ≤ rows + 2
wet_less nx zero = omega arith
wet_less nx (suc more) = omega arith

rows_less : (of : Parent) (nx ny : ℕ) → ny ≤ LONGEST_SIDE → box_left (after_rows of nx ny) ≤ left_after of
rows_less parent.Air nx ny few = omega arith
rows_less parent.Ocean nx ny few = omega (arith, wet_less nx ny)

few_wet : (nx rows : ℕ) → AreFew (next_wet nx rows)
few_wet nx zero = tt
few_wet nx (suc more) = tt

few_rows : (of : Parent) (nx ny : ℕ) → AreFew (after_rows of nx ny)
few_rows parent.Air nx ny = tt
few_rows parent.Ocean nx ny = few_wet nx ny

-- each line of its form that keeps the limits leaves fewer
box_less : (from : NextLine) (said : Line) → IsOfForm (box_form from) said → box_keeps from said ≡ true → AreFew from
    → (box_left (box_after from said) + 1 ≤ box_left from) × AreFew (box_after from said)
box_less next.Head said is keeps few = (omega arith, tt)
box_less (next.Size of) said is keeps few =
    let within = size_within (at said 0) (at said 1) keeps in
    (omega arith, (within.nx_most, within.ny_most))
box_less (next.Columns of nx ny) said is keeps few = (omega arith, few)
box_less (next.Rows of nx ny) said is keeps few = (omega (arith, rows_less of nx ny few.1), few_rows of nx ny)
box_less (next.Wet nx more) said is keeps few = (omega (arith, wet_less nx more), few_wet nx more)
box_less next.Column said is keeps few = (omega arith, tt)
box_less next.End said is keeps few = (omega arith, tt)
box_less next.Nothing said is keeps few = absurd is

pub fewer : (from : NextLine) (pair : BoxPair) (bytes : List ℕ) (step : NextLine × BoxPair × List ℕ) → step_of box_format from pair bytes ≡ Ok step → AreFew from
    → (box_left step.0 + 1 ≤ box_left from) × AreFew step.0
fewer from pair bytes step e few =
    let taken = step_taken box_format from pair bytes step e in
    let next_is : box_after from taken.line ≡ step.0 = ap (λ (s : NextLine × BoxPair × List ℕ). s.0) taken.is in
    rw (← next_is) (box_less from taken.line taken.has.form taken.keeps few)

pub lines_fit : 1 + box_left next.Head ≤ 2 ^ 22
lines_fit = omega arith

-- so the sizes fit their types
pub small : (from : NextLine) → AreFew from → IsSmall from
small next.Head few = tt
small (next.Size of) few = tt
small (next.Columns of nx ny) few = let a = few.0 in let b = few.1 in (omega arith, omega arith)
small (next.Rows of nx ny) few = let a = few.0 in let b = few.1 in (omega arith, omega arith)
small (next.Wet nx more) few = tt
small next.Column few = tt
small next.End few = tt
small next.Nothing few = tt
