-- The turns of the reader.
use Rattle.std.proofs.Common.{◌≡◌, ◌≢◌, refl, ap, ℕ, ◌+◌, ◌^◌, ◌≤◌, ◌<◌, List, [], length, None, Ok, Err, arith}
use Rattle.cpl_fixed.specs.Results.{Fails}
use Rattle.cpl_lines.specs.declared.fault.LineFault.{LineFault}
use Rattle.cpl_lines.specs.declared.fault.LinesError.TheVariants.{Syntax}
use Rattle.cpl_lines.specs.Steps.{is_memory, is_out_of_memory, fault_at, step_of}
use Rattle.cpl_lines.proofs.Progress as progress
use Rattle.cpl_lines.proofs.Progress.{SoFar}
use Rattle.cpl_mkx.specs.declared.boxes.BoxPair.{BoxPair}
use Rattle.cpl_mkx.specs.declared.next_line.NextLine.{NextLine}
use Rattle.cpl_mkx.specs.declared.next_line.NextLine.TheVariants as next
use Rattle.cpl_mkx.specs.BoxFormat.{box_form, box_format, no_boxes}
use Rattle.cpl_mkx.specs.Reading.{lines_in}
use Rattle.cpl_mkx.proofs.LinesLeft.{AreFew, box_left, fewer, lines_fit}

-- before the end a line comes
comes : (from : NextLine) → from ≢ next.Nothing → box_form from ≢ None
comes next.Nothing more = λ e. more refl
comes next.Head more = λ e. cc
comes (next.Size of) more = λ e. cc
comes (next.Columns of nx ny) more = λ e. cc
comes (next.Rows of nx ny) more = λ e. cc
comes (next.Wet nx left) more = λ e. cc
comes next.Column more = λ e. cc
comes next.End more = λ e. cc

ended : (from : NextLine) → from ≡ next.Nothing → box_form from ≡ None
ended from e = ap box_form e

module _ (bytes : List ℕ) where
  -- how far a reader has come
  pub record Far (from : NextLine) (pair : BoxPair) (number : ℕ) (rest : List ℕ) : Type 0 where
    pub far : SoFar box_format next.Head no_boxes bytes from pair number rest
    pub few : number + box_left from ≤ 2 ^ 22
    pub sizes : AreFew from

  pub begins : (from : NextLine) (pair : BoxPair) → from ≡ next.Head → pair ≡ no_boxes → Far from pair 1 bytes
  begins from pair head none =
      rw (head, none) (record { far = progress.begins box_format next.Head no_boxes bytes; few = lines_fit; sizes = tt })

  module _ (from : NextLine) (pair : BoxPair) (number : ℕ) (rest : List ℕ) (far : Far from pair number rest) where
    pub goes_on : (step : NextLine × BoxPair × List ℕ) → step_of box_format from pair rest ≡ Ok step → Far step.0 step.1 (number + 1) step.2 × (length step.2 < length rest)
    goes_on step e =
        let on = progress.goes_on box_format next.Head no_boxes bytes from pair number rest step far.far e in
        let less = fewer from pair rest step e far.sizes in
        let count = less.0 in
        let few = far.few in
        (record { far = on.0; few = omega arith; sizes = less.1 }, on.1)

    pub ends : (fault : LineFault) → from ≢ next.Nothing → Fails is_memory fault (step_of box_format from pair rest)
        → Fails is_out_of_memory (fault_at fault number) (lines_in bytes)
    ends fault more fails = progress.ends box_format next.Head no_boxes bytes from pair number rest fault far.far (comes from more) fails

    pub is_whole : from ≡ next.Nothing → length rest ≡ 0 → lines_in bytes ≡ Ok pair
    is_whole done none = progress.is_whole box_format next.Head no_boxes bytes from pair number rest far.far (ended from done) none

    pub has_more : from ≡ next.Nothing → rest ≢ [] → lines_in bytes ≡ Err (Syntax number)
    has_more done more = progress.has_more box_format next.Head no_boxes bytes from pair number rest far.far (ended from done) more
