-- The turns of the reader.
use Rattle.std.proofs.Common.{◌≡◌, ◌≢◌, refl, ap, subst, ℕ, ◌+◌, ◌^◌, ◌≤◌, ◌<◌, List, [], length, None, Ok, Err, arith}
use Rattle.cpl_fixed.specs.Results.{Fails}
use Rattle.cpl_lines.specs.declared.fault.LineFault.{LineFault}
use Rattle.cpl_lines.specs.declared.fault.LinesError.TheVariants.{Syntax}
use Rattle.cpl_lines.specs.Steps.{is_memory, is_out_of_memory, fault_at, step_of}
use Rattle.cpl_lines.proofs.Progress as progress
use Rattle.cpl_lines.proofs.Progress.{SoFar}
use Rattle.cpl_gridfile.specs.declared.next_line.GridKind.{GridKind}
use Rattle.cpl_gridfile.specs.declared.next_line.NextLine.{NextLine}
use Rattle.cpl_gridfile.specs.declared.next_line.NextLine.TheVariants as next
use Rattle.cpl_gridfile.specs.GridFormat.{Parts, grid_form, grid_format, no_parts}
use Rattle.cpl_gridfile.specs.Grids.{parts_in}
use Rattle.cpl_gridfile.proofs.LinesLeft.{grid_left, fewer, lines_fit}

-- before the end a line comes
comes : (kind : GridKind) (from : NextLine) → from ≢ next.Nothing → grid_form kind from ≢ None
comes kind next.Nothing more = λ e. more refl
comes kind (next.Mesh mesh line) more = λ e. cc
comes kind (next.Count list before) more = λ e. cc
comes kind (next.Item list total left) more = λ e. cc
comes kind next.Head more = λ e. cc
comes kind next.Column more = λ e. cc
comes kind next.End more = λ e. cc

ended : (kind : GridKind) (from : NextLine) → from ≡ next.Nothing → grid_form kind from ≡ None
ended kind from e = ap (grid_form kind) e

module _ (kind of_reader : GridKind) (bytes : List ℕ) where
  -- how far a reader of this kind has come
  pub record Far (from : NextLine) (parts : Parts) (number : ℕ) (rest : List ℕ) : Type 0 where
    pub kind_is : of_reader ≡ kind
    pub far : SoFar (grid_format kind) next.Head no_parts bytes from parts number rest
    pub few : number + grid_left kind from ≤ 2 ^ 22

  pub begins : of_reader ≡ kind → (from : NextLine) (parts : Parts) → from ≡ next.Head → parts ≡ no_parts → Far from parts 1 bytes
  begins same from parts head none =
      rw (head, none) (record { kind_is = same; far = progress.begins (grid_format kind) next.Head no_parts bytes; few = lines_fit kind })

  module _ (from : NextLine) (parts : Parts) (number : ℕ) (rest : List ℕ) (far : Far from parts number rest) where
    pub goes_on : (step : NextLine × Parts × List ℕ) → step_of (grid_format of_reader) from parts rest ≡ Ok step
        → SoFar (grid_format kind) next.Head no_parts bytes step.0 step.1 (number + 1) step.2 × (length step.2 < length rest) × (number + 1 + grid_left kind step.0 ≤ 2 ^ 22)
    goes_on step e =
        let taken : step_of (grid_format kind) from parts rest ≡ Ok step = rw (← far.kind_is) e in
        let on = progress.goes_on (grid_format kind) next.Head no_parts bytes from parts number rest step far.far taken in
        (on.0, on.1, omega (arith, fewer kind from parts rest step taken, far.few))

    pub ends : (fault : LineFault) → from ≢ next.Nothing → Fails is_memory fault (step_of (grid_format of_reader) from parts rest)
        → Fails is_out_of_memory (fault_at fault number) (parts_in kind bytes)
    ends fault more fails =
        let same = subst (λ (k : GridKind). Fails is_memory fault (step_of (grid_format k) from parts rest)) far.kind_is fails in
        progress.ends (grid_format kind) next.Head no_parts bytes from parts number rest fault far.far (comes kind from more) same

    pub is_whole : from ≡ next.Nothing → length rest ≡ 0 → parts_in kind bytes ≡ Ok parts
    is_whole done none = progress.is_whole (grid_format kind) next.Head no_parts bytes from parts number rest far.far (ended kind from done) none

    pub has_more : from ≡ next.Nothing → rest ≢ [] → parts_in kind bytes ≡ Err (Syntax number)
    has_more done more = progress.has_more (grid_format kind) next.Head no_parts bytes from parts number rest far.far (ended kind from done) more
