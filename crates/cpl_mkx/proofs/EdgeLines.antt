-- A line of edges, read number by number.
use Rattle.std.proofs.Common.{◌≡◌, ◌∙◌, refl, sym, ap, ℕ, List, [], map, replicate, Bool, true, false, ℤ, pos, Some, None, Ok, Err}
use Rattle.std.specs.List.{list_all}
use Rattle.cpl_lines.specs.declared.fault.LineFault.TheVariants as line
use Rattle.cpl_lines.specs.Fields.{AnyNumber, value}
use Rattle.cpl_lines.specs.Lines.{line_feed, row_form}
use Rattle.cpl_lines.specs.Reading.{word_at, fields_at, row_at}
use Rattle.cpl_lines.specs.Steps.{is_at_most, capped, numbers_added}
use Rattle.cpl_lines.proofs.Pushed.{added_some, stored}
use Rattle.cpl_mkx.specs.declared.boxes.TheConstants.{MOST_EDGE}
use Rattle.cpl_mkx.specs.Readers.{edges_judged}

-- a line of edges within the limit
pub line_is_read : (word : List ℕ) (count : ℕ) (bytes fields rest more : List ℕ) (edges : List ℤ) → word_at word bytes ≡ Some fields
    → numbers_added MOST_EDGE true [] (fields_at (replicate count AnyNumber) fields) ≡ Ok (true, rest, edges) → word_at line_feed rest ≡ Some more
    → edges_judged (row_at (row_form word count) bytes) ≡ Ok (edges, more)
unfolding row_at
line_is_read word count bytes fields rest more edges first found end =
    let f = added_some MOST_EDGE true [] (fields_at (replicate count AnyNumber) fields) (true, rest, edges) found in
    let keep : list_all (is_at_most MOST_EDGE) (map value f.0.0) ≡ true = ap (λ (y : Bool × List ℕ × List ℤ). y.0) f.2 in
    let rest_is : f.0.1 ≡ rest = ap (λ (y : Bool × List ℕ × List ℤ). y.1) f.2 in
    let added : map (capped MOST_EDGE) (map value f.0.0) ≡ edges = ap (λ (y : Bool × List ℕ × List ℤ). y.2) f.2 in
    let same : map pos (map value f.0.0) ≡ edges = sym (stored MOST_EDGE (map value f.0.0) keep) ∙ added in
    rw (first, f.1, rest_is, end, keep, same) refl

-- one that breaks it
pub line_breaks : (word : List ℕ) (count : ℕ) (bytes fields rest more : List ℕ) (edges : List ℤ) → word_at word bytes ≡ Some fields
    → numbers_added MOST_EDGE true [] (fields_at (replicate count AnyNumber) fields) ≡ Ok (false, rest, edges) → word_at line_feed rest ≡ Some more
    → edges_judged (row_at (row_form word count) bytes) ≡ Err line.Limit
unfolding row_at
line_breaks word count bytes fields rest more edges first found end =
    let f = added_some MOST_EDGE true [] (fields_at (replicate count AnyNumber) fields) (false, rest, edges) found in
    let keep : list_all (is_at_most MOST_EDGE) (map value f.0.0) ≡ false = ap (λ (y : Bool × List ℕ × List ℤ). y.0) f.2 in
    let rest_is : f.0.1 ≡ rest = ap (λ (y : Bool × List ℕ × List ℤ). y.1) f.2 in
    rw (first, f.1, rest_is, end, keep) refl

-- one that has no end
pub line_goes_on : (word : List ℕ) (count : ℕ) (bytes fields rest : List ℕ) (keeps : Bool) (edges : List ℤ) → word_at word bytes ≡ Some fields
    → numbers_added MOST_EDGE true [] (fields_at (replicate count AnyNumber) fields) ≡ Ok (keeps, rest, edges) → word_at line_feed rest ≡ None
    → edges_judged (row_at (row_form word count) bytes) ≡ Err line.Form
unfolding row_at
line_goes_on word count bytes fields rest keeps edges first found end =
    let f = added_some MOST_EDGE true [] (fields_at (replicate count AnyNumber) fields) (keeps, rest, edges) found in
    let rest_is : f.0.1 ≡ rest = ap (λ (y : Bool × List ℕ × List ℤ). y.1) f.2 in
    rw (first, f.1, rest_is, end) refl
