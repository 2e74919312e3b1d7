-- Lines in order are those of boxes within the limits.
use Rattle.std.proofs.Common.{◌≡◌, ◌∙◌, refl, sym, ap, subst, ℕ, zero, suc, ◌+◌, ◌*◌, ◌≤◌, List, [], ◌∷◌, ◌++◌, length, map, replicate, codes, Bool, true, Some, All, arith, length-append, ℤ, pos}
use Rattle.std.proofs.lemmas.List.{take_at, drop_at, length-map}
use Rattle.cpl_lines.specs.Fields.{Field, Number, Letter, AreOfKinds, value}
use Rattle.cpl_lines.specs.Lines.{Line, row, row_form, IsOfForm, values, at}
use Rattle.cpl_lines.proofs.Turns.{InOrder}
use Rattle.cpl_lines.proofs.RowForms.{line_is, row_is}
use Rattle.cpl_gridfile.specs.MeshFormat.{flip_letter}
use Rattle.cpl_gridfile.specs.GridFormat.{column_of}
use Rattle.cpl_fixed.specs.declared.limits.TheConstants.{LONGEST_SIDE, MOST_CELLS}
use Rattle.cpl_xgrid.specs.declared.parts.Column.{Column}
use Rattle.cpl_xgrid.specs.Lists.{IsColumn}
use Rattle.cpl_mkx.specs.declared.boxes.BoxMesh.{BoxMesh}
use Rattle.cpl_mkx.specs.declared.boxes.BoxPair.{BoxPair}
use Rattle.cpl_mkx.specs.declared.next_line.Parent.{Parent}
use Rattle.cpl_mkx.specs.declared.next_line.Parent.TheVariants as parent
use Rattle.cpl_mkx.specs.declared.next_line.NextLine.{NextLine}
use Rattle.cpl_mkx.specs.declared.next_line.NextLine.TheVariants as next
use Rattle.cpl_mkx.specs.BoxFormat.{box_format, size_form, parent_word, flag, is_one, next_wet, after_rows, edges_keep_limits}
use Rattle.cpl_mkx.specs.Rules.{columns_of, rows_of}
use Rattle.cpl_mkx.specs.Boxes.{IsEdge, IsBoxMesh, IsWithinLimits, edges_line, mesh_lines, digit, wet_lines, box_lines}
use Rattle.cpl_mkx.proofs.Sizes.{size_within, column_within, magnitudes_pos, edges_within, flag_back}

abbrev BoxOrder : NextLine → List Line → Type 0
BoxOrder = InOrder box_format

-- EDGES

record Edges (word : List ℕ) (boxes : ℕ) (line : Line) : Type 0 where
  edges : List ℤ
  count : length edges ≡ boxes + 1
  each : All IsEdge edges
  text : line ≡ edges_line word edges

edges_of : (word : List ℕ) (boxes : ℕ) (line : Line) → IsOfForm (Some (row_form word (boxes + 1))) line → edges_keep_limits (values line) ≡ true → Edges word boxes line
edges_of word boxes line is keeps =
    let said = row_is word (boxes + 1) line is in
    let again : row word (values line) ≡ edges_line word (map pos (values line)) = ap (row word) (sym (magnitudes_pos (values line))) in
    record {
      edges = map pos (values line);
      count = length-map (values line) pos ∙ said.1;
      each = edges_within (values line) keeps;
      text = said.0 ∙ again;
    }

-- A GRID

record OfMesh (of : Parent) (lines : List Line) : Type 0 where
  mesh : BoxMesh
  limits : IsBoxMesh mesh
  rest : List Line
  order : BoxOrder (after_rows of (columns_of mesh) (rows_of mesh)) rest
  text : lines ≡ mesh_lines of mesh ++ rest

-- the line of a size
abbrev size_line : List ℕ → ℕ → ℕ → Bool → Bool → Line
size_line word nx ny cyclic fold = record { word = word; fields = Number nx ∷ Number ny ∷ Letter (flip_letter cyclic) ∷ Letter (flip_letter fold) ∷ [] }

size_back : (word : List ℕ) (line : Line) → IsOfForm (Some (size_form word)) line → line ≡ size_line word (at line 0) (at line 1) (is_one (at line 2)) (is_one (at line 3))
size_back word line is =
    let same = line_is (size_form word) line is in
    let parts = subst (IsOfForm (Some (size_form word))) same is in
    let cyclic = flag_back (at line 2) parts.1.1.1.0 in
    let fold = flag_back (at line 3) parts.1.1.1.1.0 in
    same ∙ λ i. record { word = word; fields = Number (at line 0) ∷ Number (at line 1) ∷ Letter (sym cyclic i) ∷ Letter (sym fold i) ∷ [] }

mesh_of_lines : (of : Parent) (lines : List Line) → BoxOrder (next.Size of) lines → OfMesh of lines
mesh_of_lines of [] order = absurd cc
mesh_of_lines of (size ∷ []) order = absurd (let e = order.2 in cc)
mesh_of_lines of (size ∷ columns ∷ []) order = absurd (let e = order.2.2 in cc)
mesh_of_lines of (size ∷ columns ∷ rows ∷ rest) order =
    let nx : ℕ = at size 0 in
    let ny : ℕ = at size 1 in
    let within = size_within nx ny order.1 in
    let some_x = within.nx_least in
    let some_y = within.ny_least in
    let x = edges_of (codes "x") nx columns order.2.0 order.2.1 in
    let y = edges_of (codes "y") ny rows order.2.2.0 order.2.2.1 in
    let x_many = x.count in
    let y_many = y.count in
    let mesh : BoxMesh = record { x = x.edges; y = y.edges; cyclic = is_one (at size 2); fold = is_one (at size 3) } in
    let x_count : nx ≡ columns_of mesh = omega arith in
    let y_count : ny ≡ rows_of mesh = omega arith in
    let first : size ≡ size_line (parent_word of) (columns_of mesh) (rows_of mesh) mesh.cyclic mesh.fold =
    size_back (parent_word of) size order.0 ∙ λ i. size_line (parent_word of) (x_count i) (y_count i) mesh.cyclic mesh.fold in
    record {
      mesh = mesh;
      limits = record {
        columns_least = subst (λ (n : ℕ). 1 ≤ n) x_count some_x;
        columns_most = subst (λ (n : ℕ). n ≤ LONGEST_SIDE) x_count within.nx_most;
        rows_least = subst (λ (n : ℕ). 1 ≤ n) y_count some_y;
        rows_most = subst (λ (n : ℕ). n ≤ LONGEST_SIDE) y_count within.ny_most;
        few = subst (λ (n : ℕ). n ≤ MOST_CELLS) (λ i. x_count i * y_count i) within.few;
        x = x.each;
        y = y.each;
      };
      rest = rest;
      order = subst (λ (n : ℕ). BoxOrder (after_rows of n (rows_of mesh)) rest) x_count (subst (λ (n : ℕ). BoxOrder (after_rows of nx n) rest) y_count order.2.2.2);
      text = λ i. first i ∷ x.text i ∷ y.text i ∷ rest;
    }

-- DIGITS

digits_are : (count : ℕ) (fields : List Field) → AreOfKinds (replicate count flag) fields → (fields ≡ map digit (map is_one (map value fields))) × (length fields ≡ count)
digits_are zero [] are = (refl, refl)
digits_are zero (field ∷ fields) are = absurd are
digits_are (suc count) [] are = absurd are
digits_are (suc count) (Number n ∷ fields) are = absurd are.0
digits_are (suc count) (Letter letter ∷ fields) are =
    let others = digits_are count fields are.1 in
    let first = flag_back letter are.0 in
    ((λ i. Letter (sym first i) ∷ others.0 i), ap suc others.1)

record Wet (rows nx : ℕ) (lines : List Line) : Type 0 where
  wet : List Bool
  rest : List Line
  count : length wet ≡ nx * rows
  order : BoxOrder next.Column rest
  text : lines ≡ wet_lines rows nx wet ++ rest

wet_of_lines : (rows nx : ℕ) (lines : List Line) → BoxOrder (next_wet nx rows) lines → Wet rows nx lines
wet_of_lines zero nx lines order = record { wet = []; rest = lines; count = omega arith; order = order; text = refl }
wet_of_lines (suc rows) nx [] order = absurd cc
wet_of_lines (suc rows) nx (line ∷ lines) order =
    let later = wet_of_lines rows nx lines order.2 in
    let said = digits_are nx line.fields order.0.1 in
    let wet : List Bool = map is_one (values line) in
    let width : length wet ≡ nx = length-map (values line) is_one ∙ length-map line.fields value ∙ said.1 in
    let counted = later.count in
    let word = order.0.0 in
    record {
      wet = wet ++ later.wet;
      rest = later.rest;
      count = omega (arith, length-append wet later.wet, counted, width);
      order = later.order;
      text =
          rw (take_at wet later.wet nx width, drop_at wet later.wet nx width)
          (λ i. record { word = word i; fields = said.0 i } ∷ later.text i);
    }

-- ALL

record Closing (lines : List Line) : Type 0 where
  column : Column
  within : IsColumn column
  text : lines ≡ row (codes "column") (column.layers ∷ column.categories ∷ []) ∷ row (codes "end") [] ∷ []

closing_of : (lines : List Line) → BoxOrder next.Column lines → Closing lines
closing_of [] order = absurd cc
closing_of (line ∷ []) order = absurd (let e = order.2 in cc)
closing_of (line ∷ end ∷ []) order =
    let first = line_is (row_form (codes "column") 2) line order.0 in
    let last = line_is (row_form (codes "end") 0) end order.2.0 in
    record { column = column_of (at line 0) (at line 1); within = column_within (column_of (at line 0) (at line 1)) order.1; text = λ i. first i ∷ last i ∷ [] }
closing_of (line ∷ end ∷ other ∷ lines) order = absurd order.2.2.0

pub record IsOfBoxes (lines : List Line) : Type 0 where
  pub pair : BoxPair
  pub limits : IsWithinLimits pair
  pub text : lines ≡ box_lines pair

pub boxes_of_lines : (lines : List Line) → BoxOrder next.Head lines → IsOfBoxes lines
boxes_of_lines [] order = absurd cc
boxes_of_lines (head ∷ lines) order =
    let said = line_is (row_form (codes "boxes 1") 0) head order.0 in
    let air = mesh_of_lines parent.Air lines order.2 in
    let ocean = mesh_of_lines parent.Ocean air.rest air.order in
    let nx : ℕ = columns_of ocean.mesh in
    let ny : ℕ = rows_of ocean.mesh in
    let wet = wet_of_lines ny nx ocean.rest ocean.order in
    let closing = closing_of wet.rest wet.order in
    let texts : lines ≡ mesh_lines parent.Air air.mesh ++ (mesh_lines parent.Ocean ocean.mesh ++ (wet_lines ny nx wet.wet ++ (row (codes "column") (closing.column.layers ∷ closing.column.categories ∷ []) ∷ row (codes "end") [] ∷ []))) =
    air.text ∙ ap (λ (l : List Line). mesh_lines parent.Air air.mesh ++ l) (ocean.text ∙ ap (λ (l : List Line). mesh_lines parent.Ocean ocean.mesh ++ l) (wet.text ∙ ap (λ (l : List Line). wet_lines ny nx wet.wet ++ l) closing.text)) in
    record {
      pair = record { air = air.mesh; ocean = ocean.mesh; wet = wet.wet; column = closing.column };
      limits = record { air = air.limits; ocean = ocean.limits; wet = wet.count; column = closing.within };
      text = λ i. said i ∷ texts i;
    }
