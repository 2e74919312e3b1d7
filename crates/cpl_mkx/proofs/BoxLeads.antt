-- The lines of boxes within the limits lead to all that they spell.
use Rattle.std.proofs.Common.{◌≡◌, ◌∙◌, refl, sym, ap, subst, ℕ, zero, suc, ◌+◌, ◌*◌, ◌≤◌, List, [], ◌∷◌, ◌++◌, length, map, take, drop, replicate, codes, Bool, Some, All, arith, append_assoc, length-drop, ℤ, pos}
use Rattle.std.proofs.Math.Seq.{take-add}
use Rattle.std.proofs.lemmas.List.{append-nil, length-map, length-take, take_all}
use Rattle.cpl_lines.specs.Fields.{AreOfKinds, value}
use Rattle.cpl_lines.specs.Lines.{Line, row, row_form, IsOfForm}
use Rattle.cpl_lines.proofs.RowForms.{values_of_row, row_has_form}
use Rattle.cpl_lines.proofs.Paths.{Leads, leads_on}
use Rattle.cpl_gridfile.specs.MeshFormat.{magnitude}
use Rattle.cpl_xgrid.specs.declared.parts.Column.{Column}
use Rattle.cpl_xgrid.specs.Lists.{IsColumn}
use Rattle.cpl_mkx.specs.declared.boxes.BoxMesh.{BoxMesh}
use Rattle.cpl_mkx.specs.declared.boxes.BoxPair.{BoxPair}
use Rattle.cpl_mkx.specs.declared.next_line.Parent.{Parent}
use Rattle.cpl_mkx.specs.declared.next_line.Parent.TheVariants as parent
use Rattle.cpl_mkx.specs.declared.next_line.NextLine.{NextLine}
use Rattle.cpl_mkx.specs.declared.next_line.NextLine.TheVariants as next
use Rattle.cpl_mkx.specs.BoxFormat.{box_format, flag, is_one, next_wet, after_rows, no_boxes, with_mesh, with_x, with_y, with_flags, with_wet, with_column}
use Rattle.cpl_mkx.specs.Rules.{columns_of, rows_of}
use Rattle.cpl_mkx.specs.Boxes.{IsEdge, IsBoxMesh, IsWithinLimits, edges_line, mesh_lines, digit, wet_lines, box_lines}
use Rattle.cpl_mkx.proofs.Sizes.{size_keeps, column_keeps, pos_magnitudes, edges_keep, edges_are_short, flag_is_letter, flag_again}

abbrev BoxLeads : NextLine → BoxPair → List Line → NextLine → BoxPair → Type 0
BoxLeads = Leads box_format

-- EDGES

edges_have_form : (word : List ℕ) (edges : List ℤ) (boxes : ℕ) → length edges ≡ boxes + 1 → All IsEdge edges → IsOfForm (Some (row_form word (boxes + 1))) (edges_line word edges)
edges_have_form word edges boxes count each =
    let length_is : length (map magnitude edges) ≡ boxes + 1 = length-map edges magnitude ∙ count in
    rw (← length_is) (row_has_form word (map magnitude edges) (edges_are_short edges each))

-- the numbers of a line of edges are the edges
edges_again : (edges : List ℤ) → All IsEdge edges → map pos (map value (edges_line [] edges).fields) ≡ edges
edges_again edges each = ap (map pos) (values_of_row (map magnitude edges)) ∙ pos_magnitudes edges each

-- A GRID

-- what three lines make of a grid
made_mesh : (of : Parent) (mesh : BoxMesh) (pair : BoxPair) (cyclic fold : Bool) (x y : List ℤ) → cyclic ≡ mesh.cyclic → fold ≡ mesh.fold → x ≡ mesh.x → y ≡ mesh.y
    → with_mesh of (with_y y) (with_mesh of (with_x x) (with_mesh of (with_flags cyclic fold) pair)) ≡ with_mesh of (λ _. mesh) pair
made_mesh parent.Air mesh pair cyclic fold x y a b c d = λ i. record { air = record { x = c i; y = d i; cyclic = a i; fold = b i }; ocean = pair.ocean; wet = pair.wet; column = pair.column }
made_mesh parent.Ocean mesh pair cyclic fold x y a b c d = λ i. record { air = pair.air; ocean = record { x = c i; y = d i; cyclic = a i; fold = b i }; wet = pair.wet; column = pair.column }

mesh_leads : (of : Parent) (mesh : BoxMesh) (pair : BoxPair) → IsBoxMesh mesh
    → BoxLeads (next.Size of) pair (mesh_lines of mesh) (after_rows of (columns_of mesh) (rows_of mesh)) (with_mesh of (λ _. mesh) pair)
mesh_leads of mesh pair is =
    let some_x = is.columns_least in
    let most_x = is.columns_most in
    let some_y = is.rows_least in
    let most_y = is.rows_most in
    let x_count : length mesh.x ≡ columns_of mesh + 1 = omega arith in
    let y_count : length mesh.y ≡ rows_of mesh + 1 = omega arith in
    let x_values = values_of_row (map magnitude mesh.x) in
    let y_values = values_of_row (map magnitude mesh.y) in (
      (refl, (omega arith, (omega arith, (flag_is_letter mesh.cyclic, (flag_is_letter mesh.fold, tt))))),
      size_keeps (columns_of mesh) (rows_of mesh) (record { nx_least = some_x; nx_most = most_x; ny_least = some_y; ny_most = most_y; few = is.few }),
      (
        edges_have_form (codes "x") mesh.x (columns_of mesh) x_count is.x,
        rw x_values (edges_keep mesh.x is.x),
        (
          edges_have_form (codes "y") mesh.y (rows_of mesh) y_count is.y,
          rw y_values (edges_keep mesh.y is.y),
          (
            refl,
            made_mesh of mesh pair _ _ _ _ (flag_again mesh.cyclic) (flag_again mesh.fold) (edges_again mesh.x is.x) (edges_again mesh.y is.y),
          ),
        ),
      ),
    )

-- DIGITS

digits_of_kind : (wet : List Bool) → AreOfKinds (replicate (length wet) flag) (map digit wet)
digits_of_kind [] = tt
digits_of_kind (w ∷ wet) = (flag_is_letter w, digits_of_kind wet)

digits_again : (wet : List Bool) → map is_one (map value (map digit wet)) ≡ wet
digits_again [] = refl
digits_again (w ∷ wet) = λ i. flag_again w i ∷ digits_again wet i

with_no_wet : (pair : BoxPair) → pair ≡ with_wet [] pair
with_no_wet pair = let same : pair.wet ≡ pair.wet ++ [] = sym (append-nil pair.wet) in λ i. record { air = pair.air; ocean = pair.ocean; wet = same i; column = pair.column }

with_more_wet : (first others : List Bool) (pair : BoxPair) → with_wet others (with_wet first pair) ≡ with_wet (first ++ others) pair
with_more_wet first others pair = let same = append_assoc pair.wet first others in λ i. record { air = pair.air; ocean = pair.ocean; wet = same i; column = pair.column }

wet_leads : (rows nx : ℕ) (wet : List Bool) (pair : BoxPair) → nx * rows ≤ length wet
    → BoxLeads (next_wet nx rows) pair (wet_lines rows nx wet) next.Column (with_wet (take (nx * rows) wet) pair)
wet_leads zero nx wet pair enough =
    let none : nx * 0 ≡ 0 = omega arith in
    (refl, with_no_wet pair ∙ ap (λ (n : ℕ). with_wet (take n wet) pair) (sym none))
wet_leads (suc rows) nx wet pair enough =
    let first : List Bool = take nx wet in
    let later : List Bool = drop nx wet in
    let room : nx + nx * rows ≤ length wet = omega arith in
    let width : length first ≡ nx = omega (arith, length-take nx wet) in
    let others = wet_leads rows nx later (with_wet first pair) (omega (arith, length-drop nx wet)) in
    let count : nx + nx * rows ≡ nx * suc rows = omega arith in
    let split : first ++ take (nx * rows) later ≡ take (nx * suc rows) wet = sym (take-add nx (nx * rows) wet) ∙ ap (λ (n : ℕ). take n wet) count in
    let whole : with_wet (take (nx * rows) later) (with_wet first pair) ≡ with_wet (take (nx * suc rows) wet) pair =
    with_more_wet first (take (nx * rows) later) pair ∙ ap (λ (l : List Bool). with_wet l pair) split in
    let kinds = subst (λ (n : ℕ). AreOfKinds (replicate n flag) (map digit first)) width (digits_of_kind first) in
    let said = sym (digits_again first) in (
      (refl, kinds),
      refl,
      subst (λ (told : List Bool). BoxLeads (next_wet nx rows) (with_wet told pair) (wet_lines rows nx later) next.Column (with_wet (take (nx * suc rows) wet) pair)) said
          (subst (BoxLeads (next_wet nx rows) (with_wet first pair) (wet_lines rows nx later) next.Column) whole others),
    )

-- ALL

-- the column and the end
end_leads : (column : Column) (pair all : BoxPair) → IsColumn column → with_column column pair ≡ all
    → BoxLeads next.Column pair (row (codes "column") (column.layers ∷ column.categories ∷ []) ∷ row (codes "end") [] ∷ []) next.Nothing all
end_leads column pair all is same =
    let layers = is.layers.1 in
    let categories = is.categories.1 in (
      (refl, (omega arith, (omega arith, tt))),
      column_keeps column is,
      ((refl, tt), refl, (refl, same)),
    )

pub box_leads : (pair : BoxPair) → IsWithinLimits pair → Leads box_format next.Head no_boxes (box_lines pair) next.Nothing pair
box_leads pair is =
    let nx : ℕ = columns_of pair.ocean in
    let ny : ℕ = rows_of pair.ocean in
    let one : BoxPair = with_mesh parent.Air (λ _. pair.air) no_boxes in
    let two : BoxPair = with_mesh parent.Ocean (λ _. pair.ocean) one in
    let three : BoxPair = with_wet (take (nx * ny) pair.wet) two in
    let last : List Line = row (codes "column") (pair.column.layers ∷ pair.column.categories ∷ []) ∷ row (codes "end") [] ∷ [] in
    let rows : List Line = wet_lines ny nx pair.wet in
    let all_wet : take (nx * ny) pair.wet ≡ pair.wet = take_all (nx * ny) pair.wet (omega (arith, is.wet)) in
    let whole : with_column pair.column three ≡ pair = λ i. record { air = pair.air; ocean = pair.ocean; wet = all_wet i; column = pair.column } in
    let end = end_leads pair.column three pair is.column whole in
    let wet = leads_on box_format (next_wet nx ny) two rows next.Column three last next.Nothing pair (wet_leads ny nx pair.wet two (omega (arith, is.wet))) end in
    let ocean = leads_on box_format (next.Size parent.Ocean) one (mesh_lines parent.Ocean pair.ocean) (next_wet nx ny) two (rows ++ last) next.Nothing pair (mesh_leads parent.Ocean pair.ocean one is.ocean) wet in
    let air = leads_on box_format (next.Size parent.Air) no_boxes (mesh_lines parent.Air pair.air) (next.Size parent.Ocean) one (mesh_lines parent.Ocean pair.ocean ++ (rows ++ last)) next.Nothing pair (mesh_leads parent.Air pair.air no_boxes is.air) ocean in
    ((refl, tt), refl, air)
