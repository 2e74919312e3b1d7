-- The rules of a parent's cells, as they are read from the exchange cells or the outlets of each.
use Rattle.std.proofs.Common.{◌≡◌, refl, sym, ◌∙◌, ap, subst, Bool, true, false, not, ◌&&◌, ◌||◌, cond, ℕ, ◌+◌, ◌<◌, arith, List, [], ◌∷◌, length, get_or, Some, None}
use Rattle.std.specs.Prelude.{ℤ, pos}
use Rattle.std.specs.List.{list_any}
use Rattle.std.specs.Ordering.{int_eq}
use Rattle.cpl_mosaic.specs.declared.parts.CellId.{CellId}
use Rattle.cpl_mosaic.specs.declared.parts.Tile.{Tile}
use Rattle.cpl_mosaic.specs.declared.mosaic.Mesh.{Mesh}
use Rattle.cpl_mosaic.specs.Sides.{is_same_cell}
use Rattle.cpl_mosaic.specs.Contacts.{cells_of}
use Rattle.cpl_mosaic.specs.Cells.{cell_of}
use Rattle.cpl_xgrid.specs.declared.parts.XRow.{XRow}
use Rattle.cpl_xgrid.specs.declared.parts.XRef.{XRef}
use Rattle.cpl_xgrid.specs.declared.parts.Outlet.{Outlet}
use Rattle.cpl_xgrid.specs.declared.rules.Parent.{Parent}
use Rattle.cpl_xgrid.specs.declared.error.XGridError.TheVariants.{NoOutlet}
use Rattle.cpl_xgrid.specs.Groups.{numbers_from}
use Rattle.cpl_xgrid.specs.Rows.{outlets_of}
use Rattle.cpl_xgrid.specs.Rules.{tiles_of, first_fault, sum_fault, no_outlet_fault}
use Rattle.cpl_xgrid.specs.Indexes.{for_cells, refs_area, sum_error, group_fault, dry_fault, is_empty, AreRefs}
use Rattle.cpl_xgrid.specs.Lists.{AreRows, XGridLists}
use Rattle.cpl_xgrid.specs.Parents.{parent_fault, parent_refs, parent_sum}
use Rattle.cpl_xgrid.proofs.CellNumbers.{for_cells_read, for_cells_count}
use Rattle.cpl_xgrid.proofs.Faults.{faults_agree}
use Rattle.cpl_xgrid.proofs.Sums.{parent_refs_are, parent_sum_is}

-- what stands for a cell
pub group_of : {T : Type 0} (tiles : List Tile) (groups : List (List T)) (has : CellId → List T) (n : ℕ) → groups ≡ for_cells tiles has → n < cells_of tiles → get_or groups n [] ≡ has (cell_of tiles n)
group_of tiles groups has n are within = ap (λ (l : List (List _)). get_or l n []) are ∙ for_cells_read tiles has n [] within

pub group_count : {T : Type 0} (tiles : List Tile) (groups : List (List T)) (has : CellId → List T) → groups ≡ for_cells tiles has → length groups ≡ cells_of tiles
group_count tiles groups has are = ap length are ∙ for_cells_count tiles has

-- what an exchange grid keeps for a cell, by the lists that contracts see
pub record IsAt {T : Type 0} (groups : List (List T)) (n : ℕ) (group : List T) : Type 0 where
  pub within : n < length groups
  pub is : get_or groups n [] ≡ group

pub kept_at : {T : Type 0} (tiles : XGridLists → List Tile) (has : XGridLists → CellId → List T) (own lists : XGridLists) (groups : List (List T)) (n : ℕ)
    → own ≡ lists → groups ≡ for_cells (tiles own) (has own) → n < cells_of (tiles lists) → IsAt groups n (has lists (cell_of (tiles lists) n))
kept_at tiles has own lists groups n same are less =
    let here : groups ≡ for_cells (tiles lists) (has lists) = subst (λ (x : XGridLists). groups ≡ for_cells (tiles x) (has x)) same are in
    let count = group_count (tiles lists) groups (has lists) here in
    record { within = omega arith; is = group_of (tiles lists) groups (has lists) n here less }

module _ (of : Parent) (mesh : Mesh) (land_rows ocean_rows : List XRow) (groups : List (List XRef)) (are : groups ≡ for_cells (tiles_of mesh) (parent_refs of land_rows ocean_rows)) where
  -- the sums of a parent's cells
  pub sums_agree : length mesh.area ≡ cells_of (tiles_of mesh) → first_fault (group_fault of land_rows ocean_rows groups) 0 mesh.area ≡ parent_fault of mesh land_rows ocean_rows
  sums_agree count =
      faults_agree (group_fault of land_rows ocean_rows groups) (sum_fault (sum_error of) (parent_sum of land_rows ocean_rows) mesh) 0 mesh.area (λ k h x.
      let within : k < cells_of (tiles_of mesh) = omega arith in
      let cell = cell_of (tiles_of mesh) k in
      let same : refs_area land_rows ocean_rows (get_or groups k []) ≡ parent_sum of land_rows ocean_rows cell =
      ap (refs_area land_rows ocean_rows) (group_of (tiles_of mesh) groups (parent_refs of land_rows ocean_rows) k are within) ∙ parent_sum_is of land_rows ocean_rows cell in
      ap (λ (s : ℤ). cond (int_eq s x) None (Some (sum_error of k s x))) same)

  pub groups_are : AreRows land_rows ocean_rows → (n : ℕ) → n < length groups → AreRefs land_rows ocean_rows (get_or groups n [])
  groups_are rows n h =
      let count = group_count (tiles_of mesh) groups (parent_refs of land_rows ocean_rows) are in
      subst (AreRefs land_rows ocean_rows) (sym (group_of (tiles_of mesh) groups (parent_refs of land_rows ocean_rows) n are (omega arith))) (parent_refs_are of land_rows ocean_rows (cell_of (tiles_of mesh) n) rows)

-- no item passes where no number is of one
empty_cond : (b any : Bool) (n : ℕ) (xs : List ℕ) → is_empty xs ≡ not any → is_empty (cond b (n ∷ xs) xs) ≡ not (b || any)
empty_cond true any n xs e = refl
empty_cond false any n xs e = e

empty_any : {T : Type 0} (passes : T → Bool) (n : ℕ) (items : List T) → is_empty (numbers_from passes n items) ≡ not (list_any passes items)
empty_any passes n [] = refl
empty_any passes n (item ∷ items) = empty_cond (passes item) (list_any passes items) n (numbers_from passes (n + 1) items) (empty_any passes (n + 1) items)

-- the outlets of the land's cells
pub dry_agrees : (mesh : Mesh) (outlets : List Outlet) (groups : List (List ℕ))
    → length mesh.area ≡ cells_of (tiles_of mesh) → groups ≡ for_cells (tiles_of mesh) (outlets_of outlets) → first_fault (dry_fault groups) 0 mesh.area ≡ first_fault (no_outlet_fault mesh outlets) 0 mesh.area
dry_agrees mesh outlets groups count are =
    faults_agree (dry_fault groups) (no_outlet_fault mesh outlets) 0 mesh.area (λ k h x.
    let within : k < cells_of (tiles_of mesh) = omega arith in
    let same : is_empty (get_or groups k []) ≡ not (list_any (λ (outlet : Outlet). is_same_cell outlet.land (cell_of (tiles_of mesh) k)) outlets) =
    ap is_empty (group_of (tiles_of mesh) groups (outlets_of outlets) k are within) ∙ empty_any (λ (outlet : Outlet). is_same_cell outlet.land (cell_of (tiles_of mesh) k)) 0 outlets in
    ap (λ (b : Bool). cond (not (int_eq x (pos 0)) && b) (Some (NoOutlet k)) None) same)
