-- The laws of air grids.
use Rattle.std.proofs.Common.{◌≡◌, ◌∙◌, refl, ap, subst, ℕ, List, [], ◌∷◌, ◌++◌, codes, Option, Some, None, Ok}
use Rattle.std.specs.List.{flat_map, position}
use Rattle.cpl_fixed.specs.declared.words.Component.{Component}
use Rattle.cpl_fixed.specs.declared.words.Component.TheVariants.{Atmos}
use Rattle.cpl_mosaic.specs.declared.parts.MosaicError.{MosaicError}
use Rattle.cpl_mosaic.specs.declared.parts.MosaicError.TheVariants as mosaic
use Rattle.cpl_mosaic.specs.declared.mosaic.Mesh.{Mesh}
use Rattle.cpl_mosaic.specs.Contacts.{contact_fault}
use Rattle.cpl_lines.specs.Lines.{Line, row, row_form, line_text}
use Rattle.cpl_lines.proofs.Turns.{InOrder}
use Rattle.cpl_lines.proofs.Paths.{Leads, leads_on, text_makes, made_is}
use Rattle.cpl_lines.proofs.RowForms.{line_is}
use Rattle.cpl_gridfile.specs.declared.fault.GridError.{GridError}
use Rattle.cpl_gridfile.specs.declared.fault.GridError.TheVariants.{Area}
use Rattle.cpl_gridfile.specs.declared.next_line.GridKind.{GridKind}
use Rattle.cpl_gridfile.specs.declared.next_line.GridKind.TheVariants as kind
use Rattle.cpl_gridfile.specs.declared.next_line.GridMesh.TheVariants as mesh
use Rattle.cpl_gridfile.specs.declared.next_line.MeshLine.TheVariants as line
use Rattle.cpl_gridfile.specs.declared.next_line.NextLine.TheVariants as next
use Rattle.cpl_gridfile.specs.MeshFormat.{mesh_lines, no_mesh}
use Rattle.cpl_gridfile.specs.GridFormat.{Parts, grid_format, head_word, no_parts, with_mesh}
use Rattle.cpl_gridfile.specs.Within.{IsWithinLimits}
use Rattle.cpl_gridfile.specs.Rules.{◌then◌, at_cell, at_contact, area_fault, mosaic_fault, of_contacts, is_zero}
use Rattle.cpl_gridfile.specs.Grids.{parts_in}
use Rattle.cpl_gridfile.specs.AirGrid.{air_lines, air_text, air_grids}
use Rattle.cpl_gridfile.proofs.MeshLeads.{mesh_leads}
use Rattle.cpl_gridfile.proofs.MeshOf.{mesh_of_lines}
use Rattle.cpl_gridfile.proofs.MeshInGrid.{leads_in_grid, mesh_front}
use Rattle.cpl_gridfile.proofs.Laws.{Agrees, IsRule}

-- the parts of an air grid
abbrev air_parts : Mesh → Parts
air_parts air = with_mesh mesh.Atmos air no_parts

-- the lines of an air grid lead to its end
air_leads : (air : Mesh) → IsWithinLimits air → Leads (grid_format kind.Air) next.Head no_parts (air_lines air) next.Nothing (air_parts air)
air_leads air within =
    let through = leads_in_grid kind.Air mesh.Atmos no_parts (Some line.Mosaic) no_mesh (mesh_lines mesh.Atmos air) air (mesh_leads mesh.Atmos air within) in (
      (refl, tt),
      refl,
      leads_on (grid_format kind.Air) (next.Mesh mesh.Atmos line.Mosaic) no_parts (mesh_lines mesh.Atmos air) next.End (air_parts air) (row (codes "end") [] ∷ []) next.Nothing (air_parts air)
          through ((refl, tt), refl, (refl, refl)),
    )

-- ---- lines in order

-- the end is the last line
pub end_is : (kind : GridKind) (lines : List Line) → InOrder (grid_format kind) next.End lines → lines ≡ row (codes "end") [] ∷ []
end_is kind [] order = absurd cc
end_is kind (line ∷ []) order = let said = line_is (row_form (codes "end") 0) line order.0 in (λ i. said i ∷ [])
end_is kind (line ∷ other ∷ lines) order = absurd order.2.0

record IsOfAir (lines : List Line) : Type 0 where
  air : Mesh
  limits : IsWithinLimits air
  text : lines ≡ air_lines air

air_of_lines : (lines : List Line) → InOrder (grid_format kind.Air) next.Head lines → IsOfAir lines
air_of_lines [] order = absurd cc
air_of_lines (head ∷ lines) order =
    let said = line_is (row_form (head_word kind.Air) 0) head order.0 in
    let front = mesh_front kind.Air mesh.Atmos (Some line.Mosaic) lines order.2 in
    let found = mesh_of_lines mesh.Atmos front.front front.order in
    let ending = end_is kind.Air front.rest front.rest_order in
    let texts : lines ≡ mesh_lines mesh.Atmos found.mesh ++ row (codes "end") [] ∷ [] = front.text ∙ λ i. found.text i ++ ending i in
    record { air = found.mesh; limits = found.limits; text = λ i. said i ∷ texts i }

-- ---- the laws

record Told (bytes : List ℕ) (parts : Parts) : Type 0 where
  within : IsWithinLimits parts.air
  text : bytes ≡ air_text parts.air

told : (bytes : List ℕ) (parts : Parts) → parts_in kind.Air bytes ≡ Ok parts → Told bytes parts
told bytes parts e =
    let made = made_is (grid_format kind.Air) next.Head no_parts bytes parts e in
    let found = air_of_lines made.lines made.order in
    let leads = air_leads found.air found.limits in
    let same : air_parts found.air ≡ parts = made.leads_to (air_lines found.air) next.Nothing (air_parts found.air) found.text leads in
    record {
      within = subst (λ (p : Parts). IsWithinLimits p.air) same found.limits;
      text = made.text ∙ ap (flat_map line_text) found.text ∙ ap (λ (p : Parts). air_text p.air) same;
    }

contact_rule : (component : Component) (fault : MosaicError) → IsRule (of_contacts component fault)
contact_rule component (mosaic.ContactRange n) = tt
contact_rule component (mosaic.ContactTwice n) = tt
contact_rule component (mosaic.SelfMeet n) = tt
contact_rule component mosaic.Memory = tt

pub cell_is_rule : (cell : Option ℕ) (fault : GridError) → at_cell cell ≡ Some fault → IsRule fault
cell_is_rule (Some cell) fault e = let same : Area Atmos cell ≡ fault = cc in subst IsRule same tt
cell_is_rule None fault e = absurd cc

pub contact_is_rule : (component : Component) (found : Option MosaicError) (fault : GridError) → at_contact component found ≡ Some fault → IsRule fault
contact_is_rule component (Some found) fault e = let same : of_contacts component found ≡ fault = cc in subst IsRule same (contact_rule component found)
contact_is_rule component None fault e = absurd cc

-- a rule of the first of two
pub then_is_rule : (first others : Option GridError) → ((fault : GridError) → first ≡ Some fault → IsRule fault) → ((fault : GridError) → others ≡ Some fault → IsRule fault)
    → (fault : GridError) → (first then others) ≡ Some fault → IsRule fault
then_is_rule (Some found) others one other fault e = one fault e
then_is_rule None others one other fault e = other fault e

pub air_agrees : Agrees air_grids
air_agrees = record {
  spelled = λ air within. (air_parts air, text_makes (grid_format kind.Air) next.Head no_parts (air_lines air) next.Nothing (air_parts air) (air_leads air within) refl, refl);
  within = λ bytes parts e. (told bytes parts e).within;
  text = λ bytes parts e. (told bytes parts e).text;
  rules = λ air fault e. then_is_rule (area_fault air) (mosaic_fault Atmos air)
      (cell_is_rule (position is_zero air.area)) (contact_is_rule Atmos (contact_fault air.mosaic.tiles air.mosaic.contacts)) fault e;
}
