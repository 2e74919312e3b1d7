use Rattle.std.proofs.Common.{◌≡◌, ◌∙◌, sym, ap, subst, arith, rules, ℕ, ◌^◌, ◌≤◌, List, length}
use Rattle.std.specs.Prelude.{All}
use Rattle.std.proofs.lemmas.List.Elements.{All-from_get_or, All-get_or}
use Rattle.cpl_mosaic.specs.declared.mosaic.Mesh.{Mesh}
use Rattle.cpl_state.specs.Transport.{face_count}
use Rattle.cpl_sea.specs.declared.links.CellFaces.{CellFaces}
use Rattle.cpl_sea.specs.Blocks.{AreReady}
use Rattle.cpl_sea.specs.Links.{all_cell_faces}
use Rattle.cpl_sea.specs.Passes.{AreSidesWithin, cell_faces_at}
use Rattle.cpl_sea.proofs.Looked.{all_sides_within, no_cell_faces}
use Rattle.cpl_sea.proofs.Moved.{sides_more}
use Rattle.cpl_sea.proofs.room.SeaRoom.new.Goals as goal

-- the faces of all cells, as they were listed, are among so many
sides : (mesh : Mesh) (faces : List CellFaces) → faces ≡ all_cell_faces mesh → (count : ℕ) → face_count mesh ≤ count → All (AreSidesWithin count) faces
sides mesh faces e count le =
    let all = subst (All (AreSidesWithin (face_count mesh))) (sym e) (all_sides_within mesh) in
    All-from_get_or (AreSidesWithin count) faces no_cell_faces
    (λ n l. sides_more (face_count mesh) count le (cell_faces_at faces n) (All-get_or (AreSidesWithin (face_count mesh)) faces n no_cell_faces l all))

pub blocks_ready-requires : goal.blocks_ready-requires
blocks_ready-requires c =
    let mesh = c.args.grid.now.ocean in
    let count : length c.in_ok-faces.faces.items ≡ face_count mesh = ap length c.in_ok-faces.ensures.faces in
    sides mesh c.as_slice-3.result.now (c.as_slice-3.ensures.value ∙ c.in_ok-cell_faces.ensures) (2 ^ 24) (omega (arith, count, c.in_ok-faces.ensures.are.few, c.cells-cells.ensures.rules.sizes.cells))

pub returns : goal.returns
returns c =
    let mesh = c.args.grid.now.ocean in
    let faces : c.as_slice-3.result.now ≡ all_cell_faces mesh = c.as_slice-3.ensures.value ∙ c.in_ok-cell_faces.ensures in
    record {
      ocean = search rules;
      few = search rules;
      some = search rules;
      links = search rules;
      cell_faces = search rules;
      ready = subst (λ (xs : List CellFaces). AreReady (face_count mesh) xs c.in_ok-blocks_ready.field-0.items) c.as_slice-3.ensures.value
          (c.in_ok-blocks_ready.ensures (face_count mesh) (sides mesh c.as_slice-3.result.now faces (face_count mesh) (omega arith)));
      heights = search rules;
      flows = search rules;
      next_water = search rules;
      next_heat = search rules;
      next_salt = search rules;
      rest = search rules;
    }
