-- Steps of the pieces and steps of the whole.
use Rattle.std.proofs.Common.{◌≡◌, ◌∙◌, sym, ap, subst, ℕ, ◌+◌, ◌<◌, arith, List, add-one}
use Rattle.std.specs.Prelude.{ℤ}
use Rattle.cpl_mosaic.specs.declared.mosaic.Mesh.{Mesh}
use Rattle.cpl_mosaic.specs.Mates.{MatesAgree}
use Rattle.cpl_mosaic.specs.Cells.{NumbersAgree}
use Rattle.cpl_layout.specs.Layouts.{Cuts}
use Rattle.cpl_layout.specs.Pieces.{pieces_of, piece_of}
use Rattle.cpl_layout.specs.Owners.{IsPieceOf, OwnersAgree}
use Rattle.cpl_strip.specs.declared.parts.Strip.{Strip}
use Rattle.cpl_strip.specs.Strips.{AreStrips}
use Rattle.cpl_field.specs.Spots.{FieldNumbers}
use Rattle.cpl_atmos.specs.Sweeps.{AirNumbers}
use Rattle.cpl_state.specs.Diffusion.{IsAirMesh, AreAmounts, cell_count, diffused, diffused_by, total_of}
use Rattle.cpl_diffusion.proofs.Conserved.{diffused_are, diffused_total}
use Rattle.cpl_divided.specs.Fields.{field_at, Carries}
use Rattle.cpl_divided.specs.Steps.{ArePieces, HaveAmounts, StepsAll, KeepsAreas, area_of}
use Rattle.cpl_divided.specs.Whole.{IsFieldOf, HoldWhole, HaveAreas, HasCells, HasHoles}
use Rattle.cpl_divided.proofs.Filled.{still_whole, holes_filled, hole_spot}
use Rattle.cpl_divided.proofs.Next.{amounts_are, next_is}

-- the laws that a mesh and a layout of its mosaic have
pub record AreSet (mesh : Mesh) (layout : Cuts) : Type 0 where
  pub tiles : layout.tiles ≡ mesh.mosaic.tiles
  pub air : IsAirMesh mesh
  pub mates : MatesAgree mesh.mosaic
  pub numbers : NumbersAgree mesh.mosaic.tiles
  pub owners : OwnersAgree layout

-- the fields hold what a list is after so many steps
pub record RunsTo (mesh : Mesh) (layout : Cuts) (xs : List ℤ) (n : ℕ) (fields : List FieldNumbers) : Type 0 where
  pub holds : HoldWhole mesh.mosaic layout (diffused_by n mesh xs) fields
  pub range : AreAmounts (cell_count mesh) (diffused_by n mesh xs)
  pub total : total_of (diffused_by n mesh xs) ≡ total_of xs

pub areas_kept : (mesh : Mesh) (layout : Cuts) (old new : List AirNumbers) → HaveAreas mesh layout old → KeepsAreas old new → HaveAreas mesh layout new
areas_kept mesh layout old new have keeps = record {
  count = keeps.count ∙ have.count;
  each = λ p l. subst (IsFieldOf (piece_of layout p)) (sym (keeps.each p)) (have.each p l);
  cells = λ p l. subst (HasCells mesh.mosaic.tiles mesh.area (piece_of layout p)) (sym (keeps.each p)) (have.cells p l);
  holes = λ p l. subst (HasHoles mesh.mosaic mesh.area (piece_of layout p)) (sym (keeps.each p)) (have.holes p l);
}

module _ (mesh : Mesh) (layout : Cuts) (set : AreSet mesh layout) (strips : List Strip) (are : AreStrips mesh.mosaic layout 1 strips) (airs : List AirNumbers) (have : HaveAreas mesh layout airs) (xs : List ℤ) (amounts : AreAmounts (cell_count mesh) xs) (old filled : List FieldNumbers) (whole : HoldWhole mesh.mosaic layout xs old) (carries : Carries strips old filled) where
  after : HoldWhole mesh.mosaic layout xs filled
  after = still_whole mesh.mosaic layout strips are set.mates set.owners set.tiles xs old filled whole carries

  holes : (p : ℕ) → p < pieces_of layout → HasHoles mesh.mosaic xs (piece_of layout p) (field_at filled p)
  holes = holes_filled mesh.mosaic layout strips are set.mates set.owners set.tiles xs old filled whole carries

  inside : (p : ℕ) → p < pieces_of layout → IsPieceOf mesh.mosaic.tiles (piece_of layout p)
  inside p l = subst (λ t. IsPieceOf t (piece_of layout p)) set.tiles (set.owners.inside p l)

  pub pieces_are : ArePieces airs filled
  pieces_are = record {
    count = have.count ∙ sym after.sized.count;
    shapes = λ p l.
        let count = after.sized.count in
        let below : p < pieces_of layout = omega arith in
        let a = have.each p below in
        let f = after.sized.each p below in
        record { nx = f.nx ∙ sym a.nx; ny = f.ny ∙ sym a.ny; width = f.width ∙ sym a.width };
  }

  pub have_amounts : HaveAmounts filled
  have_amounts p l =
      let count = after.sized.count in
      let below : p < pieces_of layout = omega arith in
      amounts_are mesh set.air set.mates set.numbers (piece_of layout p) (inside p below) xs amounts (field_at filled p) (after.sized.each p below) (after.cells p below) (holes p below)

  pub whole_next : (new : List FieldNumbers) → StepsAll airs filled new → HoldWhole mesh.mosaic layout (diffused mesh xs) new
  whole_next new steps = record {
    sized = record {
      count = steps.count ∙ after.sized.count;
      each = λ p l.
          let count = after.sized.count in
          let shape = (steps.each p (omega arith)).shape in
          let f = after.sized.each p l in
          record { nx = shape.nx ∙ f.nx; ny = shape.ny ∙ f.ny; width = shape.width ∙ f.width };
    };
    cells = λ p l i j place.
        let count = after.sized.count in
        let f = after.sized.each p l in
        let nx = f.nx in
        let ny = f.ny in
        let column = place.column in
        let row = place.row in
        (steps.each p (omega arith)).cells i j (omega arith, omega arith)
        ∙ next_is mesh set.air set.mates set.numbers (piece_of layout p) (inside p l) xs amounts (area_of airs p) (field_at filled p) (have.each p l) (have.cells p l) (have.holes p l) (after.sized.each p l) (after.cells p l) (holes p l) i j place;
    empty = λ p l side k along none.
        let count = after.sized.count in
        (steps.each p (omega arith)).holes side k 1 (hole_spot (piece_of layout p) (field_at filled p) (after.sized.each p l) side k 1 along (omega arith) (omega arith))
        ∙ after.empty p l side k along none;
  }

-- one step more
pub runs_more : (mesh : Mesh) (layout : Cuts) (set : AreSet mesh layout) (strips : List Strip) (are : AreStrips mesh.mosaic layout 1 strips) (airs : List AirNumbers) (have : HaveAreas mesh layout airs) (xs : List ℤ) (n : ℕ) (old filled new : List FieldNumbers) → RunsTo mesh layout xs n old → Carries strips old filled → StepsAll airs filled new → RunsTo mesh layout xs (n + 1) new
runs_more mesh layout set strips are airs have xs n old filled new runs carries steps =
    let now = diffused_by n mesh xs in
    let next : diffused mesh now ≡ diffused_by (n + 1) mesh xs = sym (ap (λ m. diffused_by m mesh xs) (add-one n)) in
    record {
      holds = subst (λ ys. HoldWhole mesh.mosaic layout ys new) next (whole_next mesh layout set strips are airs have now runs.range old filled runs.holds carries new steps);
      range = subst (AreAmounts (cell_count mesh)) next (diffused_are mesh set.air set.mates set.numbers now runs.range);
      total = ap total_of (sym next) ∙ diffused_total mesh set.air set.mates set.numbers now runs.range ∙ runs.total;
    }
