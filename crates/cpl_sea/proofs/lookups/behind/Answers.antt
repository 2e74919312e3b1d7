use Rattle.std.proofs.Common.{◌≡◌, ◌∙◌, refl, sym, ap, ℕ, Bool, true, false, Option, Some, None}
use Rattle.std.specs.Prelude.{if◌then◌else◌}
use Rattle.cpl_mosaic.specs.declared.parts.CellId.{CellId}
use Rattle.cpl_mosaic.specs.declared.parts.Side.{Side}
use Rattle.cpl_mosaic.specs.declared.mosaic.Mesh.{Mesh}
use Rattle.cpl_mosaic.specs.Sides.{CellSide, opposite}
use Rattle.cpl_mosaic.specs.Cells.{cell_of, number_of}
use Rattle.cpl_mosaic.specs.Mates.{mate_of}
use Rattle.cpl_state.specs.Transport.{behind, is_open, open_or}
use Rattle.cpl_sea.proofs.lookups.behind.Goals as goal

choice_true : (b : Bool) (m n : ℕ) → b ≡ true → (if b then m else n) ≡ m
choice_true true m n h = refl
choice_true false m n h = absurd (cc h)

choice_false : (b : Bool) (m n : ℕ) → b ≡ false → (if b then m else n) ≡ n
choice_false true m n h = absurd (cc h)
choice_false false m n h = refl

-- the mate of the opposite side, as it was looked up
mate_is : (mesh : Mesh) (n : ℕ) (side : Side) (cell : CellId) (back : Side) (o : Option CellSide) → o ≡ mate_of mesh.mosaic (cell, back) → cell ≡ cell_of mesh.mosaic.tiles n → back ≡ opposite side
    → mate_of mesh.mosaic (cell_of mesh.mosaic.tiles n, opposite side) ≡ o
mate_is mesh n side cell back o e f g = sym (e ∙ (λ i. mate_of mesh.mosaic (f i, g i)))

behind_is : (mesh : Mesh) (n : ℕ) (side : Side) (o : Option CellSide) → mate_of mesh.mosaic (cell_of mesh.mosaic.tiles n, opposite side) ≡ o → behind mesh n side ≡ open_or mesh n o
unfolding behind
behind_is mesh n side o e = ap (open_or mesh n) e

pub returns-then-is_open : goal.returns-then-is_open
returns-then-is_open c =
    let mesh = c.args.mesh.now in
    let n = c.args.n in
    let m = c.number-other.result in
    let own = c.number-other.ensures in
    let found = mate_is mesh n c.args.side c.cell.result c.opposite.result (Some (c.in-Some.cell, c.in-Some.field-0-1)) c.in-Some.ensures.mate c.cell.ensures c.opposite.ensures in
    let wet : is_open mesh n m ≡ true = sym c.if-is_open.ensures in
    own
    ∙ sym (choice_true (is_open mesh n (number_of mesh.mosaic.tiles c.in-Some.cell)) (number_of mesh.mosaic.tiles c.in-Some.cell) n (ap (is_open mesh n) (sym own) ∙ wet))
    ∙ sym (behind_is mesh n c.args.side (Some (c.in-Some.cell, c.in-Some.field-0-1)) found)

pub returns-else-is_open : goal.returns-else-is_open
returns-else-is_open c =
    let mesh = c.args.mesh.now in
    let n = c.args.n in
    let m = c.number-other.result in
    let own = c.number-other.ensures in
    let found = mate_is mesh n c.args.side c.cell.result c.opposite.result (Some (c.in-Some.cell, c.in-Some.field-0-1)) c.in-Some.ensures.mate c.cell.ensures c.opposite.ensures in
    let dry : is_open mesh n m ≡ false = sym c.if-is_open.ensures in
    sym (choice_false (is_open mesh n (number_of mesh.mosaic.tiles c.in-Some.cell)) (number_of mesh.mosaic.tiles c.in-Some.cell) n (ap (is_open mesh n) (sym own) ∙ dry))
    ∙ sym (behind_is mesh n c.args.side (Some (c.in-Some.cell, c.in-Some.field-0-1)) found)

pub returns-in-None : goal.returns-in-None
returns-in-None c =
    let found = mate_is c.args.mesh.now c.args.n c.args.side c.cell.result c.opposite.result None c.in-None.ensures.mate c.cell.ensures c.opposite.ensures in
    sym (behind_is c.args.mesh.now c.args.n c.args.side None found)
