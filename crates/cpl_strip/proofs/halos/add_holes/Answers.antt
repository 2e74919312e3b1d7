use Rattle.std.proofs.Common.{arith, ◌≡◌, sym, ◌∙◌, ap, subst, ℕ, ◌+◌, ◌*◌, [], ◌∷◌, ◌++◌, get_or, set, Option, Some, None}
use Rattle.std.proofs.lemmas.Nat.{mul-add-lt}
use Rattle.cpl_mosaic.specs.Lists.{MosaicLists}
use Rattle.cpl_layout.specs.declared.piece.Piece.{Piece}
use Rattle.cpl_layout.specs.Layouts.{Cuts}
use Rattle.cpl_layout.specs.Pieces.{pieces_of, piece_of}
use Rattle.cpl_strip.specs.declared.parts.Hole.{Hole}
use Rattle.cpl_strip.specs.declared.halos.Beside.{Beside}
use Rattle.cpl_strip.specs.Rounds.{nth_hole}
use Rattle.cpl_strip.specs.Tables.{IsFilled}
use Rattle.cpl_strip.specs.Taken.{taken_by, hole_takes, holes_in}
use Rattle.cpl_strip.proofs.Filled.{filled_skip, filled_add}
use Rattle.cpl_strip.proofs.halos.add_holes.Goals as goal
use Rattle.cpl_strip.proofs.halos.add_holes.Goals.{in-Some+in_ok-add, in_default}

-- what a hole of a piece takes is what the hole of that number takes
takes : (mosaic : MosaicLists) (layout : Cuts) (to m : ℕ) (piece : Piece) (hole : Hole) (taken : Option (ℕ × Beside)) → piece ≡ piece_of layout to → hole ≡ nth_hole piece m → taken ≡ taken_by mosaic layout piece hole → hole_takes mosaic layout to m ≡ taken
takes mosaic layout to m piece hole taken at number is =
    sym (is ∙ ap (taken_by mosaic layout piece) number ∙ ap (λ (p : Piece). taken_by mosaic layout p (nth_hole p m)) at)

pub add-requires : goal.add-requires
add-requires c =
    let fits = mul-add-lt c.in-Some.from (pieces_of c.args.layout.now) c.args.to (pieces_of c.args.layout.now) c.in-Some.ensures.from c.requires.piece in
    let size = c.loop-m.invariant.size in
    let count : c.in-Some.from * c.pieces-pieces.result ≡ c.in-Some.from * pieces_of c.args.layout.now = ap (λ n. c.in-Some.from * n) c.pieces-pieces.ensures.count in
    omega arith

pub loop-m-preserved : goal.loop-m-preserved
loop-m-preserved c =
    elim c.match-taken_by.branch [
      | in-Some+in_ok-add w ↦
          let taken = takes c.args.mosaic.now c.args.layout.now c.args.to c.loop-m.m c.piece-piece.result c.nth_hole.result (Some (w.in-Some.from, w.in-Some.beside)) c.piece-piece.ensures.piece c.nth_hole.ensures w.in-Some.ensures.taken in
          let added = filled_add (hole_takes c.args.mosaic.now c.args.layout.now) (holes_in c.args.layout.now c.args.width) (pieces_of c.args.layout.now) c.args.to c.loop-m.m w.in-Some.from w.in-Some.beside c.loop-m.table taken w.in-Some.ensures.from c.requires.piece c.loop-m.invariant in
          subst (IsFilled (hole_takes c.args.mosaic.now c.args.layout.now) (holes_in c.args.layout.now c.args.width) (pieces_of c.args.layout.now) c.args.to (c.loop-m.m + 1))
          (sym (w.table-is ∙ w.in_ok-add.ensures ∙ ap (λ n. set c.loop-m.table (w.in-Some.from * n + c.args.to) (get_or c.loop-m.table (w.in-Some.from * n + c.args.to) [] ++ w.in-Some.beside ∷ [])) c.pieces-pieces.ensures.count))
          added
      | in_default w ↦
          let none = takes c.args.mosaic.now c.args.layout.now c.args.to c.loop-m.m c.piece-piece.result c.nth_hole.result None c.piece-piece.ensures.piece c.nth_hole.ensures w.in_default.ensures.taken in
          subst (IsFilled (hole_takes c.args.mosaic.now c.args.layout.now) (holes_in c.args.layout.now c.args.width) (pieces_of c.args.layout.now) c.args.to (c.loop-m.m + 1))
          (sym w.table-is)
          (filled_skip (hole_takes c.args.mosaic.now c.args.layout.now) (holes_in c.args.layout.now c.args.width) (pieces_of c.args.layout.now) c.args.to c.loop-m.m c.loop-m.table none c.loop-m.invariant)
    ]
