use Rattle.std.proofs.Common.{◌≡◌, ◌<◌, ◌%◌, ℕ, true, false, length, ap, sym, ◌∙◌, arith, rules, get_or, pos, w64, below_more}
use Rattle.std.specs.Int.{cast_signed, cast_unsigned}
use Rattle.std.specs.Int.RustNames.{FitsSigned}
use Rattle.std.proofs.lemmas.Int.{to_z-of_z}
use Rattle.cpl_fixed.specs.Amounts.{at}
use Rattle.cpl_faces.specs.Faces.{face_in}
use Rattle.cpl_restart.specs.Lawful.{if_none, is_walled, is_wrong, is_wrong_at}
use Rattle.cpl_restart.specs.declared.lawful.Spot.{Spot}
use Rattle.cpl_restart.specs.declared.start_error.StartError.TheVariants.{Wall}
use Rattle.cpl_restart.proofs.Cells.{cell_below, face_on, one_each}
use Rattle.cpl_restart.proofs.Least.{least_none, least_some}
use Rattle.cpl_restart.proofs.lawful.refuse_wrong_faces.Goals as goal

pub is_wrong-requires-clause-face : goal.is_wrong-requires-clause-face
is_wrong-requires-clause-face c =
    let some : 0 < length c.args.faces.now = c.requires.some (omega arith) in
    let below = cell_below 1 (length c.args.faces.now) c.loop-place.place c.loop-place.spot some c.loop-place.invariant.spot in
    face_on c.args.ocean.now c.args.faces.now c.loop-place.spot.cell c.cells-cells.ensures.numbers c.cells-cells.ensures.mates c.requires.faces below

pub returns-then-is_wrong : goal.returns-then-is_wrong
returns-then-is_wrong c =
    let ocean = c.args.ocean.now in
    let faces = c.args.faces.now in
    let numbers = c.args.numbers.now in
    let place = c.loop-place.place in
    let cell : place % length faces ≡ c.loop-place.spot.cell = sym (ap (λ (s : Spot). s.cell) c.loop-place.invariant.spot ∙ ap (λ (n : ℕ). n % length faces) (one_each place)) in
    let fits : FitsSigned w64 (get_or numbers place (pos 0)) = search rules in
    let back : cast_signed w64 (cast_unsigned w64 (get_or numbers place (pos 0))) ≡ get_or numbers place (pos 0) = to_z-of_z w64 (get_or numbers place (pos 0)) fits in
    let here : is_wrong_at ocean faces numbers place ≡ true = ap (λ (n : ℕ). is_wrong (is_walled ocean (face_in faces n)) (at numbers place)) cell ∙ ap (is_wrong (is_walled ocean (face_in faces c.loop-place.spot.cell))) (sym back) ∙ sym c.is_wrong.ensures ∙ c.if-is_wrong.true in
    ap (if_none Wall) (least_some (is_wrong_at ocean faces numbers) (length numbers) place c.loop-place-test.true c.loop-place.invariant.before here)

pub loop-place-preserved : goal.loop-place-preserved
loop-place-preserved c =
    let ocean = c.args.ocean.now in
    let faces = c.args.faces.now in
    let numbers = c.args.numbers.now in
    let place = c.loop-place.place in
    let cell : place % length faces ≡ c.loop-place.spot.cell = sym (ap (λ (s : Spot). s.cell) c.loop-place.invariant.spot ∙ ap (λ (n : ℕ). n % length faces) (one_each place)) in
    let fits : FitsSigned w64 (get_or numbers place (pos 0)) = search rules in
    let back : cast_signed w64 (cast_unsigned w64 (get_or numbers place (pos 0))) ≡ get_or numbers place (pos 0) = to_z-of_z w64 (get_or numbers place (pos 0)) fits in
    let here : is_wrong_at ocean faces numbers place ≡ false = ap (λ (n : ℕ). is_wrong (is_walled ocean (face_in faces n)) (at numbers place)) cell ∙ ap (is_wrong (is_walled ocean (face_in faces c.loop-place.spot.cell))) (sym back) ∙ sym c.is_wrong.ensures ∙ c.if-is_wrong.false in
    record {
      spot = c.next-spot.ensures place c.loop-place.invariant.spot;
      before = below_more (λ k. is_wrong_at ocean faces numbers k ≡ false) place c.loop-place.invariant.before here;
    }

pub returns : goal.returns
returns c =
    let numbers = c.args.numbers.now in
    ap (if_none Wall) (least_none (is_wrong_at c.args.ocean.now c.args.faces.now numbers) (length numbers) (λ k lt. c.loop-place.invariant.before k (omega arith)))
