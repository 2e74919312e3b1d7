use Rattle.std.proofs.Common.{◌≡◌, true, length, ap, sym, ◌∙◌, arith, rules, get_or, pos, w64}
use Rattle.std.specs.Int.{cast_signed, cast_unsigned}
use Rattle.std.specs.Int.RustNames.{FitsSigned}
use Rattle.std.proofs.lemmas.Int.{to_z-of_z}
use Rattle.cpl_fixed.specs.Amounts.{at}
use Rattle.cpl_restart.specs.Lawful.{if_none, is_left, is_stray}
use Rattle.cpl_state.specs.States.{cells_in}
use Rattle.cpl_restart.specs.declared.lawful.Spot.{Spot}
use Rattle.cpl_restart.specs.declared.start_error.StartError.TheVariants.{Dry}
use Rattle.cpl_restart.proofs.Cells.{some_cells, cell_below}
use Rattle.cpl_restart.proofs.Least.{least_none, least_some}
use Rattle.cpl_restart.proofs.lawful.refuse_strays.Goals as goal

pub is_left-requires-clause-cell : goal.is_left-requires-clause-cell
is_left-requires-clause-cell c =
    cell_below c.args.width (cells_in c.args.mesh.now) c.loop-place.place c.loop-place.spot (some_cells c.args.mesh.now.mosaic.tiles c.cells-cells.ensures.rules.sizes) c.loop-place.invariant.spot

pub next-spot-requires-clause-cell : goal.next-spot-requires-clause-cell
next-spot-requires-clause-cell c =
    let below = cell_below c.args.width (cells_in c.args.mesh.now) c.loop-place.place c.loop-place.spot (some_cells c.args.mesh.now.mosaic.tiles c.cells-cells.ensures.rules.sizes) c.loop-place.invariant.spot in
    omega (arith, c.cells-cells.ensures.count)

pub returns-then-is_left : goal.returns-then-is_left
returns-then-is_left c =
    let mesh = c.args.mesh.now in
    let numbers = c.args.numbers.now in
    let place = c.loop-place.place in
    let fits : FitsSigned w64 (get_or numbers place (pos 0)) = search rules in
    let back : cast_signed w64 (cast_unsigned w64 (get_or numbers place (pos 0))) ≡ get_or numbers place (pos 0) = to_z-of_z w64 (get_or numbers place (pos 0)) fits in
    let here : is_stray mesh c.args.width numbers place ≡ true = ap (λ (s : Spot). is_left mesh s.cell (at numbers place)) (sym c.loop-place.invariant.spot) ∙ ap (is_left mesh c.loop-place.spot.cell) (sym back) ∙ sym c.is_left.ensures ∙ c.if-is_left.true in
    ap (if_none (Dry c.args.section)) (least_some (is_stray mesh c.args.width numbers) (length numbers) place c.loop-place-test.true c.loop-place.invariant.before here)

pub returns : goal.returns
returns c =
    let numbers = c.args.numbers.now in
    let end : c.loop-place.place ≡ length numbers = omega arith in
    ap (if_none (Dry c.args.section)) (least_none (is_stray c.args.mesh.now c.args.width numbers) (length numbers) (λ k lt. c.loop-place.invariant.before k (omega arith)))
