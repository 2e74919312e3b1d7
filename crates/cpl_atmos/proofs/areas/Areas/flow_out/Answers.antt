use Rattle.std.proofs.Common.{◌≡◌, ◌∙◌, sym, subst, ap, pos, arith}
use Rattle.std.specs.Prelude.{◌<ℤ◌}
use Rattle.std.proofs.lemmas.Int.{ints}
use Rattle.cpl_fixed.specs.Flows.{flow, face_divisor, IsAirArea}
use Rattle.cpl_field.specs.Spots.{FieldNumbers, CellAt, IsSpot, number_at, out_from}
use Rattle.cpl_atmos.proofs.Stored.{out_is_spot, beside_some}
use Rattle.cpl_atmos.proofs.Divisors.{wide}
use Rattle.cpl_atmos.proofs.areas.Areas.flow_out.Goals as goal

pub flow_across-requires-clause-divisor : goal.flow_across-requires-clause-divisor
flow_across-requires-clause-divisor c =
    let on = subst (λ (f : FieldNumbers). IsSpot f (CellAt c.args.i c.args.j)) (sym c.self.view_is) c.requires.cell in
    let own : IsAirArea (number_at c.self.inside.area (CellAt c.args.i c.args.j)) = c.self.invariant.areas.cells c.args.i c.args.j on in
    let spot = out_is_spot c.self.inside.area c.self.invariant.width c.args.i c.args.j c.args.side on in
    let least = c.self.invariant.areas.least (out_from c.self.inside.area c.args.i c.args.j c.args.side 1) spot in
    let same_own = ap (λ (f : FieldNumbers). number_at f (CellAt c.args.i c.args.j)) c.self.view_is in
    let same_other = ap (λ (f : FieldNumbers). number_at f (out_from f c.args.i c.args.j c.args.side 1)) c.self.view_is in
    let a : number_at c.args.self.now (CellAt c.args.i c.args.j) ≡ wide c.get-area.result = omega (arith, ints) in
    let b : number_at c.args.self.now (out_from c.args.self.now c.args.i c.args.j c.args.side 1) ≡ wide c.at-other.result = omega (arith, ints) in
    let some : pos 0 <ℤ number_at c.args.self.now (CellAt c.args.i c.args.j) = omega (arith, ints) in
    let other : pos 0 <ℤ number_at c.args.self.now (out_from c.args.self.now c.args.i c.args.j c.args.side 1) = omega (arith, ints) in
    c.divisor-divisor.ensures some other ∙ (λ t. face_divisor (a t) (b t))

pub flow_across-requires-clause-amount : goal.flow_across-requires-clause-amount
flow_across-requires-clause-amount c =
    let amount = c.requires.amount in
    (omega (arith, ints), omega (arith, ints))

pub flow_across-requires-clause-other_amount : goal.flow_across-requires-clause-other_amount
flow_across-requires-clause-other_amount c =
    let amount = c.requires.other_amount in
    (omega (arith, ints), omega (arith, ints))

pub flow_across-requires-clause-area : goal.flow_across-requires-clause-area
flow_across-requires-clause-area c =
    let on = subst (λ (f : FieldNumbers). IsSpot f (CellAt c.args.i c.args.j)) (sym c.self.view_is) c.requires.cell in
    let own : IsAirArea (number_at c.self.inside.area (CellAt c.args.i c.args.j)) = c.self.invariant.areas.cells c.args.i c.args.j on in
    (omega (arith, ints), omega (arith, ints))

pub flow_across-requires-clause-other_area : goal.flow_across-requires-clause-other_area
flow_across-requires-clause-other_area c =
    let on = subst (λ (f : FieldNumbers). IsSpot f (CellAt c.args.i c.args.j)) (sym c.self.view_is) c.requires.cell in
    let spot = out_is_spot c.self.inside.area c.self.invariant.width c.args.i c.args.j c.args.side on in
    let least = c.self.invariant.areas.least (out_from c.self.inside.area c.args.i c.args.j c.args.side 1) spot in
    let most = c.self.invariant.areas.most (out_from c.self.inside.area c.args.i c.args.j c.args.side 1) spot in
    (omega (arith, ints), omega (arith, ints))

pub returns-clause-value : goal.returns-clause-value
returns-clause-value c =
    let on = subst (λ (f : FieldNumbers). IsSpot f (CellAt c.args.i c.args.j)) (sym c.self.view_is) c.requires.cell in
    let own : IsAirArea (number_at c.self.inside.area (CellAt c.args.i c.args.j)) = c.self.invariant.areas.cells c.args.i c.args.j on in
    let spot = out_is_spot c.self.inside.area c.self.invariant.width c.args.i c.args.j c.args.side on in
    let least = c.self.invariant.areas.least (out_from c.self.inside.area c.args.i c.args.j c.args.side 1) spot in
    let same_own = ap (λ (f : FieldNumbers). number_at f (CellAt c.args.i c.args.j)) c.self.view_is in
    let same_other = ap (λ (f : FieldNumbers). number_at f (out_from f c.args.i c.args.j c.args.side 1)) c.self.view_is in
    let a : wide c.get-area.result ≡ number_at c.args.self.now (CellAt c.args.i c.args.j) = omega (arith, ints) in
    let b : wide c.at-other.result ≡ number_at c.args.self.now (out_from c.args.self.now c.args.i c.args.j c.args.side 1) = omega (arith, ints) in
    let x : wide c.get-amount.result ≡ number_at c.args.x.now (CellAt c.args.i c.args.j) = omega (arith, ints) in
    let y : wide c.at-beyond.result ≡ number_at c.args.x.now (out_from c.args.x.now c.args.i c.args.j c.args.side 1) = omega (arith, ints) in
    let other : pos 0 <ℤ number_at c.args.self.now (out_from c.args.self.now c.args.i c.args.j c.args.side 1) = omega (arith, ints) in
    let own_value : wide c.flow_across.result ≡ c.flow_across.result = omega (arith, ints) in
    own_value ∙ c.flow_across.ensures.value ∙ (λ t. flow (x t) (a t) (y t) (b t)) ∙ sym (beside_some (number_at c.args.x.now (CellAt c.args.i c.args.j)) (number_at c.args.self.now (CellAt c.args.i c.args.j)) (number_at c.args.x.now (out_from c.args.x.now c.args.i c.args.j c.args.side 1)) (number_at c.args.self.now (out_from c.args.self.now c.args.i c.args.j c.args.side 1)) other)
