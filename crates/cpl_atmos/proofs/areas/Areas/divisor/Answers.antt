use Rattle.std.proofs.Common.{sym, subst}
use Rattle.cpl_field.specs.Spots.{FieldNumbers, CellAt, IsSpot, number_at, out_from}
use Rattle.cpl_atmos.specs.Faces.{IsDivisor}
use Rattle.cpl_atmos.proofs.Divisors.{through_west, through_east, through_south, through_north}
use Rattle.cpl_atmos.proofs.areas.Areas.divisor.Goals as goal

pub returns-in-W : goal.returns-in-W
returns-in-W c =
    let P : FieldNumbers → Type 0 = λ area. IsDivisor c.index.result.now (number_at area (CellAt c.args.i c.args.j)) (number_at area (out_from area c.args.i c.args.j c.args.side 1)) in
    let on = subst (λ (area : FieldNumbers). IsSpot area (CellAt c.args.i c.args.j)) (sym c.self.view_is) c.requires in
    subst P c.self.view_is (through_west _ _ c.self.inside.area _ _ c.self.invariant c.args.i c.args.j on c.args.side c.index.result.now c.in-W.is c.index.ensures)

pub returns-in-E : goal.returns-in-E
returns-in-E c =
    let P : FieldNumbers → Type 0 = λ area. IsDivisor c.index-in-E.result.now (number_at area (CellAt c.args.i c.args.j)) (number_at area (out_from area c.args.i c.args.j c.args.side 1)) in
    let on = subst (λ (area : FieldNumbers). IsSpot area (CellAt c.args.i c.args.j)) (sym c.self.view_is) c.requires in
    subst P c.self.view_is (through_east _ _ c.self.inside.area _ _ c.self.invariant c.args.i c.args.j on c.args.side c.index-in-E.result.now c.in-E.is c.index-in-E.ensures)

pub returns-in-S : goal.returns-in-S
returns-in-S c =
    let P : FieldNumbers → Type 0 = λ area. IsDivisor c.index-in-S.result.now (number_at area (CellAt c.args.i c.args.j)) (number_at area (out_from area c.args.i c.args.j c.args.side 1)) in
    let on = subst (λ (area : FieldNumbers). IsSpot area (CellAt c.args.i c.args.j)) (sym c.self.view_is) c.requires in
    subst P c.self.view_is (through_south _ _ c.self.inside.area _ _ c.self.invariant c.args.i c.args.j on c.args.side c.index-in-S.result.now c.in-S.is c.index-in-S.ensures)

pub returns-in-N : goal.returns-in-N
returns-in-N c =
    let P : FieldNumbers → Type 0 = λ area. IsDivisor c.index-in-N.result.now (number_at area (CellAt c.args.i c.args.j)) (number_at area (out_from area c.args.i c.args.j c.args.side 1)) in
    let on = subst (λ (area : FieldNumbers). IsSpot area (CellAt c.args.i c.args.j)) (sym c.self.view_is) c.requires in
    subst P c.self.view_is (through_north _ _ c.self.inside.area _ _ c.self.invariant c.args.i c.args.j on c.args.side c.index-in-N.result.now c.in-N.is c.index-in-N.ensures)
