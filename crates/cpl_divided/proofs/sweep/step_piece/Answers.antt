use Rattle.std.proofs.Common.{◌∙◌, subst}
use Rattle.cpl_field.specs.Spots.{CellAt, FieldNumbers}
use Rattle.cpl_atmos.specs.Sweeps.{Computes, IsRim}
use Rattle.cpl_divided.proofs.Stepped.{stepped}
use Rattle.cpl_divided.proofs.sweep.step_piece.Goals as goal

pub interior-requires-clause-amounts : goal.interior-requires-clause-amounts
interior-requires-clause-amounts c = λ i j on. c.requires.amounts (CellAt i j) on

pub returns-clause-step : goal.returns-clause-step
returns-clause-step c =
    let P : FieldNumbers → Type 0 = λ area. Computes area c.args.x.now (IsRim area) c.interior.new.self.values c.rim.new.self.values in
    stepped c.args.air.now.area c.args.x.now c.finish.new.x c.args.air.now.values c.interior.new.self.values c.rim.new.self.values c.rim.new.self.area (c.rim.ensures.area ∙ c.interior.ensures.area) c.requires.shape c.interior.ensures.values (subst P c.interior.ensures.area c.rim.ensures.values) c.finish.ensures
