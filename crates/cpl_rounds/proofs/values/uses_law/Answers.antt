use Rattle.std.proofs.lemmas.Nat.{div-mul-add, mod-mul-add}
use Rattle.cpl_rounds.proofs.values.uses_law.Goals as goal

pub returns : goal.returns
returns c = record {
  fast = λ plan value n i l t. value (div-mul-add n plan.names.fast i l t) (mod-mul-add n plan.names.fast i l t);
  ocean = λ plan value n i l t. value (div-mul-add n plan.names.ocean_steps i l t) (mod-mul-add n plan.names.ocean_steps i l t);
}
