use Rattle.std.proofs.Common.{refl, rules}
use Rattle.cpl_fixed.proofs.list.List.as_mut_slice.Goals as goal

-- src/list.rt:63:5
pub returns : goal.returns
returns g c = ((refl, λ w. search rules), record { writes_back = tt; value = search rules })
