use Rattle.std.proofs.Common.{ap, subst, ◌∙◌, arith, Result}
use Rattle.cpl_restart.specs.AirBytes.{Reads, air_of}
use Rattle.cpl_state.specs.declared.air.Air.{Air}
use Rattle.cpl_restart.specs.declared.start_error.StartError.{StartError}
use Rattle.cpl_restart.proofs.AirLaws.{air_again, is_air, is_spelled}
use Rattle.cpl_restart.proofs.air.decode_air.Goals as goal

pub returns-clause-found : goal.returns-clause-found
returns-clause-found c = is_air c.args.cells c.args.bytes.now c.air_sections.result (λ i. omega (arith, c.type_inv.bytes i)) c.air_sections.ensures

pub returns-clause-spelled : goal.returns-clause-spelled
returns-clause-spelled c = is_spelled c.args.cells c.args.bytes.now c.air_sections.result (λ i. omega (arith, c.type_inv.bytes i)) c.air_sections.ensures

pub returns-clause-only : goal.returns-clause-only
returns-clause-only c = λ air is e. subst (λ (r : Result Air StartError). Reads (λ (x : Air). x) c.air_sections.result r) (ap (air_of c.args.cells) e ∙ air_again c.args.cells air (omega arith) is) c.air_sections.ensures
