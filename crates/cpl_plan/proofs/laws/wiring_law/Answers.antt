use Rattle.cpl_wires.proofs.Wired.{is_wired}
use Rattle.cpl_plan.specs.Plans.{setting_of}
use Rattle.cpl_plan.specs.Values.{value}
use Rattle.cpl_plan.proofs.Lengths.{has_lengths}
use Rattle.cpl_plan.proofs.laws.wiring_law.Goals as goal

pub returns : goal.returns
returns c = record {
  setting = λ plan is. record { names_are = is.names_are; layouts = is.layouts };
  wired = λ plan is. is_wired (setting_of plan) (value plan) (record { names_are = is.names_are; layouts = is.layouts }) (has_lengths plan);
}
