use Rattle.cpl_rounds.proofs.Airs.{air_even, air_odd, air_heat, air_vapour}
use Rattle.cpl_rounds.proofs.rounds.air_law.Goals as goal

pub returns : goal.returns
returns c = record { before = air_even; rain = air_odd; heat = air_heat; vapour = air_vapour }
