use Rattle.cpl_transport.proofs.Frazil.{cut_flight, cut_heat, cut_salt, cut_water, uncut_salty}
use Rattle.cpl_transport.proofs.cuts.cut_law.Goals as goal

pub returns-clause-water : goal.returns-clause-water
returns-clause-water c = cut_water

pub returns-clause-heat : goal.returns-clause-heat
returns-clause-heat c = cut_heat

pub returns-clause-salt : goal.returns-clause-salt
returns-clause-salt c = cut_salt

pub returns-clause-flight : goal.returns-clause-flight
returns-clause-flight c = cut_flight

pub returns-clause-top : goal.returns-clause-top
returns-clause-top c = uncut_salty
