use Rattle.cpl_whole.proofs.room.StepRoom.new.Goals as goal

pub new-requires-clause-grid : goal.new-requires-clause-grid
new-requires-clause-grid c = c.requires.numbered.rules

pub new-requires-clause-air : goal.new-requires-clause-air
new-requires-clause-air c = c.requires.air

pub new-requires-2 : goal.new-requires-2
new-requires-2 c = c.requires.numbered.rules

pub new-requires-3-clause-ocean : goal.new-requires-3-clause-ocean
new-requires-3-clause-ocean c = c.requires.numbered.rules.ocean

pub new-requires-3-clause-column : goal.new-requires-3-clause-column
new-requires-3-clause-column c = c.requires.numbered.rules.column

pub returns : goal.returns
returns c = record {
  fast = c.in_ok-new.ensures;
  slow = c.in_ok-new-2.ensures;
  sea = c.in_ok-new-3.ensures;
  skins = c.in_ok-no_mid.ensures;
  flight = c.in_ok-no_flight.ensures;
}
