use Rattle.cpl_wires.proofs.shared.halos_of.Goals as goal

pub returns : goal.returns
returns c = record {
  air = c.in_ok-air.ensures.strips;
  air_fields = c.in_ok-air.ensures.fields;
  ocean = c.in_ok-ocean.ensures.strips;
  ocean_fields = c.in_ok-ocean.ensures.fields;
  seams = c.in_ok-seams.ensures;
}
