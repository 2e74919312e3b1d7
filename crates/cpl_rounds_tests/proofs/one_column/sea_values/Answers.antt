use Rattle.std.proofs.Common.{refl}
use Rattle.cpl_faces.specs.Faces.{faces_of}
use Rattle.cpl_rounds.specs.Rounds.{ocean_at, state_at}
use Rattle.cpl_rounds.specs.Values.{ocean_halo, ocean_to_ice}
use Rattle.cpl_state.specs.Cut.{with_flight}
use Rattle.cpl_state.specs.Transport.{behind, flow_through, next_number, outward, stepped, transported}
use Rattle.cpl_rounds_tests.proofs.one_column.sea_values.Goals as goal

pub returns-clause-ocean_halo : goal.returns-clause-ocean_halo
unfolding ocean_halo ocean_at state_at with_flight
returns-clause-ocean_halo c = refl

pub returns-clause-ocean_to_ice : goal.returns-clause-ocean_to_ice
unfolding ocean_to_ice ocean_at state_at with_flight stepped transported flow_through next_number outward behind faces_of
returns-clause-ocean_to_ice c = refl

pub returns-clause-frazil : goal.returns-clause-frazil
unfolding ocean_to_ice ocean_at state_at with_flight stepped transported flow_through next_number outward behind faces_of
returns-clause-frazil c = refl
