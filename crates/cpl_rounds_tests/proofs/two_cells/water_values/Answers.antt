use Rattle.std.proofs.Common.{refl}
use Rattle.cpl_faces.specs.Faces.{faces_of}
use Rattle.cpl_rounds.specs.Rounds.{ocean_at, state_at}
use Rattle.cpl_state.specs.Cut.{with_flight}
use Rattle.cpl_state.specs.Transport.{behind, flow_through, next_number, outward, stepped, transported}
use Rattle.cpl_rounds_tests.proofs.two_cells.water_values.Goals as goal

pub returns-clause-water : goal.returns-clause-water
unfolding ocean_at state_at with_flight stepped transported flow_through next_number outward behind faces_of
returns-clause-water c = refl

pub returns-clause-face : goal.returns-clause-face
unfolding ocean_at state_at with_flight stepped transported flow_through next_number outward behind faces_of
returns-clause-face c = refl
