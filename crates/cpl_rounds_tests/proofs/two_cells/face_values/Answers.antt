use Rattle.std.proofs.Common.{refl}
use Rattle.cpl_faces.specs.Faces.{faces_of}
use Rattle.cpl_rounds.specs.Rounds.{ocean_at, state_at}
use Rattle.cpl_rounds.specs.Values.{ocean_halo}
use Rattle.cpl_state.specs.Cut.{with_flight}
use Rattle.cpl_state.specs.Transport.{behind, flow_through, next_number, outward, stepped, transported}
use Rattle.cpl_rounds_tests.proofs.two_cells.face_values.Goals as goal

pub returns-clause-first : goal.returns-clause-first
unfolding ocean_halo ocean_at state_at with_flight stepped transported flow_through next_number outward behind faces_of
returns-clause-first c = refl

pub returns-clause-second : goal.returns-clause-second
unfolding ocean_halo ocean_at state_at with_flight stepped transported flow_through next_number outward behind faces_of
returns-clause-second c = refl
