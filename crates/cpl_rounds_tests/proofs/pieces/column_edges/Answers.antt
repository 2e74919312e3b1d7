use Rattle.std.proofs.Common.{refl}
use Rattle.cpl_layout.specs.Pieces.{owner_of, piece_of}
use Rattle.cpl_wires.specs.Settings.{pieces_in}
use Rattle.cpl_wires.specs.Pairs.{cells_between, face_strip_between, has_edge, ice_rows_between, land_rows_between, outlets_between, strip_between}
use Rattle.cpl_wires.specs.Edges.{edges_of, length_of}
use Rattle.cpl_rounds_tests.proofs.pieces.column_edges.Goals as goal

pub returns-clause-edges : goal.returns-clause-edges
unfolding edges_of pieces_in has_edge land_rows_between ice_rows_between outlets_between cells_between strip_between face_strip_between owner_of piece_of
returns-clause-edges c = refl

pub returns-clause-lengths : goal.returns-clause-lengths
unfolding length_of edges_of pieces_in has_edge land_rows_between ice_rows_between outlets_between cells_between strip_between face_strip_between owner_of piece_of
returns-clause-lengths c = refl

pub returns-clause-land : goal.returns-clause-land
unfolding pieces_in land_rows_between owner_of
returns-clause-land c = refl

pub returns-clause-ice : goal.returns-clause-ice
unfolding pieces_in ice_rows_between owner_of
returns-clause-ice c = refl

pub returns-clause-runoff : goal.returns-clause-runoff
unfolding pieces_in outlets_between owner_of
returns-clause-runoff c = refl

pub returns-clause-ocean : goal.returns-clause-ocean
unfolding pieces_in cells_between owner_of
returns-clause-ocean c = refl
