use Rattle.cpl_ocean_tests.proofs.Rests.{all_left, amounts, carried, column}
use Rattle.cpl_ocean_tests.proofs.piece.step.Goals as goal

pub interior-requires-clause-amounts : goal.interior-requires-clause-amounts
interior-requires-clause-amounts c = amounts c.args.piece.now c.args.ocean.now c.requires.ocean

pub interior-requires-clause-columns : goal.interior-requires-clause-columns
interior-requires-clause-columns c = λ spot on cell. column c.args.piece.now c.args.ocean.now c.requires.ocean spot on

pub rim-requires-clause-amounts : goal.rim-requires-clause-amounts
rim-requires-clause-amounts c =
    amounts c.args.piece.now c.interior.new.self (carried c.args.piece.now c.args.ocean.now c.requires.ocean _ _ c.interior.new.self c.interior.ensures)

pub rim-requires-clause-columns : goal.rim-requires-clause-columns
rim-requires-clause-columns c = λ spot on close.
    column c.args.piece.now c.interior.new.self (carried c.args.piece.now c.args.ocean.now c.requires.ocean _ _ c.interior.new.self c.interior.ensures) spot on

pub finish-requires-clause-columns : goal.finish-requires-clause-columns
finish-requires-clause-columns c = λ spot on close.
    let inside = carried c.args.piece.now c.args.ocean.now c.requires.ocean _ _ c.interior.new.self c.interior.ensures in
    column c.args.piece.now c.rim.new.self (carried c.args.piece.now c.interior.new.self inside _ _ c.rim.new.self c.rim.ensures) spot on

pub finish-requires-clause-left : goal.finish-requires-clause-left
finish-requires-clause-left c =
    let inside = carried c.args.piece.now c.args.ocean.now c.requires.ocean _ _ c.interior.new.self c.interior.ensures in
    all_left c.args.piece.now c.interior.new.self inside _ c.rim.new.self c.requires.piece c.rim.ensures
