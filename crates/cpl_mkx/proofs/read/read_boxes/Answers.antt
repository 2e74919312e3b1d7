use Rattle.cpl_mkx.proofs.BoxLaws.{returned_are_boxes, returned_are_spelled, spelled_are_returned, fault_is_first_of, first_is_returned}
use Rattle.cpl_mkx.proofs.read.read_boxes.Goals as goal

pub returns-clause-found : goal.returns-clause-found
returns-clause-found c = returned_are_boxes c.args.bytes.now c.boxes.result c.boxes.ensures

pub returns-clause-spelled : goal.returns-clause-spelled
returns-clause-spelled c = returned_are_spelled c.args.bytes.now c.boxes.result c.boxes.ensures

pub returns-clause-only : goal.returns-clause-only
returns-clause-only c = spelled_are_returned c.args.bytes.now c.boxes.result c.boxes.ensures

pub returns-clause-fault : goal.returns-clause-fault
returns-clause-fault c = fault_is_first_of c.args.bytes.now c.boxes.result c.boxes.ensures

pub returns-clause-told : goal.returns-clause-told
returns-clause-told c = first_is_returned c.args.bytes.now c.boxes.result c.boxes.ensures
