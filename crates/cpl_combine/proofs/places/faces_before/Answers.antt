use Rattle.std.proofs.Common.{ltb, arith, rules, sym}
use Rattle.std.proofs.lemmas.List.Sorted.{IsPartitionPoint-from_clause, IsPartitionedBy-ltb}
use Rattle.cpl_faces.specs.declared.face.Face.{Face}
use Rattle.cpl_mosaic.specs.declared.parts.Side.TheVariants.{W}
use Rattle.cpl_combine.proofs.Steps.{count_is, faces_rise}
use Rattle.cpl_combine.proofs.places.faces_before.Goals as goal

pub overflow_cast-result : goal.overflow_cast-result
overflow_cast-result c =
    let few = c.requires.faces.few in
    let cells = c.cells-cells.ensures.rules.sizes.cells in
    omega arith

pub returns-clause-before : goal.returns-clause-before
returns-clause-before c =
    let faces = c.args.faces.now in
    let none : Face = record { first = 0; first_side = W; second = 0; second_side = W } in
    let parted = IsPartitionedBy-ltb (λ (face : Face). face.first) faces c.args.n (faces_rise faces c.requires.faces.sorted) in
    let point = IsPartitionPoint-from_clause (λ (face : Face). ltb face.first c.args.n) _ _ c.partition_point.ensures.partitioned parted (λ a r q k. search rules) in
    sym (count_is (λ (face : Face). ltb face.first c.args.n) faces none c.partition_point.result c.partition_point.ensures.bound (λ j h. point.0 j none (omega arith) h) (λ j ge h. point.1 j none ge h))
