use Rattle.std.proofs.Common.{◌∙◌, ◌*◌, ap, arith}
use Rattle.std.specs.List.{flat_map, range_with_len}
use Rattle.std.proofs.lemmas.List.{take_all}
use Rattle.cpl_combine.specs.Places.{by_cells}
use Rattle.cpl_combine.proofs.places.by_cells.Goals as goal

pub returns : goal.returns
unfolding by_cells
returns c = c.loop-n.invariant ∙ ap (flat_map (λ n. range_with_len (n * c.args.width) c.args.width)) (take_all c.loop-n.n-index c.args.cells.now (omega arith))
