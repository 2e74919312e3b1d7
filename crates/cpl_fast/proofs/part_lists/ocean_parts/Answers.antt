use Rattle.std.proofs.Common.{refl}
use Rattle.cpl_fast.specs.Stages.{step_of}
use Rattle.cpl_fast.proofs.Looking.{ocean_parts_are}
use Rattle.cpl_fast.proofs.part_lists.ocean_parts.Goals as goal

pub returns : goal.returns
returns c =
    ocean_parts_are (step_of c.args.view.now) c.requires.can _ refl refl c.as_slice.ensures c.as_slice-2.ensures c.as_slice-3.ensures c.as_slice-4.ensures c.requires.areas
