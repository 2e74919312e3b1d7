use Rattle.std.proofs.Common.{refl}
use Rattle.cpl_fast.specs.Stages.{step_of}
use Rattle.cpl_fast.proofs.Looking.{land_parts_are}
use Rattle.cpl_fast.proofs.part_lists.land_parts.Goals as goal

pub returns : goal.returns
returns c = land_parts_are (step_of c.args.view.now) c.requires.can _ refl refl c.as_slice.ensures c.as_slice-2.ensures c.requires.areas refl refl
