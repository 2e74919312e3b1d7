use Rattle.cpl_fixed.specs.declared.words.Component.TheVariants.{Atmos, Land, Ice, Ocean}
use Rattle.cpl_wires.proofs.pieces.Pieces.new.Goals as goal

pub lay_out-requires : goal.lay_out-requires
lay_out-requires c = c.requires.setting.layouts Atmos

pub lay_out-requires-2 : goal.lay_out-requires-2
lay_out-requires-2 c = c.requires.setting.layouts Land

pub lay_out-requires-3 : goal.lay_out-requires-3
lay_out-requires-3 c = c.requires.setting.layouts Ice

pub lay_out-requires-4 : goal.lay_out-requires-4
lay_out-requires-4 c = c.requires.setting.layouts Ocean
