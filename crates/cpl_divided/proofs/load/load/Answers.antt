use Rattle.std.proofs.Common.{[]}
use Rattle.cpl_divided.proofs.Built.{built_more}
use Rattle.cpl_divided.proofs.Parts.{IsLoaded, loaded}
use Rattle.cpl_divided.proofs.load.load.Goals as goal

pub loop-p-preserved : goal.loop-p-preserved
loop-p-preserved c =
    built_more (IsLoaded c.args.mosaic.now c.args.layout.now c.args.xs.now) (record { nx = 0; ny = 0; width = 0; numbers = [] }) c.loop-p.p c.loop-p.fields.items c.push.new.self.items c.in_ok-load_piece.field-0 c.loop-p.invariant c.in_ok-push.ensures.items
    (loaded c.args.mosaic.now c.args.layout.now c.args.xs.now c.loop-p.p c.piece.result c.in_ok-load_piece.field-0 c.piece.ensures.piece c.in_ok-load_piece.ensures.field c.in_ok-load_piece.ensures.cells c.in_ok-load_piece.ensures.holes)
