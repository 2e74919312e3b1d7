use Rattle.std.proofs.Common.{arith, rules, ◌≡◌, sym, ◌∙◌, ap, subst, ℕ, List, [], Option, None, get_or, replicate, length}
use Rattle.std.proofs.lemmas.Result.{IfOk-weaker}
use Rattle.cpl_mosaic.specs.declared.offsets.TileOffset.{TileOffset}
use Rattle.cpl_mosaic.specs.Sides.{CellSide}
use Rattle.cpl_mosaic.specs.Table.{IsTable, sides_of}
use Rattle.cpl_mosaic.proofs.Places.{count_offsets, offset_read, totals}
use Rattle.cpl_mosaic.proofs.Tables.{walls}
use Rattle.cpl_mosaic.proofs.table.table_of_walls.Goals as goal

pub bounds-offsets-tiles : goal.bounds-offsets-tiles
bounds-offsets-tiles c = let count = count_offsets c.args.tiles.now c.args.offsets.now c.requires in omega arith

pub returns : goal.returns
returns c =
    let count : (get_or c.args.offsets.now (length c.args.tiles.now) (record { cells = 0; sides = 0 })).sides ≡ sides_of c.args.tiles.now =
    ap (λ (s : TileOffset). s.sides) (offset_read c.args.tiles.now c.args.offsets.now (length c.args.tiles.now) (record { cells = 0; sides = 0 }) c.requires (omega arith) ∙ totals c.args.tiles.now) in
    IfOk-weaker _ _ _
    (λ v h. subst (λ (l : List (Option CellSide)). IsTable c.args.tiles.now [] l) (sym (h (λ y q. search rules) ∙ ap (λ (n : ℕ). replicate n None) count)) (walls c.args.tiles.now))
    c.vec.ensures.items_if_clones_equal
