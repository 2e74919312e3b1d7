use Rattle.std.proofs.Common.{sym, ◌∙◌, ap, subst, arith}
use Rattle.cpl_mosaic.specs.Lists.{MosaicLists}
use Rattle.cpl_mosaic.specs.Sides.{IsCellOf}
use Rattle.cpl_mosaic.specs.Cells.{number_of}
use Rattle.cpl_mosaic.proofs.Numbers.{numbers_agree}
use Rattle.cpl_mosaic.proofs.Places.{tile_in, count_offsets, number_is}
use Rattle.cpl_mosaic.proofs.mosaic.Mosaic.number.Goals as goal

pub index-requires : goal.index-requires
index-requires c =
    let cell = subst (λ (m : MosaicLists). IsCellOf m.tiles c.args.cell) (sym c.self.view_is) c.requires in
    let count = count_offsets c.self.inside.tiles.items c.self.inside.offsets.items c.self.invariant.begin in
    let below = tile_in c.self.inside.tiles.items c.args.cell cell in
    omega (arith, c.self.inside.offsets.ok.0)

pub overflow_add-result : goal.overflow_add-result
overflow_add-result c =
    let cell = subst (λ (m : MosaicLists). IsCellOf m.tiles c.args.cell) (sym c.self.view_is) c.requires in
    let is = number_is c.self.inside.tiles.items c.self.inside.offsets.items c.args.cell c.index.result.now c.index-2.result.now c.self.invariant.begin cell c.index.ensures c.index-2.ensures in
    let below = (numbers_agree c.self.inside.tiles.items c.self.invariant.mosaic.sizes).below c.args.cell cell in
    let most = c.self.invariant.mosaic.sizes.cells in
    omega arith

pub overflow_add-result-2 : goal.overflow_add-result-2
overflow_add-result-2 c =
    let cell = subst (λ (m : MosaicLists). IsCellOf m.tiles c.args.cell) (sym c.self.view_is) c.requires in
    let is = number_is c.self.inside.tiles.items c.self.inside.offsets.items c.args.cell c.index.result.now c.index-2.result.now c.self.invariant.begin cell c.index.ensures c.index-2.ensures in
    let below = (numbers_agree c.self.inside.tiles.items c.self.invariant.mosaic.sizes).below c.args.cell cell in
    let most = c.self.invariant.mosaic.sizes.cells in
    omega arith

pub returns : goal.returns
returns c =
    let cell = subst (λ (m : MosaicLists). IsCellOf m.tiles c.args.cell) (sym c.self.view_is) c.requires in
    number_is c.self.inside.tiles.items c.self.inside.offsets.items c.args.cell c.index.result.now c.index-2.result.now c.self.invariant.begin cell c.index.ensures c.index-2.ensures
    ∙ ap (λ (m : MosaicLists). number_of m.tiles c.args.cell) c.self.view_is
