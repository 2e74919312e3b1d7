use Rattle.std.proofs.Common.{◌≡◌, ◌∙◌, ap, subst, ℕ, arith, length, get_or}
use Rattle.cpl_mosaic.specs.declared.offsets.TileOffset.{TileOffset}
use Rattle.cpl_mosaic.specs.Lists.{MosaicLists}
use Rattle.cpl_mosaic.specs.Contacts.{cells_of}
use Rattle.cpl_mosaic.specs.Mates.{MatesAgree}
use Rattle.cpl_mosaic.specs.Cells.{NumbersAgree}
use Rattle.cpl_mosaic.proofs.Agree.{mates_agree}
use Rattle.cpl_mosaic.proofs.Numbers.{numbers_agree}
use Rattle.cpl_mosaic.proofs.Places.{count_offsets, offset_read, totals}
use Rattle.cpl_mosaic.proofs.mosaic.Mosaic.cells.Goals as goal

pub index-requires : goal.index-requires
index-requires c =
    let count = count_offsets c.self.inside.tiles.items c.self.inside.offsets.items c.self.invariant.begin in
    omega (arith, c.self.inside.offsets.ok.0, c.self.inside.tiles.ok.0)

pub returns-clause-count : goal.returns-clause-count
returns-clause-count c =
    let len : c.len.result ≡ length c.self.inside.tiles.items = omega (arith, c.self.inside.tiles.ok.0) in
    let last =
    c.index.ensures
    ∙ ap (λ (k : ℕ). get_or c.self.inside.offsets.items k c.index.result.now) len
    ∙ offset_read c.self.inside.tiles.items c.self.inside.offsets.items (length c.self.inside.tiles.items) c.index.result.now c.self.invariant.begin (omega arith)
    ∙ totals c.self.inside.tiles.items in
    ap (λ (s : TileOffset). s.cells) last ∙ ap (λ (m : MosaicLists). cells_of m.tiles) c.self.view_is

pub returns-clause-mates : goal.returns-clause-mates
returns-clause-mates c = subst MatesAgree c.self.view_is (mates_agree (record { tiles = c.self.inside.tiles.items; contacts = c.self.inside.contacts.items }) c.self.invariant.mosaic)

pub returns-clause-numbers : goal.returns-clause-numbers
returns-clause-numbers c = subst (λ (m : MosaicLists). NumbersAgree m.tiles) c.self.view_is (numbers_agree c.self.inside.tiles.items c.self.invariant.mosaic.sizes)
