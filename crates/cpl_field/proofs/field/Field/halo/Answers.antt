use Rattle.std.proofs.Common.{◌∙◌, ap, ℕ, ◌+◌, ◌*◌, arith}
use Rattle.std.proofs.lemmas.Int.{ints}
use Rattle.cpl_field.specs.Spots.{HoleAt}
use Rattle.cpl_field.proofs.Apart.{index_below_by, read_by}
use Rattle.cpl_field.proofs.field.Field.halo.Goals as goal

pub index-requires : goal.index-requires
index-requires c =
    let below = index_below_by _ c.args.self.now c.self.invariant c.self.view_is (HoleAt c.args.side c.args.at c.args.depth) c.requires c.place.result
    (c.place.ensures ∙ ap (λ (p : ℕ × ℕ). p.1 * (c.self.inside.nx + 2 * c.self.inside.width) + p.0) c.hole_place-column.ensures) in
    omega (arith, c.self.inside.numbers.ok.0)

pub returns : goal.returns
returns c =
    read_by _ c.args.self.now c.self.invariant c.self.view_is (HoleAt c.args.side c.args.at c.args.depth) c.requires c.place.result
    (c.place.ensures ∙ ap (λ (p : ℕ × ℕ). p.1 * (c.self.inside.nx + 2 * c.self.inside.width) + p.0) c.hole_place-column.ensures)
    c.index.result.now _ c.index.ensures (omega (arith, ints))
