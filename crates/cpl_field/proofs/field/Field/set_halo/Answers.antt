use Rattle.std.proofs.Common.{◌∙◌, ap, ℕ, ◌+◌, ◌*◌, arith}
use Rattle.std.proofs.lemmas.Int.{ints}
use Rattle.cpl_field.specs.Spots.{HoleAt}
use Rattle.cpl_field.proofs.Apart.{index_below_by, sets_by}
use Rattle.cpl_field.proofs.field.Field.set_halo.Goals as goal

pub index_mut-requires : goal.index_mut-requires
index_mut-requires c =
    let below = index_below_by _ c.args.self.now c.self.invariant c.self.view_is (HoleAt c.args.side c.args.at c.args.depth) c.requires c.place-there.result
    (c.place-there.ensures ∙ ap (λ (p : ℕ × ℕ). p.1 * (c.self.inside.nx + 2 * c.self.inside.width) + p.0) c.hole_place-column.ensures) in
    omega (arith, c.self.inside.numbers.ok.0)

pub returns : goal.returns
returns c =
    sets_by _ c.args.self.now c.self.invariant c.self.view_is (HoleAt c.args.side c.args.at c.args.depth) c.requires c.args.x _ (omega (arith, ints)) c.place-there.result
    (c.place-there.ensures ∙ ap (λ (p : ℕ × ℕ). p.1 * (c.self.inside.nx + 2 * c.self.inside.width) + p.0) c.hole_place-column.ensures)
