use Rattle.std.proofs.Common.{◌≡◌, ◌∙◌, ap, arith, ◌*◌, ◌/◌, min, pos, w64, to_z, of_z}
use Rattle.std.specs.Prelude.{unsigned_abs}
use Rattle.std.proofs.lemmas.Int.{ints}
use Rattle.cpl_ice.specs.Slow.{at}
use Rattle.cpl_ice.proofs.cell.IceCell.closed_part.Goals as goal

pub returns-clause-value : goal.returns-clause-value
returns-clause-value c =
    let water = c.amount_at-open.ensures in
    let least : to_z w64 (of_z w64 c.amount_at-open.result) ≡ c.amount_at-open.result = omega (arith, ints, water.amount.0, water.amount.1) in
    let frazil : to_z w64 (of_z w64 c.args.self.now.frazil_water) ≡ c.args.self.now.frazil_water = omega (arith, ints) in
    let h0 : to_z w64 (of_z w64 c.args.rates.now.h0) ≡ c.args.rates.now.h0 = omega (arith, ints) in
    let area : to_z w64 (of_z w64 c.args.self.now.area) ≡ c.args.self.now.area = omega (arith, ints) in
    let own : to_z w64 c.at_most_share.result ≡ pos c.at_most_share.result = omega (arith, ints, c.at_most_share.ensures.most, water.amount.1) in
    own
    ∙ ap pos c.at_most_share.ensures.value
    ∙ (λ i. pos (min (unsigned_abs ((least ∙ water.value) i)) (unsigned_abs (frazil i) * 65_536 / c.closing_water-whole.ensures.value i)))
    ∙ (λ i. pos (min (unsigned_abs (at c.args.self.now.parts 0)) (unsigned_abs c.args.self.now.frazil_water * 65_536 / (unsigned_abs (h0 i) * unsigned_abs (area i)))))
