use Rattle.std.proofs.Common.{◌≡◌, ◌∙◌, ap, arith, length, ℕ, ◌*◌}
use Rattle.cpl_fast.specs.Places.{place_in}
use Rattle.cpl_fast.proofs.Placed.{entry_within}
use Rattle.cpl_fast.proofs.flows.Tables.place.Goals as goal

pub place_in-requires : goal.place_in-requires
place_in-requires c =
    let rows : c.len.result ≡ length c.args.self.now.links.items = omega arith in
    let same = ap (λ (r : ℕ). r * c.args.self.now.width) rows in
    let within = entry_within c.len.result c.args.self.now.width c.args.row c.args.k (omega (arith, rows, c.requires.row)) c.requires.element in
    omega (arith, within, same, c.requires.areas)

pub returns-clause-value : goal.returns-clause-value
returns-clause-value c =
    let rows : c.len.result ≡ length c.args.self.now.links.items = omega arith in
    c.place_in.ensures ∙ ap (λ (r : ℕ). place_in r c.args.row c.args.k) rows

pub returns-clause-within : goal.returns-clause-within
returns-clause-within c =
    let rows : c.len.result ≡ length c.args.self.now.links.items = omega arith in
    let same = ap (λ (r : ℕ). r * c.args.self.now.width) rows in
    let within = entry_within c.len.result c.args.self.now.width c.args.row c.args.k (omega (arith, rows, c.requires.row)) c.requires.element in
    omega (arith, within, same, c.place_in.ensures)
