use Rattle.std.proofs.Common.{◌≡◌, ◌∙◌, sym, ap, arith, ◌+◌, ℕ, ℤ, List}
use Rattle.std.proofs.lemmas.Int.{ints}
use Rattle.cpl_ice.specs.Slow.{at, moved, is_thick, joined}
use Rattle.cpl_ice.proofs.Choices.{chosen}
use Rattle.cpl_ice.proofs.cell.IceCell.ridge_at.Goals as goal

-- what is passed is what stands at the place
all_moved : (ys xs : List ℤ) (from to : ℕ) (r r' : ℤ) → ys ≡ moved xs from to r' → r' ≡ r → r ≡ at xs from → ys ≡ moved xs from to (at xs from)
all_moved ys xs from to r r' e f g = e ∙ ap (λ (x : ℤ). moved xs from to x) (f ∙ g)

pub returns-then-is_thick-clause-value : goal.returns-then-is_thick-clause-value
returns-then-is_thick-clause-value c =
    let self = c.args.self.now in
    let n = c.args.n in
    let part = c.amount_at-part.ensures in
    let ice = c.amount_at-ice.ensures in
    let heat = c.amount_at-heat.ensures in
    let parts = all_moved _ c.args.self.now.parts (c.args.n + 1) (c.args.n + 2) c.amount_at-part.result _ c.shift.ensures.value (omega (arith, ints, part.amount.0, part.amount.1)) part.value in
    let ices = all_moved _ c.args.self.now.ice c.args.n (c.args.n + 1) c.amount_at-ice.result _ c.shift-then-is_thick.ensures.value (omega (arith, ints, ice.amount.0, ice.amount.1)) ice.value in
    let heats = all_moved _ c.args.self.now.heat c.args.n (c.args.n + 1) c.amount_at-heat.result _ c.shift-then-is_thick-2.ensures.value (omega (arith, ints, heat.amount.0, heat.amount.1)) heat.value in
    chosen (is_thick c.args.rates.now c.args.self.now c.args.n) _ (joined c.args.self.now c.args.n) c.args.self.now (sym c.is_thick.ensures ∙ c.if-is_thick.true)
    (λ i. record c.args.self.now { parts = parts i; ice = ices i; heat = heats i })
