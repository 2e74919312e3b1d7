use Rattle.std.proofs.Common.{◌≡◌, sym, ◌∙◌, ap, subst, ℕ, ◌+◌, ◌-◌, ◌*◌, ◌/◌, arith, rules, List, ◌∷◌, to_z, of_z, w64}
use Rattle.std.specs.Prelude.{ℤ, pos}
use Rattle.std.specs.Int.RustNames.{FitsSigned, unsigned_abs}
use Rattle.std.proofs.lemmas.Int.{ints}
use Rattle.cpl_fixed.specs.Shares.{shares_from, IsPartWay}
use Rattle.cpl_fixed.proofs.ShareLaws.{IsNext, next_share}
use Rattle.cpl_fixed.proofs.sharing.ShareIterIterator.next.Goals as goal

-- a weight as an unsigned number
abbrev unsigned : ℤ → ℕ
unsigned z = unsigned_abs (to_z w64 (of_z w64 z))

step : (amount whole from given : ℕ) (weight : ℤ) (weights all : List ℤ) → FitsSigned w64 weight → all ≡ weight ∷ weights → IsPartWay amount whole from given all → IsNext amount whole from given (unsigned weight) weight weights
step amount whole from given weight weights all fits is part_way =
    let now : IsPartWay amount whole from given (weight ∷ weights) = subst (λ (l : List ℤ). IsPartWay amount whole from given l) is part_way in
    let least = now.each 0 weight (omega arith) in
    next_share amount whole from given (unsigned weight) weight weights (omega (arith, ints, least, fits)) now

pub part-given-requires-clause-within : goal.part-given-requires-clause-within
part-given-requires-clause-within c =
    let s = c.self.inside in
    let fits : FitsSigned w64 c.in_ok-weight.weight.now = search rules in
    (step s.amount s.whole s.from s.given c.in_ok-weight.weight.now c.in_ok-weight.weights.now s.weights.now fits c.in_ok-weight.ensures.cases.0 c.self.invariant).within

pub invariant_of-self : goal.invariant_of-self
invariant_of-self c =
    let s = c.self.inside in
    let fits : FitsSigned w64 c.in_ok-weight.weight.now = search rules in
    let next = step s.amount s.whole s.from s.given c.in_ok-weight.weight.now c.in_ok-weight.weights.now s.weights.now fits c.in_ok-weight.ensures.cases.0 c.self.invariant in
    subst (λ (given : ℕ). IsPartWay s.amount s.whole (s.from + unsigned c.in_ok-weight.weight.now) given c.in_ok-weight.weights.now) (sym c.part-given.ensures.value) next.kept

pub returns-clause-steps : goal.returns-clause-steps
returns-clause-steps c =
    let s = c.self.inside in
    let fits : FitsSigned w64 c.in_ok-weight.weight.now = search rules in
    let next = step s.amount s.whole s.from s.given c.in_ok-weight.weight.now c.in_ok-weight.weights.now s.weights.now fits c.in_ok-weight.ensures.cases.0 c.self.invariant in
    let rest = shares_from (pos s.amount) (pos s.whole) (pos (s.from + unsigned c.in_ok-weight.weight.now)) c.in_ok-weight.weights.now in
    let most = c.self.invariant.amount_most in
    let one : pos (s.amount * (s.from + unsigned c.in_ok-weight.weight.now) / s.whole - s.given) ≡ to_z w64 (c.part-given.result - s.given) = omega (arith, ints, next.small, c.part-given.ensures.value) in
    sym c.self.view_is
    ∙ ap (λ (l : List ℤ). shares_from (pos s.amount) (pos s.whole) (pos s.from) l) c.in_ok-weight.ensures.cases.0
    ∙ next.shares
    ∙ ap (λ (z : ℤ). z ∷ rest) one

pub returns-clause-goes : goal.returns-clause-goes
returns-clause-goes c = let steps = returns-clause-steps c in search (rules, steps)

pub overflow_add-to : goal.overflow_add-to
overflow_add-to c =
    let s = c.self.inside in
    let fits : FitsSigned w64 c.in_ok-weight.weight.now = search rules in
    let within = (step s.amount s.whole s.from s.given c.in_ok-weight.weight.now c.in_ok-weight.weights.now s.weights.now fits c.in_ok-weight.ensures.cases.0 c.self.invariant).within in
    omega arith
