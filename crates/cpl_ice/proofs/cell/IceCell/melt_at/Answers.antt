use Rattle.std.proofs.Common.{◌≡◌, ◌∙◌, ap, arith, ◌+◌, ◌*◌, ℕ, ℤ, List, pos, neg_ℤ, ◌*ℤ◌, ◌≤ℤ◌, w64, to_z, of_z}
use Rattle.std.specs.Prelude.{unsigned_abs}
use Rattle.std.proofs.lemmas.Int.{ints}
use Rattle.cpl_ice.specs.declared.cell.IceCell.{IceCell}
use Rattle.cpl_ice.specs.Cells.{IsAmount}
use Rattle.cpl_ice.specs.Slow.{at, added, moved, melting, melting_at, emptied, thinned}
use Rattle.cpl_ice.proofs.Choices.{chosen_by, refused_by}
use Rattle.cpl_ice.proofs.cell.IceCell.melt_at.Goals as goal

-- an amount that is passed stays as it is
passed : (x : ℤ) → IsAmount x → to_z w64 (of_z w64 x) ≡ x
passed x h = omega (arith, ints, h.0, h.1)

-- what melts of the amounts that were read
melts : (cell : IceCell) (n : ℕ) (m ice ice' heat heat' : ℤ) → m ≡ pos (melting (unsigned_abs ice') (unsigned_abs heat')) → ice' ≡ ice → heat' ≡ heat → ice ≡ at cell.ice n → heat ≡ at cell.heat n → m ≡ pos (melting_at cell n)
melts cell n m ice ice' heat heat' v e f g h =
    v ∙ (λ i. pos (melting (unsigned_abs ((e ∙ g) i)) (unsigned_abs ((f ∙ h) i))))

-- the tests on machine numbers and on amounts agree
all_melts : (melt : ℕ) (m ice there : ℤ) → m ≡ pos melt → m ≤ℤ ice → ice ≡ there → IsAmount ice → of_z w64 m ≡ of_z w64 ice → melt ≡ unsigned_abs there
all_melts melt m ice there e le f h t = omega (arith, ints, h.0, h.1)

some_stays : (melt : ℕ) (m ice there : ℤ) → m ≡ pos melt → m ≤ℤ ice → ice ≡ there → IsAmount ice → (of_z w64 m ≡ of_z w64 ice → ⊥) → melt ≡ unsigned_abs there → ⊥
some_stays melt m ice there e le f h ne t =
    let same : of_z w64 m ≡ of_z w64 ice = omega (arith, ints, h.0, h.1, e, f, t) in
    ne same

all_moved : (ys xs : List ℤ) (from to : ℕ) (r r' : ℤ) → ys ≡ moved xs from to r' → r' ≡ r → r ≡ at xs from → ys ≡ moved xs from to (at xs from)
all_moved ys xs from to r r' e f g = e ∙ ap (λ (x : ℤ). moved xs from to x) (f ∙ g)

removed : (ys xs : List ℤ) (n : ℕ) (r r' s : ℤ) → ys ≡ added xs n (neg_ℤ r') → r' ≡ r → r ≡ s → ys ≡ added xs n (neg_ℤ s)
removed ys xs n r r' s e f g = e ∙ ap (λ (x : ℤ). added xs n (neg_ℤ x)) (f ∙ g)

pub returns-then-melt-ice-clause-value : goal.returns-then-melt-ice-clause-value
returns-then-melt-ice-clause-value c =
    let part = c.amount_at-part.ensures in
    let ice = c.amount_at-ice.ensures in
    let heat = c.amount_at-heat.ensures in
    let melt = melts c.args.self.now c.args.n c.melting-melt.result c.amount_at-ice.result _ c.amount_at-heat.result _ c.melting-melt.ensures.value
    (passed c.amount_at-ice.result ice.amount) (passed c.amount_at-heat.result heat.amount) ice.value heat.value in
    let most : c.melting-melt.result ≤ℤ c.amount_at-ice.result = omega (arith, ints, c.melting-melt.ensures.most, ice.amount.0, ice.amount.1) in
    let parts = all_moved _ c.args.self.now.parts (c.args.n + 1) 0 c.amount_at-part.result _ c.shift.ensures.value (passed c.amount_at-part.result part.amount) part.value in
    let ices = removed _ c.args.self.now.ice c.args.n c.amount_at-ice.result _ _ c.remove.ensures.value (passed c.amount_at-ice.result ice.amount) ice.value in
    let heats = removed _ c.args.self.now.heat c.args.n c.amount_at-heat.result _ _ c.remove-then-melt-ice.ensures.value (passed c.amount_at-heat.result heat.amount) heat.value in
    chosen_by (melting_at c.args.self.now c.args.n) (unsigned_abs (at c.args.self.now.ice c.args.n)) _ (emptied c.args.self.now c.args.n) (thinned c.args.self.now c.args.n)
    (all_melts (melting_at c.args.self.now c.args.n) c.melting-melt.result c.amount_at-ice.result (at c.args.self.now.ice c.args.n) melt most ice.value ice.amount c.if-melt-ice.true)
    (λ i. record c.args.self.now { parts = parts i; ice = ices i; heat = heats i })

pub returns-clause-value : goal.returns-clause-value
returns-clause-value c =
    let ice = c.amount_at-ice.ensures in
    let heat = c.amount_at-heat.ensures in
    let melt = melts c.args.self.now c.args.n c.melting-melt.result c.amount_at-ice.result _ c.amount_at-heat.result _ c.melting-melt.ensures.value
    (passed c.amount_at-ice.result ice.amount) (passed c.amount_at-heat.result heat.amount) ice.value heat.value in
    let most : c.melting-melt.result ≤ℤ c.amount_at-ice.result = omega (arith, ints, c.melting-melt.ensures.most, ice.amount.0, ice.amount.1) in
    let own : to_z w64 (of_z w64 c.melting-melt.result) ≡ c.melting-melt.result = omega (arith, ints, c.melting-melt.ensures.carried.0, most, ice.amount.1) in
    let times : pos 1426 *ℤ c.melting-melt.result ≡ pos (1426 * melting_at c.args.self.now c.args.n) = ap (λ (x : ℤ). pos 1426 *ℤ x) melt in
    let carried : to_z w64 (of_z w64 (pos 1426 *ℤ to_z w64 (of_z w64 c.melting-melt.result))) ≡ pos 1426 *ℤ c.melting-melt.result =
    omega (arith, ints, c.melting-melt.ensures.carried.0, c.melting-melt.ensures.carried.1, heat.amount.0, heat.amount.1, most, ice.amount.1) in
    let ices = removed _ c.args.self.now.ice c.args.n c.melting-melt.result _ _ c.remove-2.ensures.value own melt in
    let heats = removed _ c.args.self.now.heat c.args.n (pos 1426 *ℤ c.melting-melt.result) _ _ c.remove-3.ensures.value carried times in
    refused_by (melting_at c.args.self.now c.args.n) (unsigned_abs (at c.args.self.now.ice c.args.n)) _ (emptied c.args.self.now c.args.n) (thinned c.args.self.now c.args.n)
    (some_stays (melting_at c.args.self.now c.args.n) c.melting-melt.result c.amount_at-ice.result (at c.args.self.now.ice c.args.n) melt most ice.value ice.amount c.if-melt-ice.false)
    (λ i. record c.args.self.now { ice = ices i; heat = heats i })
