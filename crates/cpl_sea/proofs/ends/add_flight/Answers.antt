use Rattle.std.proofs.Common.{◌≡◌, ◌∙◌, sym, ap, subst, arith, below_more, get_or-set_same, get_or-set_other, slice_set, ℕ, ◌+◌, ◌*◌, ◌<◌, ◌≤◌, pos, ◌+ℤ◌, ℤ, List, length, FitsSigned, w64}
use Rattle.std.specs.Prelude.{All}
use Rattle.std.proofs.lemmas.Int.{ints}
use Rattle.cpl_fixed.specs.Amounts.{IsAmount, at}
use Rattle.cpl_transport.proofs.Bounds.{read}
use Rattle.cpl_sea.proofs.Writes.{at_all}
use Rattle.cpl_sea.proofs.ends.add_flight.Goals as goal

-- two amounts together
together : (x y x' : ℤ) → x' ≡ x → IsAmount x → IsAmount y → FitsSigned w64 (read x' +ℤ read y) × (read (read x' +ℤ read y) ≡ x +ℤ y)
together x y x' e h k =
    let sum : FitsSigned w64 (read x +ℤ read y) = omega (arith, ints, h.0, h.1, k.0, k.1) in
    let is : read (read x +ℤ read y) ≡ x +ℤ y = omega (arith, ints, h.0, h.1, k.0, k.1) in
    (subst (λ (t : ℤ). FitsSigned w64 (read t +ℤ read y)) (sym e) sum, ap (λ (t : ℤ). read (read t +ℤ read y)) e ∙ is)

-- one more number of a list, with what the flight has for it
module _ (old xs flight : List ℤ) (n : ℕ) (place : ℕ → ℕ) (amounts : All IsAmount old) (flights : All IsAmount flight) (long : length xs ≡ length old) (here : n < length xs) (there : place n < length flight) (below : (j : ℕ) → n ≤ j → at xs j ≡ at old j) where
  both : FitsSigned w64 (read (at xs n) +ℤ read (at flight (place n))) × (read (read (at xs n) +ℤ read (at flight (place n))) ≡ at old n +ℤ at flight (place n))
  both =
      together (at old n) (at flight (place n)) (at xs n) (below n (omega arith))
      (at_all IsAmount old n amounts (omega arith)) (at_all IsAmount flight (place n) flights there)

  pub fits : FitsSigned w64 (read (at xs n) +ℤ read (at flight (place n)))
  fits = both.0

  pub one_added : ((j : ℕ) → j < n → at xs j ≡ at old j +ℤ at flight (place j)) → (j : ℕ) → j < n + 1 → at (slice_set xs n (read (read (at xs n) +ℤ read (at flight (place n))))) j ≡ at old j +ℤ at flight (place j)
  one_added top =
      let v = read (read (at xs n) +ℤ read (at flight (place n))) in
      below_more (λ j. at (slice_set xs n v) j ≡ at old j +ℤ at flight (place j)) n
      (λ j l. get_or-set_other xs n j v (pos 0) (λ e. omega arith) ∙ top j l)
      (get_or-set_same xs n v (pos 0) here ∙ both.1)

  pub rest_stands : (j : ℕ) → n + 1 ≤ j → at (slice_set xs n (read (read (at xs n) +ℤ read (at flight (place n))))) j ≡ at old j
  rest_stands j l = get_or-set_other xs n j (read (read (at xs n) +ℤ read (at flight (place n)))) (pos 0) (λ e. omega arith) ∙ below j (omega arith)

pub overflow_add-heat-in-loop-n : goal.overflow_add-heat-in-loop-n
overflow_add-heat-in-loop-n c =
    fits c.args.heat.now c.loop-n.heat c.args.flight.now c.loop-n.n (λ j. 3 * j + 1) c.requires.heat c.requires.flight (omega arith) (omega arith) (omega arith) c.loop-n.invariant.heat_below

pub overflow_add-salt-in-loop-n : goal.overflow_add-salt-in-loop-n
overflow_add-salt-in-loop-n c =
    fits c.args.salt.now c.loop-n.salt c.args.flight.now c.loop-n.n (λ j. 3 * j + 2) c.requires.salt c.requires.flight (omega arith) (omega arith) (omega arith) c.loop-n.invariant.salt_below

pub loop-n-preserved : goal.loop-n-preserved
loop-n-preserved c =
    let n = c.loop-n.n in
    let flight = c.args.flight.now in
    let is = c.loop-n.invariant in
    record {
      water = one_added c.args.water.now c.loop-n.water flight n (λ j. 3 * j) c.requires.water c.requires.flight (omega arith) (omega arith) (omega arith) is.water_below is.water;
      heat = one_added c.args.heat.now c.loop-n.heat flight n (λ j. 3 * j + 1) c.requires.heat c.requires.flight (omega arith) (omega arith) (omega arith) is.heat_below is.heat;
      salt = one_added c.args.salt.now c.loop-n.salt flight n (λ j. 3 * j + 2) c.requires.salt c.requires.flight (omega arith) (omega arith) (omega arith) is.salt_below is.salt;
      water_below = rest_stands c.args.water.now c.loop-n.water flight n (λ j. 3 * j) c.requires.water c.requires.flight (omega arith) (omega arith) (omega arith) is.water_below;
      heat_below = rest_stands c.args.heat.now c.loop-n.heat flight n (λ j. 3 * j + 1) c.requires.heat c.requires.flight (omega arith) (omega arith) (omega arith) is.heat_below;
      salt_below = rest_stands c.args.salt.now c.loop-n.salt flight n (λ j. 3 * j + 2) c.requires.salt c.requires.flight (omega arith) (omega arith) (omega arith) is.salt_below;
    }
