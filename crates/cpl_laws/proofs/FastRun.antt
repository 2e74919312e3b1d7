-- The fast steps of a coupling step, one after another.
use Rattle.std.proofs.Common.{◌≡◌, ◌∙◌, refl, ap, ℕ, zero, suc, ◌-◌, ◌*◌, ◌<◌, ◌≤◌, arith}
use Rattle.std.specs.Prelude.{ℤ, pos, negsuc, ◌+ℤ◌, ◌-ℤ◌, ◌*ℤ◌, ◌≤ℤ◌}
use Rattle.std.proofs.lemmas.Int.{ints}
use Rattle.std.proofs.Math.Nat.{mul-le-mul_left}
use Rattle.std.proofs.Math.IntN.{suc_ℤ-*ℤ, zero-*ℤ, pos-*ℤ-pos}
use Rattle.cpl_fixed.specs.Amounts.{at}
use Rattle.cpl_fixed.specs.Ranges.{IsFrom, AreRates}
use Rattle.cpl_fixed.specs.declared.limits.TheConstants.{MOST_TOTAL}
use Rattle.cpl_fixed.specs.declared.words.Quantity.TheVariants.{Heat, Water, Salt}
use Rattle.cpl_mosaic.specs.Mates.{MatesAgree}
use Rattle.cpl_namelist.specs.declared.names.Names.{Names}
use Rattle.cpl_xgrid.specs.declared.grid.Grid.{Grid}
use Rattle.cpl_state.specs.declared.whole.Mid.{Mid}
use Rattle.cpl_state.specs.Diffusion.{IsAirMesh}
use Rattle.cpl_state.specs.States.{IsMid, HasNoFlights}
use Rattle.cpl_state.specs.Stocks.{held_within}
use Rattle.cpl_state.specs.Budget.{sun_of_strength}
use Rattle.cpl_state.specs.FastStep.{Before, entered, left, fast_after}
use Rattle.cpl_state.specs.FastLaws.{CanStep, KeepsAll}
use Rattle.cpl_state.specs.SurfaceLaws.{IsSameSea}
use Rattle.cpl_state.specs.CouplingStep.{before, fast_by, over_fast}
use Rattle.cpl_laws.specs.Once.{IsNumbered}
use Rattle.cpl_laws.proofs.FastRanges.{entered_range, left_range}
use Rattle.cpl_laws.proofs.FastKept.{keeps_all}

-- as often, or more often
pub times_next : (n : ℕ) (x : ℤ) → pos (suc n) *ℤ x ≡ pos n *ℤ x +ℤ x
times_next n x = suc_ℤ-*ℤ (pos n) x

pub times_more : (a b : ℕ) (x : ℤ) → pos 0 ≤ℤ x → a ≤ b → (pos a *ℤ x) ≤ℤ (pos b *ℤ x)
times_more a b (pos x) least le =
    let l = pos-*ℤ-pos a x in
    let r = pos-*ℤ-pos b x in
    let more : x * a ≤ x * b = mul-le-mul_left x le in
    omega (arith, ints, l, r, more)
times_more a b (negsuc x) least le = absurd (omega (arith, ints, least))

-- a fast step leaves the ocean, the sun and what flies as they were
same_sea : (s : Before) → IsSameSea s.mid.whole (fast_after s).whole
unfolding fast_after
same_sea s = record { elapsed = refl; sun = refl; water = refl; heat = refl; salt = refl; faces = refl }

same_flights : (s : Before) → HasNoFlights s.mid.whole → HasNoFlights (fast_after s).whole
unfolding fast_after
same_flights s none = record { to_ice = none.to_ice; to_ocean = none.to_ocean }

module _ (grid : Grid) (names : Names) (month : ℕ) (mid : Mid) (steps : ℕ) (is : IsNumbered grid) (air : IsAirMesh grid.air) (mates : MatesAgree grid.air.mosaic)
    (rates : AreRates names.rates) (in_year : IsFrom 1 12 month) (lawful : IsMid grid mid) (none : HasNoFlights mid.whole) where
  -- the sun of one fast step
  abbrev pub sun : ℤ
  sun = sun_of_strength (at names.rates.month (month - 1)) mid.whole.air_sun

  -- the state after so many steps, and what the next one goes by
  abbrev pub after : ℕ → Mid
  after n = fast_by n grid names month mid

  abbrev pub at_step : ℕ → Before
  at_step n = before grid names month (fast_by n grid names month mid)

  -- what holds after n steps
  pub record IsAfter (n : ℕ) : Type 0 where
    pub is_mid : IsMid grid (after n)
    pub same : IsSameSea mid.whole (after n).whole
    pub flights : HasNoFlights (after n).whole
    pub heat : held_within grid (after n) Heat ≡ held_within grid mid Heat +ℤ over_fast entered n grid names month mid -ℤ over_fast left n grid names month mid
    pub water : held_within grid (after n) Water ≡ held_within grid mid Water
    pub salt : held_within grid (after n) Salt ≡ held_within grid mid Salt
    pub entering : (pos 0 ≤ℤ over_fast entered n grid names month mid) × (over_fast entered n grid names month mid ≤ℤ (pos n *ℤ sun))
    pub leaving : pos 0 ≤ℤ over_fast left n grid names month mid

  module _ (heat : (held_within grid mid Heat +ℤ (pos steps *ℤ sun)) ≤ℤ pos MOST_TOTAL) (water : held_within grid mid Water ≤ℤ pos MOST_TOTAL) (salt : held_within grid mid Salt ≤ℤ pos MOST_TOTAL)
      (sun_least : pos 0 ≤ℤ sun) where
    -- the next step can be made
    pub next_can : (n : ℕ) → n < steps → IsAfter n → CanStep (at_step n)
    next_can n l was =
        let same : sun_of_strength (at names.rates.month (month - 1)) (after n).whole.air_sun ≡ sun = ap (sun_of_strength (at names.rates.month (month - 1))) was.same.sun in
        let next = times_next n sun in
        let more = times_more (suc n) steps sun sun_least l in
        record {
          grid = is.rules;
          air = air;
          rates = rates;
          month = in_year;
          mid = was.is_mid;
          heat = omega (arith, ints, same, next, more, heat, was.heat, was.entering.1, was.leaving);
          water = omega (arith, ints, water, was.water);
          salt = omega (arith, ints, salt, was.salt);
        }

    next_after : (n : ℕ) → n < steps → IsAfter n → IsAfter (suc n)
    next_after n l was =
        let can = next_can n l was in
        let keeps = keeps_all (at_step n) is air mates can in
        let same = same_sea (at_step n) in
        let sun_same : sun_of_strength (at names.rates.month (month - 1)) (after n).whole.air_sun ≡ sun = ap (sun_of_strength (at names.rates.month (month - 1))) was.same.sun in
        let next = times_next n sun in
        let enters = entered_range (at_step n) is air can in
        let leaves = left_range (at_step n) is air can in
        record {
          is_mid = keeps.after;
          same = record {
            elapsed = same.elapsed ∙ was.same.elapsed;
            sun = same.sun ∙ was.same.sun;
            water = same.water ∙ was.same.water;
            heat = same.heat ∙ was.same.heat;
            salt = same.salt ∙ was.same.salt;
            faces = same.faces ∙ was.same.faces;
          };
          flights = same_flights (at_step n) was.flights;
          heat = omega (arith, ints, keeps.heat, was.heat);
          water = keeps.water ∙ was.water;
          salt = keeps.salt ∙ was.salt;
          entering = (omega (arith, ints, was.entering.0, enters.0), omega (arith, ints, was.entering.1, enters.1, sun_same, next));
          leaving = omega (arith, ints, was.leaving, leaves.0);
        }

    pub is_after : (n : ℕ) → n ≤ steps → IsAfter n
    is_after zero l =
        let zero_times = zero-*ℤ sun in
        record {
          is_mid = lawful;
          same = record { elapsed = refl; sun = refl; water = refl; heat = refl; salt = refl; faces = refl };
          flights = none;
          heat = omega (arith, ints);
          water = refl;
          salt = refl;
          entering = (omega (arith, ints), omega (arith, ints, zero_times));
          leaving = omega (arith, ints);
        }
    is_after (suc n) l = next_after n l (is_after n (omega arith))

    pub can_step : (n : ℕ) → n < steps → CanStep (at_step n)
    can_step n l = next_can n l (is_after n (omega arith))

    pub keeps_step : (n : ℕ) → n < steps → KeepsAll (at_step n)
    keeps_step n l = keeps_all (at_step n) is air mates (can_step n l)

    -- tallies that agree in each step agree in all
    pub tallies_agree : (one other : Before → ℤ) → ((n : ℕ) → n < steps → one (at_step n) ≡ other (at_step n)) → (n : ℕ) → n ≤ steps → over_fast one n grid names month mid ≡ over_fast other n grid names month mid
    tallies_agree one other agree zero l = refl
    tallies_agree one other agree (suc n) l = λ i. tallies_agree one other agree n (omega arith) i +ℤ agree n l i
