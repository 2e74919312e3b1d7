-- The earlier of two moments has no later year.
use Rattle.std.proofs.Common.{◌≡◌, refl, Bool, true, false, cond, ltb, eqb, ℕ, zero, suc, ◌+◌, ◌-◌, ◌≤◌, pos, arith, List}
use Rattle.std.specs.Prelude.{ℤ, ◌≤ℤ◌, unsigned_abs}
use Rattle.std.proofs.lemmas.Bool.{ltb-true, ltb-false}
use Rattle.std.proofs.lemmas.Int.{ints}
use Rattle.jiff_core.specs.Calendar.{days_in_month}
use Rattle.jiff_core.proofs.CalendarLemmas.{days_in_month_bounds}
use Rattle.cpl_namelist.specs.Civil.{Fits, date_from, days_after, part}

abbrev year_of : ℕ × ℕ × ℕ → ℕ
year_of civil = civil.0

-- going on comes to no earlier year
Later : ℕ → Type 0
Later more = (year month days : ℕ) → year ≤ (date_from more year month days).0

later_step : (more year month days : ℕ) (short twelve : Bool) → Later more
    → year ≤ year_of (cond short (year, month, days + 1) (cond twelve (date_from more (year + 1) 1 (days - days_in_month (pos year) month)) (date_from more year (month + 1) (days - days_in_month (pos year) month))))
unfolding Later
later_step more year month days true twelve go = omega arith
later_step more year month days false true go = let h = go (year + 1) 1 (days - days_in_month (pos year) month) in omega (arith, h)
later_step more year month days false false go = go year (month + 1) (days - days_in_month (pos year) month)

later : (more : ℕ) → Later more
unfolding date_from Later
later zero year month days = omega arith
later (suc more) year month days = later_step more year month days (ltb days (days_in_month (pos year) month)) (eqb month 12) (later more)

-- fewer days come to no later year
Orders : ℕ → ℕ → Type 0
Orders less more = (year month a b : ℕ) → a ≤ b → a ≤ less → b ≤ more → (date_from less year month a).0 ≤ (date_from more year month b).0

ordered_step : (less more year month a b : ℕ) (short_a short_b twelve : Bool) → ltb a (days_in_month (pos year) month) ≡ short_a → ltb b (days_in_month (pos year) month) ≡ short_b
    → a ≤ b → a ≤ suc less → b ≤ suc more → Orders less more
    → year_of (cond short_a (year, month, a + 1) (cond twelve (date_from less (year + 1) 1 (a - days_in_month (pos year) month)) (date_from less year (month + 1) (a - days_in_month (pos year) month))))
    ≤ year_of (cond short_b (year, month, b + 1) (cond twelve (date_from more (year + 1) 1 (b - days_in_month (pos year) month)) (date_from more year (month + 1) (b - days_in_month (pos year) month))))
unfolding Orders Later
ordered_step less more year month a b true true twelve e f le la lb go = omega arith
ordered_step less more year month a b true false true e f le la lb go = let h = later more (year + 1) 1 (b - days_in_month (pos year) month) in omega (arith, h)
ordered_step less more year month a b true false false e f le la lb go = later more year (month + 1) (b - days_in_month (pos year) month)
ordered_step less more year month a b false true twelve e f le la lb go =
    let long = ltb-false a (days_in_month (pos year) month) e in
    let short = ltb-true b (days_in_month (pos year) month) f in
    absurd (omega (arith, long, short))
ordered_step less more year month a b false false true e f le la lb go =
    let some = days_in_month_bounds (pos year) month in
    go (year + 1) 1 (a - days_in_month (pos year) month) (b - days_in_month (pos year) month) (omega arith) (omega (arith, some)) (omega (arith, some))
ordered_step less more year month a b false false false e f le la lb go =
    let some = days_in_month_bounds (pos year) month in
    go year (month + 1) (a - days_in_month (pos year) month) (b - days_in_month (pos year) month) (omega arith) (omega (arith, some)) (omega (arith, some))

-- with no days to go the date stays in its year
stays_step : (more year month a : ℕ) (short : Bool) (rest : ℕ × ℕ × ℕ) → ltb a (days_in_month (pos year) month) ≡ short → a ≤ 0 → year_of (cond short (year, month, a + 1) rest) ≡ year
stays_step more year month a true rest e none = refl
stays_step more year month a false rest e none =
    let long = ltb-false a (days_in_month (pos year) month) e in
    let some = days_in_month_bounds (pos year) month in
    absurd (omega (arith, long, some))

ordered : (less more : ℕ) → Orders less more
unfolding date_from Orders Later
ordered zero more year month a b le la lb = later more year month b
ordered (suc less) zero year month a b le la lb =
    let e = stays_step less year month a (ltb a (days_in_month (pos year) month)) (cond (eqb month 12) (date_from less (year + 1) 1 (a - days_in_month (pos year) month)) (date_from less year (month + 1) (a - days_in_month (pos year) month))) refl (omega arith) in
    omega (arith, e)
ordered (suc less) (suc more) year month a b le la lb =
    ordered_step less more year month a b (ltb a (days_in_month (pos year) month)) (ltb b (days_in_month (pos year) month)) (eqb month 12) refl refl le la lb (ordered less more)

-- the earlier moment fits where the later one does
pub fits_before : (start : List ℤ) (a b : ℕ) → a ≤ b → Fits start b → Fits start a
unfolding Orders
fits_before start a b le fits =
    let days : days_after start a ≤ days_after start b = omega arith in
    let first = part start 2 - 1 in
    let h = ordered (first + days_after start a) (first + days_after start b) (part start 0) (part start 1) (first + days_after start a) (first + days_after start b) (omega (arith, days)) (omega arith) (omega arith) in
    omega (arith, h, fits)

pub abs_more : (a b : ℤ) → pos 0 ≤ℤ a → a ≤ℤ b → unsigned_abs a ≤ unsigned_abs b
abs_more a b least le = omega (arith, ints, least, le)
