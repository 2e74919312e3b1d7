-- The names that are read are in their ranges.
use Rattle.std.proofs.Common.{◌≡◌, ℕ, zero, suc, ◌+◌, ◌<◌, ◌≤◌, ℤ, pos, List, [], ◌∷◌, Bool, true, false, cond, Option, Some, None, Result, Ok, Err, get_or, map, length, lit<, refl, sym, ap, subst, ◌∙◌, arith}
use Rattle.std.specs.Prelude.{◌&&◌, ◌||◌, not, nat_le, ◌==◌, is_some, unwrap_or, IfOk}
use Rattle.std.specs.List.{AllByRecursion, range_with_len}
use Rattle.std.proofs.lemmas.Bool.{leb-true}
use Rattle.std.proofs.lemmas.Result.{IfOk-weaker}
use Rattle.std.proofs.lemmas.List.FromFn.{get_or-map-range_with_len}
use Rattle.jiff_core.proofs.SignedLemmas.{signed_arith}
use Rattle.jiff.specs.Words.{days_in_month}
use Rattle.cpl_fixed.specs.Results.{◌>>=◌}
use Rattle.cpl_namelist.specs.declared.fault.NamesError.{NamesError}
use Rattle.cpl_namelist.specs.declared.fault.Required.{Required}
use Rattle.cpl_namelist.specs.declared.fault.Required.TheVariants as required
use Rattle.cpl_namelist.specs.declared.names.Names.{Names}
use Rattle.cpl_namelist.specs.declared.names.StepCounts.{StepCounts}
use Rattle.cpl_namelist.specs.declared.places.TheConstants as places
use Rattle.cpl_namelist.specs.Tokens.{tokens}
use Rattle.cpl_namelist.specs.Table.{row_at}
use Rattle.cpl_namelist.specs.Numbers.{is_date, is_moment}
use Rattle.cpl_namelist.specs.Settings.{Choices, nothing, judged, given_at, is_given, number, default_of}
use Rattle.cpl_namelist.specs.Names.{signed_numbers, layout_of, rates_of, run_length, missing, unless_missing, names_with, names_of}
use Rattle.cpl_namelist.specs.Civil.{at, IsStart}
use Rattle.cpl_namelist.specs.Ranges.{IsFrom, IsFromℤ, IsLayout, AreRates, AreNames, FillTime, HasTimes}
use Rattle.cpl_namelist.proofs.Given.{both}
use Rattle.cpl_namelist.proofs.Fine.{Fine, fine_at, number_in}
use Rattle.cpl_namelist.proofs.Times.{steps_in}
use Rattle.cpl_namelist.proofs.Wholes.{steps_chosen}

or_true : (b : Bool) → (b || true) ≡ true
or_true true = refl
or_true false = refl

true_or : (b c : Bool) → b ≡ true → (b || c) ≡ true
true_or b c e = rw e refl

to_signed : (low high n : ℕ) → IsFrom low high n → IsFromℤ low high (pos n)
to_signed low high n h = (omega (arith, signed_arith, h), omega (arith, signed_arith, h))

all_signed : (P : ℤ → Type 0) (f : ℕ → ℤ) (a n : ℕ) → ((k : ℕ) → k < a + n → P (f k)) → AllByRecursion P (map f (range_with_len a n))
all_signed P f a zero h = tt
all_signed P f a (suc n) h = (h a (omega arith), all_signed P f (a + 1) n (λ k lt. h k (omega arith)))

-- a number with a default
default_in : (chosen : Choices) (place k : ℕ) → Fine chosen → is_some (row_at place).default ≡ true → k < (row_at place).count → IsFrom (row_at place).low (row_at place).high (number chosen place k)
default_in chosen place k fine some lt = number_in chosen place k fine (ap (λ (b : Bool). is_some (given_at chosen place) || b) some ∙ or_true (is_some (given_at chosen place))) lt

-- a number that was given
given_in : (chosen : Choices) (place k : ℕ) → Fine chosen → is_given chosen place ≡ true → k < (row_at place).count → IsFrom (row_at place).low (row_at place).high (number chosen place k)
given_in chosen place k fine given lt = number_in chosen place k fine (true_or (is_some (given_at chosen place)) (is_some (row_at place).default) given) lt

rates_in : (chosen : Choices) → Fine chosen → AreRates (rates_of chosen)
unfolding row_at rates_of signed_numbers
rates_in chosen fine = record {
  ca = to_signed 1 1_048_576 (number chosen places.CA 0) (default_in chosen places.CA 0 fine refl (lit< tt));
  kh = to_signed 0 1_048_576 (number chosen places.KH 0) (default_in chosen places.KH 0 fine refl (lit< tt));
  ke = to_signed 0 1_048_576 (number chosen places.KE 0) (default_in chosen places.KE 0 fine refl (lit< tt));
  hs = to_signed 0 1_048_576 (number chosen places.HS 0) (default_in chosen places.HS 0 fine refl (lit< tt));
  ko = to_signed 0 131_072 (number chosen places.KO 0) (default_in chosen places.KO 0 fine refl (lit< tt));
  rc = to_signed 0 1_048_576 (number chosen places.RC 0) (default_in chosen places.RC 0 fine refl (lit< tt));
  month = all_signed (IsFromℤ 0 4_000) (λ k. pos (number chosen places.MONTH k)) 0 12 (λ k lt. to_signed 0 4_000 (number chosen places.MONTH k) (default_in chosen places.MONTH k fine refl (omega arith)));
  cl = to_signed 1 1_048_576 (number chosen places.CL 0) (default_in chosen places.CL 0 fine refl (lit< tt));
  cap = to_signed 0 1_048_576 (number chosen places.CAP 0) (default_in chosen places.CAP 0 fine refl (lit< tt));
  land_albedo = to_signed 0 1_000 (number chosen places.LAND_ALBEDO 0) (default_in chosen places.LAND_ALBEDO 0 fine refl (lit< tt));
  h0 = to_signed 1 1_048_576 (number chosen places.H0 0) (default_in chosen places.H0 0 fine refl (lit< tt));
  bounds = all_signed (IsFromℤ 1 1_048_576) (λ k. pos (number chosen places.BOUNDS k)) 0 4 (λ k lt. to_signed 1 1_048_576 (number chosen places.BOUNDS k) (default_in chosen places.BOUNDS k fine refl (omega arith)));
  ice_albedo = to_signed 0 1_000 (number chosen places.ICE_ALBEDO 0) (default_in chosen places.ICE_ALBEDO 0 fine refl (lit< tt));
  water_albedo = to_signed 0 1_000 (number chosen places.WATER_ALBEDO 0) (default_in chosen places.WATER_ALBEDO 0 fine refl (lit< tt));
  slope = default_in chosen places.SLOPE 0 fine refl (lit< tt);
  mix = default_in chosen places.MIX 0 fine refl (lit< tt);
}

layout_in : (chosen : Choices) (place : ℕ) → Fine chosen → is_some (row_at place).default ≡ true → (row_at place).count ≡ 2 → (row_at place).low ≡ 1 → (row_at place).high ≡ 64 → IsLayout (layout_of chosen place)
layout_in chosen place fine some two low high =
    let x = default_in chosen place 0 fine some (omega arith) in
    let y = default_in chosen place 1 fine some (omega arith) in
    ((omega (arith, x), omega (arith, x)), (omega (arith, y), omega (arith, y)))

-- ---- the start

record Parts (year month day hour minute second : ℕ) : Type 0 where
  year_low : 1 ≤ year
  year_high : year ≤ 9999
  month_low : 1 ≤ month
  month_high : month ≤ 12
  day_low : 1 ≤ day
  day_high : day ≤ days_in_month (pos year) month
  hour_high : hour ≤ 23
  minute_high : minute ≤ 59
  second_high : second ≤ 59

moment_parts : (ns : List ℕ) → is_moment ns ≡ true → Parts (get_or ns 0 0) (get_or ns 1 0) (get_or ns 2 0) (get_or ns 3 0) (get_or ns 4 0) (get_or ns 5 0)
moment_parts (year ∷ month ∷ day ∷ hour ∷ minute ∷ second ∷ []) e =
    let b1 = both (is_date year month day && nat_le hour 23 && nat_le minute 59) (nat_le second 59) e in
    let b2 = both (is_date year month day && nat_le hour 23) (nat_le minute 59) b1.0 in
    let b3 = both (is_date year month day) (nat_le hour 23) b2.0 in
    let c1 = both (nat_le 1 year && nat_le year 9999 && nat_le 1 month && nat_le month 12 && nat_le 1 day) (nat_le day (days_in_month (pos year) month)) b3.0 in
    let c2 = both (nat_le 1 year && nat_le year 9999 && nat_le 1 month && nat_le month 12) (nat_le 1 day) c1.0 in
    let c3 = both (nat_le 1 year && nat_le year 9999 && nat_le 1 month) (nat_le month 12) c2.0 in
    let c4 = both (nat_le 1 year && nat_le year 9999) (nat_le 1 month) c3.0 in
    let c5 = both (nat_le 1 year) (nat_le year 9999) c4.0 in
    record {
      year_low = leb-true 1 year c5.0;
      year_high = leb-true year 9999 c5.1;
      month_low = leb-true 1 month c4.1;
      month_high = leb-true month 12 c3.1;
      day_low = leb-true 1 day c2.1;
      day_high = leb-true day (days_in_month (pos year) month) c1.1;
      hour_high = leb-true hour 23 b3.1;
      minute_high = leb-true minute 59 b2.1;
      second_high = leb-true second 59 b1.1;
    }
moment_parts _ e = absurd cc

start_is : (start : List ℤ) (y m d h n s : ℕ) → at start 0 ≡ pos y → at start 1 ≡ pos m → at start 2 ≡ pos d → at start 3 ≡ pos h → at start 4 ≡ pos n → at start 5 ≡ pos s → Parts y m d h n s → IsStart start
start_is start y m d h n s e0 e1 e2 e3 e4 e5 p = record {
  date = rw (e0, e1, e2) ((omega (arith, signed_arith, p.year_high), omega (arith, signed_arith, p.year_high)), (omega (arith, signed_arith, p.month_low), omega (arith, signed_arith, p.month_high)), (omega (arith, signed_arith, p.day_low), omega (arith, signed_arith, p.day_high)));
  year = rw e0 (omega (arith, signed_arith, p.year_low));
  hour = rw e3 (omega (arith, signed_arith), omega (arith, signed_arith, p.hour_high));
  minute = rw e4 (omega (arith, signed_arith), omega (arith, signed_arith, p.minute_high));
  second = rw e5 (omega (arith, signed_arith), omega (arith, signed_arith, p.second_high));
}

some_given : (o : Option (List ℕ)) → is_some o ≡ true → (ns : List ℕ) × (o ≡ Some ns)
some_given None e = absurd cc
some_given (Some ns) e = (ns, refl)

start_in : (chosen : Choices) → Fine chosen → is_given chosen places.CURRENT_DATE ≡ true → IsStart (signed_numbers chosen places.CURRENT_DATE 6)
unfolding row_at signed_numbers
start_in chosen fine given =
    let ns = some_given (given_at chosen places.CURRENT_DATE) given in
    let fit = fine_at chosen fine places.CURRENT_DATE ns.0 ns.1 in
    let moment = (both (length ns.0 == 6) (is_moment ns.0) fit.suited).1 in
    let here : (k : ℕ) → k < 6 → at (map (λ k. pos (number chosen places.CURRENT_DATE k)) (range_with_len 0 6)) k ≡ pos (get_or ns.0 k 0) = λ k lt.
    get_or-map-range_with_len (λ k. pos (number chosen places.CURRENT_DATE k)) 0 6 k k (pos 0) lt (omega arith)
    ∙ ap (λ (o : Option (List ℕ)). pos (get_or (unwrap_or o (default_of (row_at places.CURRENT_DATE))) k 0)) ns.1 in
    start_is _ _ _ _ _ _ _ (here 0 (lit< tt)) (here 1 (lit< tt)) (here 2 (lit< tt)) (here 3 (lit< tt)) (here 4 (lit< tt)) (here 5 (lit< tt)) (moment_parts ns.0 moment)

missing_no : (b : Bool) (r : Required) (others : Option Required) → cond (not b) (Some r) others ≡ None → (b ≡ true) × (others ≡ None)
missing_no true r others e = (refl, e)
missing_no false r others e = absurd cc

-- the names without a default that are given
record AllGiven (chosen : Choices) : Type 0 where
  current_date : is_given chosen places.CURRENT_DATE ≡ true
  dt_atmos : is_given chosen places.DT_ATMOS ≡ true
  dt_cpld : is_given chosen places.DT_CPLD ≡ true
  dt_ocean : is_given chosen places.DT_OCEAN ≡ true

all_given : (chosen : Choices) → missing chosen ≡ None → AllGiven chosen
all_given chosen e =
    let a = missing_no (is_given chosen places.CURRENT_DATE) required.CurrentDate _ e in
    let b = missing_no (is_given chosen places.CALENDAR) required.Calendar _ a.1 in
    let c = missing_no (is_given chosen places.DT_ATMOS) required.DtAtmos _ b.1 in
    let d = missing_no (is_given chosen places.DT_CPLD) required.DtCpld _ c.1 in
    let o = missing_no (is_given chosen places.DT_OCEAN) required.DtOcean _ d.1 in
    record { current_date = a.0; dt_atmos = c.0; dt_cpld = d.0; dt_ocean = o.0 }

-- the seconds of a step
record AreTimes (chosen : Choices) : Type 0 where
  dt_atmos : IsFrom 1 2_678_400 (number chosen places.DT_ATMOS 0)
  dt_cpld : IsFrom 1 2_678_400 (number chosen places.DT_CPLD 0)
  dt_ocean : IsFrom 1 2_678_400 (number chosen places.DT_OCEAN 0)
  days : IsFrom 0 1_000_000_000 (number chosen places.DAYS 0)
  hours : IsFrom 0 1_000_000_000 (number chosen places.HOURS 0)
  minutes : IsFrom 0 1_000_000_000 (number chosen places.MINUTES 0)
  seconds : IsFrom 0 1_000_000_000 (number chosen places.SECONDS 0)

times_in : (chosen : Choices) → Fine chosen → AllGiven chosen → AreTimes chosen
unfolding row_at
times_in chosen fine given = record {
  dt_atmos = given_in chosen places.DT_ATMOS 0 fine given.dt_atmos (lit< tt);
  dt_cpld = given_in chosen places.DT_CPLD 0 fine given.dt_cpld (lit< tt);
  dt_ocean = given_in chosen places.DT_OCEAN 0 fine given.dt_ocean (lit< tt);
  days = default_in chosen places.DAYS 0 fine refl (lit< tt);
  hours = default_in chosen places.HOURS 0 fine refl (lit< tt);
  minutes = default_in chosen places.MINUTES 0 fine refl (lit< tt);
  seconds = default_in chosen places.SECONDS 0 fine refl (lit< tt);
}

layouts_in : (chosen : Choices) → Fine chosen → AllByRecursion IsLayout (layout_of chosen places.ATMOS_LAYOUT ∷ layout_of chosen places.LAND_LAYOUT ∷ layout_of chosen places.ICE_LAYOUT ∷ layout_of chosen places.OCEAN_LAYOUT ∷ [])
unfolding row_at
layouts_in chosen fine =
    (layout_in chosen places.ATMOS_LAYOUT fine refl refl refl refl, (layout_in chosen places.LAND_LAYOUT fine refl refl refl refl, (layout_in chosen places.ICE_LAYOUT fine refl refl refl refl, (layout_in chosen places.OCEAN_LAYOUT fine refl refl refl refl, tt))))

-- names in their ranges, whose steps fill the time
pub record AreSound (chosen : Choices) (names : Names) : Type 0 where
  pub ranges : AreNames names
  pub times : FillTime names chosen

with_in : (chosen : Choices) (s : StepCounts) → Fine chosen → missing chosen ≡ None → steps_chosen chosen ≡ Ok s → AreSound chosen (names_with chosen s)
with_in chosen s fine none e =
    let given = all_given chosen none in
    let times = times_in chosen fine given in
    let steps = steps_in (number chosen places.DT_ATMOS 0) (number chosen places.DT_CPLD 0) (number chosen places.DT_OCEAN 0) (run_length chosen) s times.dt_cpld.0 e in
    record {
      ranges = record {
        start = start_in chosen fine given.current_date;
        fast = steps.fast;
        ocean_steps = steps.ocean;
        steps = steps.count;
        dt = to_signed 1 2_678_400 (number chosen places.DT_CPLD 0) times.dt_cpld;
        layouts = layouts_in chosen fine;
        rates = rates_in chosen fine;
      };
      times = record {
        days = times.days;
        hours = times.hours;
        minutes = times.minutes;
        seconds = times.seconds;
        dt_atmos = times.dt_atmos;
        dt_cpld = times.dt_cpld;
        dt_ocean = times.dt_ocean;
        fast = steps.fast_fills;
        ocean = steps.ocean_fills;
        run = steps.count_fills;
      };
    }

by_steps : (chosen : Choices) (steps : Result StepCounts NamesError) → Fine chosen → missing chosen ≡ None → steps_chosen chosen ≡ steps → IfOk (steps >>= λ steps. Ok (names_with chosen steps)) (AreSound chosen)
by_steps chosen (Ok s) fine none e = with_in chosen s fine none e
by_steps chosen (Err d) fine none e = tt

by_missing : (chosen : Choices) (m : Option Required) → Fine chosen → missing chosen ≡ m → IfOk (unless_missing m (steps_chosen chosen >>= λ steps. Ok (names_with chosen steps))) (AreSound chosen)
by_missing chosen None fine e = by_steps chosen (steps_chosen chosen) fine e refl
by_missing chosen (Some required) fine e = tt

names_sound : (chosen : Choices) → Fine chosen → IfOk (names_of chosen) (AreSound chosen)
unfolding names_of
names_sound chosen fine = by_missing chosen (missing chosen) fine refl

-- the names of what is given are in their ranges
pub names_in : (chosen : Choices) → Fine chosen → IfOk (names_of chosen) AreNames
names_in chosen fine = IfOk-weaker (names_of chosen) (AreSound chosen) AreNames (λ names sound. sound.ranges) (names_sound chosen fine)

abbrev chosen_ok : Choices → Result Choices NamesError
chosen_ok chosen = Ok chosen

same_chosen : (a b : Choices) → chosen_ok a ≡ chosen_ok b → a ≡ b
same_chosen a b e = cc

-- and fill the time that the text gives
pub names_fill : (bytes : List ℕ) (chosen : Choices) → judged nothing (tokens bytes) ≡ Ok chosen → Fine chosen → IfOk (names_of chosen) (HasTimes bytes)
names_fill bytes chosen e fine = IfOk-weaker (names_of chosen) (AreSound chosen) (HasTimes bytes) (λ names sound other is. subst (FillTime names) (same_chosen chosen other (sym e ∙ is)) sound.times) (names_sound chosen fine)
