-- Going on month by month counts days as `jiff` does.
use Rattle.std.proofs.Common.{◌≡◌, ℕ, zero, suc, ◌+◌, ◌-◌, ◌<◌, ◌≤◌, inl, inr, Bool, true, false, cond, ltb, eqb, ℤ, pos, ◌+ℤ◌, refl, sym, ap, ◌∙◌, arith}
use Rattle.std.proofs.lemmas.Bool.{cases_lt, cases_order, ltb-true, ltb-false, eqb-true}
use Rattle.std.proofs.lemmas.Bool.Decides.{nat_tests}
use Rattle.std.proofs.lemmas.Int.{by_lt_z}
use Rattle.jiff_core.specs.declared.civil.date.Date.{Date}
use Rattle.jiff_core.specs.Calendar.{day_count, days_in_month, IsCivilDate, IsEpochDay}
use Rattle.jiff_core.specs.Date.{epoch_day}
use Rattle.jiff_core.proofs.SignedLemmas.{signed_arith}
use Rattle.jiff_core.proofs.CalendarLemmas.{days_from_civil-day_count, days_in_month_bounds, day_count-day_of_year, day_count-next_year, day_count-later_year, day_count-lt_year, day_count-lt_month, day_count-day, day_count-next_month, day_count-last_of_year, day_count-end, day_count_bounds}
use Rattle.cpl_namelist.specs.Civil.{date_from}

abbrev count : ℕ × ℕ × ℕ → ℕ
count civil = day_count (pos civil.0) civil.1 civil.2

-- the date lies so many days after the first of the month
pub record IsFound (year month days : ℕ) (civil : ℕ × ℕ × ℕ) : Type 0 where
  counted : count civil ≡ day_count (pos year) month 1 + days
  pub month_low : 1 ≤ civil.1
  pub month_high : civil.1 ≤ 12
  day_low : 1 ≤ civil.2
  day_high : civil.2 ≤ days_in_month (pos civil.0) civil.1

within : (year month days : ℕ) → 1 ≤ month → month ≤ 12 → days < days_in_month (pos year) month → IsFound year month days (year, month, days + 1)
within year month days low high lt = record {
  counted = omega (arith, day_count-day (pos year) month (days + 1) 1 (omega arith) (omega arith));
  month_low = low;
  month_high = high;
  day_low = omega arith;
  day_high = omega arith;
}

moved : (year month days year₂ month₂ : ℕ) (civil : ℕ × ℕ × ℕ) → days_in_month (pos year) month ≤ days → day_count (pos year₂) month₂ 1 ≡ day_count (pos year) month 1 + days_in_month (pos year) month
    → IsFound year₂ month₂ (days - days_in_month (pos year) month) civil → IsFound year month days civil
moved year month days year₂ month₂ civil le next found = record {
  counted = omega (arith, found.counted);
  month_low = found.month_low;
  month_high = found.month_high;
  day_low = found.day_low;
  day_high = found.day_high;
}

next_year : (year month : ℕ) → month ≡ 12 → day_count (pos (year + 1)) 1 1 ≡ day_count (pos year) month 1 + days_in_month (pos year) month
next_year year month e =
    let last : day_count (pos year) 12 31 + 1 ≡ day_count (pos year) 12 1 + 31 = day_count-day (pos year) 12 31 1 (omega arith) (omega arith) in
    let all = day_count-last_of_year (pos year) in
    let up = day_count-next_year (pos year) (pos (year + 1)) (omega (arith, signed_arith)) (omega (arith, signed_arith)) in
    rw e (omega (arith, last, all, up))

Goes : ℕ → Type 0
Goes more = (year month days : ℕ) → days ≤ more → 1 ≤ month → month ≤ 12 → IsFound year month days (date_from more year month days)

step : (more : ℕ) → Goes more → (year month days : ℕ) (short twelve : Bool) → ltb days (days_in_month (pos year) month) ≡ short → eqb month 12 ≡ twelve → days ≤ suc more → 1 ≤ month → month ≤ 12
    → IsFound year month days (cond short (year, month, days + 1) (cond twelve (date_from more (year + 1) 1 (days - days_in_month (pos year) month)) (date_from more year (month + 1) (days - days_in_month (pos year) month))))
unfolding Goes
step more go year month days true twelve short is le low high = within year month days low high (ltb-true days (days_in_month (pos year) month) short)
step more go year month days false true short is le low high =
    let long : days_in_month (pos year) month ≤ days = ltb-false days (days_in_month (pos year) month) short in
    let e : month ≡ 12 = eqb-true month 12 is in
    let some = days_in_month_bounds (pos year) month in
    moved year month days (year + 1) 1 _ long (next_year year month e) (go (year + 1) 1 (days - days_in_month (pos year) month) (omega (arith, some)) (omega arith) (omega arith))
step more go year month days false false short is le low high =
    let long : days_in_month (pos year) month ≤ days = ltb-false days (days_in_month (pos year) month) short in
    let below : month < 12 = grind (arith, nat_tests) in
    let some = days_in_month_bounds (pos year) month in
    moved year month days year (month + 1) _ long (day_count-next_month (pos year) month low) (go year (month + 1) (days - days_in_month (pos year) month) (omega (arith, some)) (omega arith) (omega arith))

found : (more : ℕ) → Goes more
unfolding date_from Goes
found zero year month days le low high = within year month days low high (omega (arith, days_in_month_bounds (pos year) month))
found (suc more) year month days le low high = step more (found more) year month days (ltb days (days_in_month (pos year) month)) (eqb month 12) refl refl le low high

pub found_from : (year month days : ℕ) → 1 ≤ month → month ≤ 12 → IsFound year month days (date_from days year month days)
unfolding Goes
found_from year month days low high = found days year month days (omega arith) low high

-- past the year 9999
count_past : (civil : ℕ × ℕ × ℕ) → 9999 < civil.0 → 1 ≤ civil.2 → 7_304_850 ≤ count civil
count_past civil past low =
    let later : day_count (pos 10000) 1 1 ≤ day_count (pos civil.0) 1 1 = elim (cases_lt 10000 civil.0) [
      | inl lt ↦ omega (arith, day_count-later_year (pos 10000) (pos civil.0) (omega (arith, signed_arith)) (omega (arith, signed_arith)))
      | inr le ↦ (let e : civil.0 ≡ 10000 = omega arith in rw e (omega arith))
    ] in
    omega (arith, later, day_count-end, day_count-day_of_year (pos civil.0) civil.1 civil.2 low)

civil_is : (year month days : ℕ) (civil : ℕ × ℕ × ℕ) → IsFound year month days civil → civil.0 ≤ 9999 → IsCivilDate (pos civil.0) civil.1 civil.2
civil_is year month days civil f le = ((omega (arith, signed_arith), omega (arith, signed_arith)), (f.month_low, f.month_high), (f.day_low, f.day_high))

same_in_year : (y₁ : ℤ) (m₁ d₁ : ℕ) (y₂ : ℤ) (m₂ d₂ : ℕ) → IsCivilDate y₁ m₁ d₁ → IsCivilDate y₂ m₂ d₂ → day_count y₁ m₁ d₁ ≡ day_count y₂ m₂ d₂ → y₁ ≡ y₂ → (y₁ ≡ y₂) × (m₁ ≡ m₂) × (d₁ ≡ d₂)
same_in_year y₁ m₁ d₁ y₂ m₂ d₂ a b e year =
    let e₁ : day_count y₁ m₁ d₁ ≡ day_count y₁ m₂ d₂ = e ∙ ap (λ (y : ℤ). day_count y m₂ d₂) (sym year) in
    let e₂ : day_count y₂ m₁ d₁ ≡ day_count y₂ m₂ d₂ = ap (λ (y : ℤ). day_count y m₁ d₁) (sym year) ∙ e in
    elim (cases_order m₁ m₂) [
      | inl month ↦
          let e₃ : day_count y₁ m₁ d₁ ≡ day_count y₁ m₁ d₂ = e₁ ∙ ap (λ (m : ℕ). day_count y₁ m d₂) (sym month) in
          (year, month, omega (arith, e₃, day_count-day y₁ m₁ d₁ d₂ a.2.0 b.2.0))
      | inr (inl lt) ↦ absurd (omega (arith, e₁, day_count-lt_month y₁ m₁ d₁ m₂ d₂ a b.2.0 lt))
      | inr (inr gt) ↦ absurd (omega (arith, e₂, day_count-lt_month y₂ m₂ d₂ m₁ d₁ b a.2.0 gt))
    ]

-- dates with the same count are the same
same_parts : (y₁ : ℤ) (m₁ d₁ : ℕ) (y₂ : ℤ) (m₂ d₂ : ℕ) → IsCivilDate y₁ m₁ d₁ → IsCivilDate y₂ m₂ d₂ → day_count y₁ m₁ d₁ ≡ day_count y₂ m₂ d₂ → (y₁ ≡ y₂) × (m₁ ≡ m₂) × (d₁ ≡ d₂)
same_parts y₁ m₁ d₁ y₂ m₂ d₂ a b e =
    by_lt_z y₁ y₂ (λ lt. absurd (omega (arith, e, day_count-lt_year y₁ m₁ d₁ y₂ m₂ d₂ a b.2.0 lt)))
    (λ ge. by_lt_z y₂ y₁ (λ gt. absurd (omega (arith, e, day_count-lt_year y₂ m₂ d₂ y₁ m₁ d₁ b a.2.0 gt)))
    (λ le. let year : y₁ ≡ y₂ = omega (arith, signed_arith) in same_in_year y₁ m₁ d₁ y₂ m₂ d₂ a b e year))

-- the first date with its days before it, and a date so many days later
count_of : (first : Date) (year month day : ℕ) → first.year ≡ pos year → first.month ≡ month → first.day ≡ day → day_count first.year first.month first.day + 1 ≡ day_count (pos year) month 1 + day
count_of first year month day e f g = rw (e, f, g) (day_count-day (pos year) month day 1 (rw (← g) first.day_in.0) (omega arith))

pub date_found : (first date : Date) (year month day days : ℕ) → first.year ≡ pos year → first.month ≡ month → first.day ≡ day → epoch_day date ≡ epoch_day first +ℤ pos days
    → let civil = date_from (day - 1 + days) year month (day - 1 + days) in (date.year ≡ pos civil.0) × (date.month ≡ civil.1) × (date.day ≡ civil.2)
date_found first date year month day days e f g later =
    let low : 1 ≤ day = rw (← g) first.day_in.0 in
    let month_low : 1 ≤ month = rw (← f) first.month_in.0 in
    let month_high : month ≤ 12 = rw (← f) first.month_in.1 in
    let civil = date_from (day - 1 + days) year month (day - 1 + days) in
    let there = found_from year month (day - 1 + days) month_low month_high in
    let before = count_of first year month day e f g in
    let is : IsCivilDate date.year date.month date.day = (date.year_in, date.month_in, date.day_in) in
    let same : day_count date.year date.month date.day ≡ count civil =
    omega (arith, signed_arith, later, there.counted, before, days_from_civil-day_count date.year date.month date.day, days_from_civil-day_count first.year first.month first.day) in
    let bound = day_count_bounds date.year date.month date.day is in
    let le : civil.0 ≤ 9999 = elim (cases_lt 9999 civil.0) [ inl lt ↦ absurd (omega (arith, same, bound, count_past civil lt there.day_low)) | inr le ↦ le ] in
    same_parts date.year date.month date.day (pos civil.0) civil.1 civil.2 is (civil_is year month (day - 1 + days) civil there le) same

pub date_past : (first : Date) (year month day days : ℕ) → first.year ≡ pos year → first.month ≡ month → first.day ≡ day → ¬ IsEpochDay (epoch_day first +ℤ pos days)
    → 9999 < (date_from (day - 1 + days) year month (day - 1 + days)).0
date_past first year month day days e f g never =
    let low : 1 ≤ day = rw (← g) first.day_in.0 in
    let month_low : 1 ≤ month = rw (← f) first.month_in.0 in
    let month_high : month ≤ 12 = rw (← f) first.month_in.1 in
    let civil = date_from (day - 1 + days) year month (day - 1 + days) in
    let there = found_from year month (day - 1 + days) month_low month_high in
    let before = count_of first year month day e f g in
    let is : IsCivilDate first.year first.month first.day = (first.year_in, first.month_in, first.day_in) in
    elim (cases_lt 9999 civil.0) [
      | inl lt ↦ lt
      | inr le ↦
          let most = day_count_bounds (pos civil.0) civil.1 civil.2 (civil_is year month (day - 1 + days) civil there le) in
          let least = day_count_bounds first.year first.month first.day is in
          let at = days_from_civil-day_count first.year first.month first.day in
          absurd (never (omega (arith, signed_arith, most, least, there.counted, before, at), omega (arith, signed_arith, most, there.counted, before, at)))
    ]
