-- The civil moment so many seconds after a start.
use Rattle.std.specs.Prelude.{◌≡◌, ℕ, zero, suc, ◌+◌, ◌-◌, ◌*◌, ◌/◌, ◌≤◌, ◌<◌, ℤ, pos, ◌+ℤ◌, ◌≤ℤ◌, List, unsigned_abs, slice_index_or, nat_lt, ◌==◌, if◌then◌else◌, Option, Some, None}
use Rattle.jiff.specs.Words.{days_in_month, epoch_day, IsDate, IsBetween, IsEpochDay}
use Rattle.jiff_core.specs.declared.civil.date.Date.{Date}
use Rattle.cpl_namelist.specs.declared.civil.Civil.{Civil}

-- a number of a start
abbrev pub at : List ℤ → ℕ → ℤ
at start k = slice_index_or start k (pos 0)

-- a Gregorian date of year 1 to 9999, and a time of day: year, month, day, hour, minute, second
pub record IsStart (start : List ℤ) : Type 0 where
  pub date : IsDate (at start 0) (at start 1) (at start 2)
  pub year : pos 1 ≤ℤ at start 0
  pub hour : IsBetween (pos 0) (pos 23) (at start 3)
  pub minute : IsBetween (pos 0) (pos 59) (at start 4)
  pub second : IsBetween (pos 0) (pos 59) (at start 5)

-- the date so many days after the first of a month, found month by month; no month is empty, so that there are no
-- more months to go than days
unfoldable pub date_from : ℕ → ℕ → ℕ → ℕ → ℕ × ℕ × ℕ
date_from zero year month days = (year, month, days + 1)
date_from (suc more) year month days =
    if nat_lt days (days_in_month (pos year) month) then (year, month, days + 1)
    else (if month == 12 then date_from more (year + 1) 1 (days - days_in_month (pos year) month)
    else date_from more year (month + 1) (days - days_in_month (pos year) month))

-- the same without its sign, which no number of a start has
abbrev pub part : List ℤ → ℕ → ℕ
part start k = unsigned_abs (at start k)

-- the whole days from the start's date to the moment
abbrev pub days_after : List ℤ → ℕ → ℕ
days_after start seconds = (3600 * part start 3 + 60 * part start 4 + part start 5 + seconds) / 86400

-- year, month and day of the moment so many seconds after the start
abbrev pub civil_after : List ℤ → ℕ → ℕ × ℕ × ℕ
civil_after start seconds =
    let days = part start 2 - 1 + days_after start seconds in date_from days (part start 0) (part start 1) days

-- it is of year 9999 at most
abbrev pub Fits : List ℤ → ℕ → Type 0
Fits start seconds = (civil_after start seconds).0 ≤ 9999

-- the date is this one, or there is none up to 9999
abbrev pub IsThen : ℕ × ℕ × ℕ → Option Date → Type 0
IsThen civil None = 9999 < civil.0
IsThen civil (Some date) = (date.year ≡ pos civil.0) × (date.month ≡ civil.1) × (date.day ≡ civil.2)

-- the date so many days later, or there is none up to 9999
abbrev pub IsDaysLater : Date → ℕ → Option Date → Type 0
IsDaysLater first days None = ¬ IsEpochDay (epoch_day first +ℤ pos days)
IsDaysLater first days (Some date) = epoch_day date ≡ epoch_day first +ℤ pos days

-- as a value of the source
abbrev pub civil_of : ℕ × ℕ × ℕ → Civil
civil_of civil = record { year = pos civil.0; month = pos civil.1; day = pos civil.2 }
