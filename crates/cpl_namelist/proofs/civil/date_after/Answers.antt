use Rattle.std.proofs.Common.{◌≡◌, ℕ, ◌-◌, ◌+◌, Option, Some, None, pos, subst}
use Rattle.jiff_core.specs.declared.civil.date.Date.{Date}
use Rattle.cpl_namelist.specs.Civil.{IsThen, IsDaysLater, date_from, part, days_after}
use Rattle.cpl_namelist.proofs.Months.{date_found, date_past}
use Rattle.cpl_namelist.proofs.civil.date_after.Goals as goal

then_is : (first : Date) (later : Option Date) (year month day days : ℕ) → first.year ≡ pos year → first.month ≡ month → first.day ≡ day → IsDaysLater first days later
    → IsThen (date_from (day - 1 + days) year month (day - 1 + days)) later
then_is first None year month day days e f g h = date_past first year month day days e f g h
then_is first (Some date) year month day days e f g h = date_found first date year month day days e f g h

pub returns : goal.returns
returns c =
    let start = c.args.start.now in
    let first = c.date_of_parts-first.result in
    let ymd = c.date_of_parts-first.ensures in
    let year : first.year ≡ pos (part start 0) = cc (ymd.0, c.part.ensures) in
    let month : first.month ≡ part start 1 = cc (ymd.1, c.part-2.ensures) in
    let day : first.day ≡ part start 2 = cc (ymd.2, c.part-3.ensures) in
    let h = subst (λ (days : ℕ). IsDaysLater first days c.days_later.result) c.days_after.ensures c.days_later.ensures in
    then_is first c.days_later.result (part start 0) (part start 1) (part start 2) (days_after start c.args.seconds) year month day h
