use Rattle.std.proofs.Common.{◌≡◌, ℕ, ◌≤◌, ℤ, pos, ◌+ℤ◌, to_z, w64, ap, sym, subst, ◌∙◌, arith}
use Rattle.std.proofs.lemmas.Bool.{false≢true}
use Rattle.jiff.specs.Words.{epoch_day, IsEpochDay}
use Rattle.jiff.proofs.SpanFacts.{date_add-days, can_add-days}
use Rattle.jiff_core.proofs.SignedLemmas.{signed_arith, signed_casts}
use Rattle.jiff_core.proofs.DateLemmas.{epoch_day_range}
use Rattle.cpl_namelist.proofs.civil.days_later.Goals as goal

pub returns-then-days-gt-MOST_DAYS : goal.returns-then-days-gt-MOST_DAYS
returns-then-days-gt-MOST_DAYS c = λ h. omega (arith, signed_arith, epoch_day_range c.args.first, h, c.if-days-gt-MOST_DAYS.true)

small : (n : ℕ) → n ≤ 7_304_483 → to_z w64 n ≡ pos n
small n le = omega (arith, signed_casts)

pub returns-in-Ok : goal.returns-in-Ok
returns-in-Ok c =
    let days = c.args.days in
    c.in-Ok.ensures.value ∙ date_add-days c.args.first (to_z w64 days) c.days.result c.days.ensures
    ∙ ap (λ (n : ℤ). epoch_day c.args.first +ℤ n) (small days c.if-days-gt-MOST_DAYS.false)

pub returns-in-Err : goal.returns-in-Err
returns-in-Err c =
    let days = c.args.days in
    λ h. let day = subst (λ (n : ℤ). IsEpochDay (epoch_day c.args.first +ℤ n)) (sym (small days c.if-days-gt-MOST_DAYS.false)) h in
    absurd (false≢true (c.in-Err.ensures.succeeds.1 ((can_add-days c.args.first (to_z w64 days) c.days.result c.days.ensures).1 day)))
