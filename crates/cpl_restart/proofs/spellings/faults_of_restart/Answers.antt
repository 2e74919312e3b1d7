use Rattle.cpl_restart.proofs.RestartFaults.{is_elapsed, is_magic, is_no_mark, is_rule, is_shape, is_short, is_sum, is_trailing}
use Rattle.cpl_restart.proofs.spellings.faults_of_restart.Goals as goal

pub returns : goal.returns
returns c = record {
  short = λ grid version n whole has lt. is_short grid version n whole has lt;
  no_mark = λ grid bytes lt. is_no_mark grid bytes lt;
  magic = λ grid bytes le first second. is_magic grid bytes le first second;
  elapsed = λ grid stated whole rest has small ne. is_elapsed grid stated whole rest has small ne;
  shape = λ grid version k n whole rest has lt small ne. is_shape grid version k n whole rest has lt small ne;
  sum = λ grid k stated whole rest has lt small ne. is_sum grid k stated whole rest has lt small ne;
  trailing = λ grid version whole more has lt. is_trailing grid version whole more has lt;
  rules = λ grid version whole fault has broken. is_rule grid version whole fault has broken;
}
