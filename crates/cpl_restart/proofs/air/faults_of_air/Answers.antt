use Rattle.std.proofs.Common.{arith}
use Rattle.cpl_restart.proofs.Faults.{is_short, is_no_mark, is_no_first_count, is_no_second_count, is_magic, is_first_shape, is_second_shape, is_trailing, is_first_negative, is_second_negative}
use Rattle.cpl_restart.proofs.air.faults_of_air.Goals as goal

pub returns : goal.returns
returns c = record {
  short = λ cells n air small has lt. is_short cells n air (omega arith) has lt;
  no_mark = λ cells bytes lt. is_no_mark cells bytes lt;
  no_first_count = λ cells bytes lt. is_no_first_count cells bytes lt;
  no_second_count = λ cells air bytes small has lt. is_no_second_count cells air bytes (omega arith) has lt;
  magic = λ cells bytes le ne. is_magic cells bytes le ne;
  first_shape = λ cells n rest small ne. is_first_shape cells n rest small ne;
  second_shape = λ cells n air rest fits has small ne. is_second_shape cells n air rest (omega arith) has small ne;
  trailing = λ cells air more small has lt. is_trailing cells air more (omega arith) has lt;
  first_negative = λ cells index air small has found. is_first_negative cells index air (omega arith) has found;
  second_negative = λ cells index air small has none found. is_second_negative cells index air (omega arith) has none found;
}
