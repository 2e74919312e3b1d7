-- The exit status of each answer.
use Rattle.std.specs.Prelude.{ℕ}
use Rattle.cpl_top.specs.declared.status.Status.{Status}
use Rattle.cpl_top.specs.declared.status.Status.TheVariants as status

abbrev pub status_number : Status → ℕ
status_number status.Done = 0
status_number status.Usage = 1
status_number (status.Read file) = 2
status_number (status.TooLong file) = 3
status_number (status.Grid fault) = 4
status_number (status.Names fault) = 5
status_number (status.Start fault) = 6
status_number (status.Budget quantity total) = 7
status_number (status.Write file) = 8
status_number status.Print = 9
status_number status.Memory = 10
