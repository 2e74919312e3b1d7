-- The call that failed last, as it is kept.
use Rattle.std.specs.Prelude.{ℕ, List, Option, Some, None, string_bytes}
use Rattle.cpl_io.specs.Causes.{Call, Reading, Writing}
use Rattle.cpl_io.specs.declared.failure.Access.{Access}
use Rattle.cpl_io.specs.declared.failure.Access.TheVariants as access
use Rattle.cpl_io.specs.declared.failure.FailedCall.{FailedCall}

-- the call that does this to the file of this name
abbrev pub access_call : Access → List ℕ → Call
access_call access.Reading name = Reading name
access_call access.Writing name = Writing name

abbrev pub failed_call : Option FailedCall → Option Call
failed_call None = None
failed_call (Some call) = Some (access_call call.access (string_bytes call.name))
