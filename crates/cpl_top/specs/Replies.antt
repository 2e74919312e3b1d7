-- What a command comes to: a refusal, or the files that it writes and the line that it prints.
use Rattle.std.specs.Prelude.{ℕ, List, [], Result, Ok, Err, AllPairs, ◌≢◌}
use Rattle.cpl_top.specs.declared.output.Output.{Output}
use Rattle.cpl_top.specs.declared.output.Reply.{Reply}
use Rattle.cpl_top.specs.declared.status.Status.{Status}
use Rattle.cpl_top.specs.declared.status.Status.TheVariants as status

-- the files that are to be written, in order: none at a refusal
abbrev pub outputs_of : Result Reply Status → List Output
outputs_of (Ok reply) = reply.outputs
outputs_of (Err refusal) = []

-- the line that is to be printed
abbrev pub line_of : Result Reply Status → List ℕ
line_of (Ok reply) = reply.line
line_of (Err refusal) = []

abbrev pub status_of : Result Reply Status → Status
status_of (Ok reply) = status.Done
status_of (Err refusal) = refusal

-- no two outputs have one name
abbrev pub AreApart : List Output → Type 0
AreApart outputs = AllPairs (λ a b. a.name ≢ b.name) outputs
