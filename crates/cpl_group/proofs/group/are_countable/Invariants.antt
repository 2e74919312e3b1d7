use Rattle.std.proofs.Common.{ℕ, ◌*◌, ◌^◌, ◌<◌}
use Rattle.cpl_strip.specs.Strips.{strip_at}
use Rattle.cpl_group.specs.Parts.{size_of}
use Rattle.cpl_group.proofs.group.are_countable.Given as goal

abbrev pub invariant-loop-strip : goal.invariant-loop-strip
invariant-loop-strip l = (n : ℕ) → n < l.strip-index → size_of (strip_at l.strips n) * l.fields < 2 ^ 64
