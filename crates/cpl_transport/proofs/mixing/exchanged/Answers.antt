use Rattle.std.proofs.Common.{arith, ◌*◌, ◌/◌, ◌^◌, ◌≤◌, ℕ, ◌-ℤ◌, ℤ, to_z, w64}
use Rattle.std.proofs.lemmas.Int.{ints}
use Rattle.std.specs.Prelude.{unsigned_abs}
use Rattle.cpl_fixed.specs.Amounts.{IsAmount}
use Rattle.cpl_transport.specs.Salts.{IsSmall}
use Rattle.cpl_transport.proofs.Bounds.{read}
use Rattle.cpl_transport.proofs.Columns.{quarter}
use Rattle.cpl_transport.proofs.mixing.exchanged.Goals as goal

small : (a b : ℕ) (x y : ℤ) → IsAmount x → IsAmount y → 4 * a ≤ unsigned_abs (read x) → 4 * b ≤ unsigned_abs (read y) → IsSmall (read (to_z w64 a -ℤ to_z w64 b))
small a b x y h k e f = (omega (arith, ints, h.0, h.1, k.0, k.1, e, f), omega (arith, ints, h.0, h.1, k.0, k.1, e, f))

pub returns-clause-small : goal.returns-clause-small
returns-clause-small c =
    small (unsigned_abs (read c.args.upper) / 2 ^ c.args.mix) (unsigned_abs (read c.args.lower) / 2 ^ c.args.mix) c.args.upper c.args.lower c.requires.upper c.requires.lower
    (quarter c.args.mix (unsigned_abs (read c.args.upper)) c.requires.mix.0) (quarter c.args.mix (unsigned_abs (read c.args.lower)) c.requires.mix.0)
